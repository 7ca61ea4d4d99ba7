use Rattle.std.proofs.lemmas.Slice.Eq.{bytes_eq-Decides, slice_eq-Decides}
use Rattle.step_checks.proofs.carried.are_same_queues.Goals as goal

pub returns : goal.returns
returns c = slice_eq-Decides bytes_eq-Decides c.args.queues.now c.args.others.now c.eq.result c.eq.ensures
