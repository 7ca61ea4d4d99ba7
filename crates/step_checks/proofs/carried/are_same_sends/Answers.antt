use Rattle.std.proofs.lemmas.Slice.Eq.{bytes_eq-Decides, slice_eq-Decides}
use Rattle.step_checks.proofs.Same.{pairs_decide}
use Rattle.step_checks.proofs.carried.are_same_sends.Goals as goal

pub returns : goal.returns
returns c = slice_eq-Decides (pairs_decide bytes_eq-Decides bytes_eq-Decides) c.args.sends.now c.args.given.now c.eq.result c.eq.ensures
