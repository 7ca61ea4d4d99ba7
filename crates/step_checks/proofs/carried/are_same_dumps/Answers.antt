use Rattle.std.proofs.lemmas.Slice.Eq.{bytes_eq-Decides, slice_eq-Decides}
use Rattle.step_checks.proofs.Same.{notes_decide, pairs_decide}
use Rattle.step_checks.proofs.carried.are_same_dumps.Goals as goal

pub returns : goal.returns
returns c = slice_eq-Decides (pairs_decide bytes_eq-Decides notes_decide) c.args.given.now c.args.dumps.now c.eq.result c.eq.ensures
