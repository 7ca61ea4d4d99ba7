use Rattle.locked_book.proofs.Rounds.{begun}
use Rattle.locked_book.proofs.locked.Locked.open.Goals as goal

pub invariant_of-result : goal.invariant_of-result
invariant_of-result g c = begun c.of-opening.result.value c.args.book c.of-opening.ensures c.requires.whole (g.met.D.Disk.only_now c.args.book.disk)
