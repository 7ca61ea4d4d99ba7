use Rattle.book_lock.proofs.Keeps.{starts}
use Rattle.book_lock.proofs.lock.BookLock.start.Goals as goal

pub new-requires : goal.new-requires
new-requires g c =
    rw (c.push_reserved.ensures.items, c.in-Ok.ensures.items, c.of-about.ensures) (starts g.V.Grows.entries c.args.value c.count-count.result c.count-count.ensures)
