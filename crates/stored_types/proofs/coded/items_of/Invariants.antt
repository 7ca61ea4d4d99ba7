use Rattle.std.proofs.Common.{◌≡◌, ◌-◌}
use Rattle.stored_types.specs.Code.{items_at}
use Rattle.stored_types.proofs.Counted.{with_front}
use Rattle.stored_types.proofs.coded.items_of.Given as goal

abbrev pub invariant-items : goal.invariant-items
invariant-items g l = with_front l.items.items (items_at g.T.Coded.read (l.count - l.counter) l.rest) ≡ items_at g.T.Coded.read l.count l.bytes
