use Rattle.std.proofs.Common.{◌≡◌, take}
use Rattle.step_code.specs.After.{numbered}
use Rattle.core_state.proofs.copies.new_dumps.Given as goal

abbrev pub invariant-items : goal.invariant-items
invariant-items l = (l.place ≡ l.item-index) × (l.dumps.items ≡ numbered l.no l.dump l.bot l.now (take l.item-index l.items))
