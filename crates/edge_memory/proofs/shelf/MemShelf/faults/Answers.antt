use Rattle.std.proofs.Common.{unwrap_or, ap, sym}
use Rattle.edge_memory.proofs.Lookups.{is_place, count_here, not_held}
use Rattle.edge_memory.proofs.shelf.MemShelf.faults.Goals as goal

pub returns-in-Some : goal.returns-in-Some
returns-in-Some c =
    let place = is_place c.args.name.now c.args.self.now.held.items c.deref.result.now c.in-Some.i c.index.result.now c.place_of.result c.deref.ensures.value c.place_of.ensures c.in-Some.is in
    sym (count_here _ _ _ _ place c.index.ensures)

pub returns-in-None : goal.returns-in-None
returns-in-None c =
    sym (ap (λ o. unwrap_or o 0) (not_held (λ h. h.faults) c.args.name.now c.args.self.now.held.items c.deref.result.now c.place_of.result c.deref.ensures.value c.place_of.ensures c.in-None.is))
