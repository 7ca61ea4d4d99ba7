use Rattle.std.proofs.Common.{[], Some, is_some, unwrap_or, ap, refl, arith}
use Rattle.std.proofs.Math.ListN.{set}
use Rattle.edge_traits.specs.Named.{find_named}
use Rattle.edge_memory.proofs.Lookups.{IsPlace, Renewed, is_place, recounted, count_here, still_found, not_held, with_faults, same_parts}
use Rattle.edge_memory.proofs.shelf.MemShelfShelf.take_back.Goals as goal

place : (c : goal.After-self-1) → IsPlace c.args.name.now c.args.self.now.held.items c.in-Some.i c.index_mut-held.result.now
place c = is_place c.args.name.now c.args.self.now.held.items c.deref.result.now c.in-Some.i c.index_mut-held.result.now c.place_of.result c.deref.ensures.value c.place_of.ensures c.in-Some.is

renewed : (c : goal.After-self-1) → Renewed (λ h. h.faults) c.args.name.now c.args.self.now.held.items (set c.args.self.now.held.items c.in-Some.i (with_faults c.index_mut-held.result.now c.saturating_add-held.result)) c.saturating_add-held.result
renewed c = recounted _ c.args.self.now.held.items c.in-Some.i c.index_mut-held.result.now c.saturating_add-held.result (place c) c.index_mut-held.ensures.value

pub returns-in-Some-clause-sum : goal.returns-in-Some-clause-sum
returns-in-Some-clause-sum c =
    let now = ap (λ o. unwrap_or o 0) (renewed c).found in
    let was = count_here _ _ _ _ (place c) c.index_mut-held.ensures.value in
    cc (now, was)

pub returns-in-Some-clause-count : goal.returns-in-Some-clause-count
returns-in-Some-clause-count c =
    let now = ap (λ o. unwrap_or o 0) (renewed c).found in
    let was = count_here _ _ _ _ (place c) c.index_mut-held.ensures.value in
    rw (now, was) (omega arith)

pub returns-in-Some-clause-other_counts : goal.returns-in-Some-clause-other_counts
returns-in-Some-clause-other_counts c = λ other ne. ap (λ o. unwrap_or o 0) ((renewed c).others other ne)

pub returns-in-Some-clause-told : goal.returns-in-Some-clause-told
returns-in-Some-clause-told c =
    let same = c.index_mut-held.ensures.value in
    ap Some (same_parts (λ h. h.content) c.args.self.now.held.items c.in-Some.i c.index_mut-held.result.now _ same refl refl)

pub returns-in-Some-clause-reads : goal.returns-in-Some-clause-reads
returns-in-Some-clause-reads c = λ any.
    ap (λ l. unwrap_or (find_named any l) []) (same_parts (λ h. h.reads_to_fail) c.args.self.now.held.items c.in-Some.i c.index_mut-held.result.now _ c.index_mut-held.ensures.value refl refl)

pub returns-in-Some-clause-stay_listed : goal.returns-in-Some-clause-stay_listed
returns-in-Some-clause-stay_listed c = still_found _ _ _ _ _ (renewed c)

pub returns-in_default-clause-sum : goal.returns-in_default-clause-sum
returns-in_default-clause-sum c =
    let none = not_held (λ h. h.faults) c.args.name.now c.args.self.now.held.items c.deref.result.now c.place_of.result c.deref.ensures.value c.place_of.ensures c.in_default.is in
    let missing = ap is_some none in
    absurd (cc c.requires.listed)
