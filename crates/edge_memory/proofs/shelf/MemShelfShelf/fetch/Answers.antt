use Rattle.std.proofs.Common.{◌≡◌, [], Some, is_some, is_none, unwrap_or, ap, refl, ◌∙◌, arith, rules}
use Rattle.std.proofs.Math.ListN.{set}
use Rattle.edge_traits.specs.Named.{find_named}
use Rattle.edge_memory.specs.Shelf.{named}
use Rattle.edge_memory.proofs.Lookups.{IsPlace, Renewed, is_place, found_here, name_here, renewed_set, recounted, count_here, still_found, not_held, with_faults, with_reads, same_parts}
use Rattle.edge_memory.proofs.shelf.MemShelfShelf.fetch.Goals as goal

pub returns-in_default-clause-absent : goal.returns-in_default-clause-absent
returns-in_default-clause-absent c = λ _.
    ap is_none (not_held (λ h. h.content) c.args.name.now c.args.self.now.held.items c.deref.result.now c.place_of.result c.deref.ensures.value c.place_of.ensures c.in_default.is)

pub returns-in_default-clause-as_told : goal.returns-in_default-clause-as_told
returns-in_default-clause-as_told c = λ _ here.
    let gone = ap is_none (not_held (λ h. h.content) c.args.name.now c.args.self.now.held.items c.deref.result.now c.place_of.result c.deref.ensures.value c.place_of.ensures c.in_default.is) in
    absurd (cc (gone, here))

place_failed : (c : goal.After-self-1) → IsPlace c.args.name.now c.args.self.now.held.items c.in-Some.i c.index_mut-held.result.now
place_failed c = is_place c.args.name.now c.args.self.now.held.items c.deref.result.now c.in-Some.i c.index_mut-held.result.now c.place_of.result c.deref.ensures.value c.place_of.ensures c.in-Some.is

renewed_failed : (c : goal.After-self-1) → Renewed (λ h. h.faults) c.args.name.now c.args.self.now.held.items (set c.args.self.now.held.items c.in-Some.i (with_faults c.index_mut-held.result.now c.saturating_add-held.result)) c.saturating_add-held.result
renewed_failed c = recounted _ c.args.self.now.held.items c.in-Some.i c.index_mut-held.result.now c.saturating_add-held.result (place_failed c) c.index_mut-held.ensures.value

pub returns-then-fails-clause-lacking : goal.returns-then-fails-clause-lacking
returns-then-fails-clause-lacking c = λ gone.
    let here = ap is_none (found_here (λ h. h.content) _ _ _ _ (place_failed c) c.index_mut-held.ensures.value) in
    absurd (cc (gone, here))

pub returns-then-fails-clause-failed : goal.returns-then-fails-clause-failed
returns-then-fails-clause-failed c = λ _.
    let now = ap (λ o. unwrap_or o 0) (renewed_failed c).found in
    let was = count_here _ _ _ _ (place_failed c) c.index_mut-held.ensures.value in
    rw (now, was) (search rules)

pub returns-then-fails-clause-faults : goal.returns-then-fails-clause-faults
returns-then-fails-clause-faults c =
    let now = ap (λ o. unwrap_or o 0) (renewed_failed c).found in
    let was = count_here _ _ _ _ (place_failed c) c.index_mut-held.ensures.value in
    cc (now, was, c.saturating_add-held.ensures)

pub returns-then-fails-clause-told : goal.returns-then-fails-clause-told
returns-then-fails-clause-told c =
    ap Some (same_parts (λ h. h.content) c.args.self.now.held.items c.in-Some.i c.index_mut-held.result.now _ c.index_mut-held.ensures.value refl refl)

pub returns-then-fails-clause-count : goal.returns-then-fails-clause-count
returns-then-fails-clause-count c =
    let now = ap (λ o. unwrap_or o 0) (renewed_failed c).found in
    let was = count_here _ _ _ _ (place_failed c) c.index_mut-held.ensures.value in
    rw (now, was) (omega arith)

pub returns-then-fails-clause-other_counts : goal.returns-then-fails-clause-other_counts
returns-then-fails-clause-other_counts c = λ other ne. ap (λ o. unwrap_or o 0) ((renewed_failed c).others other ne)

pub returns-then-fails-clause-stay_listed : goal.returns-then-fails-clause-stay_listed
returns-then-fails-clause-stay_listed c = still_found _ _ _ _ _ (renewed_failed c)

pub returns-then-fails-clause-other_reads : goal.returns-then-fails-clause-other_reads
returns-then-fails-clause-other_reads c = λ other _.
    ap (λ l. unwrap_or (find_named other l) []) (same_parts (λ h. h.reads_to_fail) c.args.self.now.held.items c.in-Some.i c.index_mut-held.result.now (with_faults c.index_mut-held.result.now c.saturating_add-held.result) c.index_mut-held.ensures.value refl refl)

pub returns-then-fails-clause-reads_stay : goal.returns-then-fails-clause-reads_stay
returns-then-fails-clause-reads_stay c =
    ap (λ l. unwrap_or (find_named c.args.name.now l) []) (same_parts (λ h. h.reads_to_fail) c.args.self.now.held.items c.in-Some.i c.index_mut-held.result.now (with_faults c.index_mut-held.result.now c.saturating_add-held.result) c.index_mut-held.ensures.value refl refl)

place : (c : goal.After-fetched) → IsPlace c.args.name.now c.args.self.now.held.items c.in-Some.i c.index_mut-held.result.now
place c = is_place c.args.name.now c.args.self.now.held.items c.deref.result.now c.in-Some.i c.index_mut-held.result.now c.place_of.result c.deref.ensures.value c.place_of.ensures c.in-Some.is

renewed : (c : goal.After-fetched) → Renewed (λ h. h.reads_to_fail) c.args.name.now c.args.self.now.held.items (set c.args.self.now.held.items c.in-Some.i (with_reads c.index_mut-held.result.now c.replace-reads_to_fail.new.dest)) c.replace-reads_to_fail.new.dest
renewed c = renewed_set (λ h. h.reads_to_fail) _ _ _ _ (with_reads c.index_mut-held.result.now c.replace-reads_to_fail.new.dest) (place c) (ap (λ h. h.name) c.index_mut-held.ensures.value)

same_counts : (c : goal.After-fetched) → named (λ h. h.faults) (set c.args.self.now.held.items c.in-Some.i (with_reads c.index_mut-held.result.now c.replace-reads_to_fail.new.dest)) ≡ named (λ h. h.faults) c.args.self.now.held.items
same_counts c = same_parts (λ h. h.faults) c.args.self.now.held.items c.in-Some.i c.index_mut-held.result.now (with_reads c.index_mut-held.result.now c.replace-reads_to_fail.new.dest) c.index_mut-held.ensures.value refl refl

pub returns-clause-lacking : goal.returns-clause-lacking
returns-clause-lacking c = λ gone.
    let here = ap is_none (found_here (λ h. h.content) _ _ _ _ (place c) c.index_mut-held.ensures.value) in
    absurd (cc (gone, here))

pub returns-clause-name : goal.returns-clause-name
returns-clause-name c =
    let here = name_here _ _ _ _ (place c) c.index_mut-held.ensures.value in
    let made = ap (λ v. v.name) c.fetched.ensures.source in
    cc (here, made, c.in-Ok.ensures.name)

pub returns-clause-content : goal.returns-clause-content
returns-clause-content c = λ content told.
    let here = found_here (λ h. h.content) _ _ _ _ (place c) c.index_mut-held.ensures.value in
    let made = ap (λ v. v.told) c.fetched.ensures.source in
    cc (here, made, told, c.in-Ok.ensures.content)

pub returns-clause-told : goal.returns-clause-told
returns-clause-told c =
    ap Some (same_parts (λ h. h.content) c.args.self.now.held.items c.in-Some.i c.index_mut-held.result.now _ c.index_mut-held.ensures.value refl refl)

pub returns-clause-faults : goal.returns-clause-faults
returns-clause-faults c = ap (λ l. unwrap_or (find_named c.args.name.now l) 0) (same_counts c)

pub returns-clause-count : goal.returns-clause-count
returns-clause-count c = rw (same_counts c) (omega arith)

pub returns-clause-other_counts : goal.returns-clause-other_counts
returns-clause-other_counts c = λ other _. ap (λ l. unwrap_or (find_named other l) 0) (same_counts c)

pub returns-clause-listed : goal.returns-clause-listed
returns-clause-listed c =
    ap (λ l. is_some (find_named c.args.name.now l)) (same_counts c) ∙ ap is_some (found_here (λ h. h.faults) _ _ _ _ (place c) c.index_mut-held.ensures.value)

pub returns-clause-stay_listed : goal.returns-clause-stay_listed
returns-clause-stay_listed c = λ other was. ap (λ l. is_some (find_named other l)) (same_counts c) ∙ was

pub returns-clause-reads : goal.returns-clause-reads
returns-clause-reads c =
    let here = ap (λ o. unwrap_or o []) (found_here (λ h. h.reads_to_fail) _ _ _ _ (place c) c.index_mut-held.ensures.value) in
    cc (here, c.fetched.ensures.reads, c.replace-reads_to_fail.ensures.value)

pub returns-clause-reads_once : goal.returns-clause-reads_once
returns-clause-reads_once c =
    let now = ap (λ o. unwrap_or o []) (renewed c).found in
    cc (now, c.replace-reads_to_fail.ensures.after, c.new.ensures)

pub returns-clause-other_reads : goal.returns-clause-other_reads
returns-clause-other_reads c = λ other ne. ap (λ o. unwrap_or o []) ((renewed c).others other ne)
