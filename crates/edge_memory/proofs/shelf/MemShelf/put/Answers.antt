use Rattle.std.proofs.Common.{◌≡◌, [], Some, None, is_some, is_none, unwrap_or, ap, refl, ◌∙◌}
use Rattle.std.proofs.Math.ListN.{set}
use Rattle.edge_traits.specs.Named.{find_named}
use Rattle.edge_memory.specs.declared.shelf.Held.{Held}
use Rattle.edge_memory.specs.Shelf.{named}
use Rattle.edge_memory.proofs.Lookups.{IsPlace, Renewed, is_place, renewed_set, renewed_push, count_added, still_found, not_held, same_parts}
use Rattle.edge_memory.proofs.shelf.MemShelf.put.Goals as goal

-- the name is there: its file gets another content
abbrev changed : goal.After-drop-held-in-Some → Held
changed c = record { name = c.index_mut-held.result.now.name; content = c.in_ok-content.content; reads_to_fail = c.args.fail; faults = c.index_mut-held.result.now.faults }

place : (c : goal.After-drop-held-in-Some) → IsPlace c.args.name.now c.args.self.now.held.items c.in-Some.i c.index_mut-held.result.now
place c = is_place c.args.name.now c.args.self.now.held.items c.deref.result.now c.in-Some.i c.index_mut-held.result.now c.place_of.result c.deref.ensures.value c.place_of.ensures c.in-Some.is

renewed : {A : Type 0} (part : Held → A) (c : goal.After-drop-held-in-Some) → Renewed part c.args.name.now c.args.self.now.held.items (set c.args.self.now.held.items c.in-Some.i (changed c)) (part (changed c))
renewed part c = renewed_set part _ _ _ _ (changed c) (place c) (ap (λ h. h.name) c.index_mut-held.ensures.value)

same_counts : (c : goal.After-drop-held-in-Some) → named (λ h. h.faults) (set c.args.self.now.held.items c.in-Some.i (changed c)) ≡ named (λ h. h.faults) c.args.self.now.held.items
same_counts c = same_parts (λ h. h.faults) c.args.self.now.held.items c.in-Some.i c.index_mut-held.result.now (changed c) c.index_mut-held.ensures.value refl refl

pub returns-in-Some-clause-content : goal.returns-in-Some-clause-content
returns-in-Some-clause-content c = (renewed (λ h. h.content) c).found ∙ ap Some c.in_ok-content.ensures

pub returns-in-Some-clause-reads : goal.returns-in-Some-clause-reads
returns-in-Some-clause-reads c = ap (λ o. unwrap_or o []) (renewed (λ h. h.reads_to_fail) c).found

pub returns-in-Some-clause-listed : goal.returns-in-Some-clause-listed
returns-in-Some-clause-listed c = ap is_some (renewed (λ h. h.faults) c).found

pub returns-in-Some-clause-counts : goal.returns-in-Some-clause-counts
returns-in-Some-clause-counts c = λ any. ap (λ l. unwrap_or (find_named any l) 0) (same_counts c)

pub returns-in-Some-clause-other_contents : goal.returns-in-Some-clause-other_contents
returns-in-Some-clause-other_contents c = (renewed (λ h. h.content) c).others

pub returns-in-Some-clause-other_lacks : goal.returns-in-Some-clause-other_lacks
returns-in-Some-clause-other_lacks c = λ other ne. ap is_none ((renewed (λ h. h.content) c).others other ne)

pub returns-in-Some-clause-other_reads : goal.returns-in-Some-clause-other_reads
returns-in-Some-clause-other_reads c = λ other ne. ap (λ o. unwrap_or o []) ((renewed (λ h. h.reads_to_fail) c).others other ne)

pub returns-in-Some-clause-stay_listed : goal.returns-in-Some-clause-stay_listed
returns-in-Some-clause-stay_listed c = λ any was. ap (λ l. is_some (find_named any l)) (same_counts c) ∙ was

-- the name is new: a file is put behind the others
abbrev added : goal.In_ok-push-in-None → Held
added c = record { name = c.in_ok-copy-in-None.field-0; content = c.in_ok-content.content; reads_to_fail = c.args.fail; faults = 0 }

not_there : {A : Type 0} (part : Held → A) (c : goal.In_ok-push-in-None) → find_named c.args.name.now (named part c.args.self.now.held.items) ≡ None
not_there part c = not_held part c.args.name.now c.args.self.now.held.items c.deref.result.now c.place_of.result c.deref.ensures.value c.place_of.ensures c.in-None.is

more : {A : Type 0} (part : Held → A) (c : goal.In_ok-push-in-None) → Renewed part c.args.name.now c.args.self.now.held.items c.push.new.self.items (part (added c))
more part c = renewed_push part _ _ _ (added c) (not_there part c) c.in_ok-copy-in-None.ensures c.in_ok-push-in-None.ensures.items

pub returns-in_ok-push-in-None-clause-content : goal.returns-in_ok-push-in-None-clause-content
returns-in_ok-push-in-None-clause-content c = (more (λ h. h.content) c).found ∙ ap Some c.in_ok-content.ensures

pub returns-in_ok-push-in-None-clause-reads : goal.returns-in_ok-push-in-None-clause-reads
returns-in_ok-push-in-None-clause-reads c = ap (λ o. unwrap_or o []) (more (λ h. h.reads_to_fail) c).found

pub returns-in_ok-push-in-None-clause-listed : goal.returns-in_ok-push-in-None-clause-listed
returns-in_ok-push-in-None-clause-listed c = ap is_some (more (λ h. h.faults) c).found

pub returns-in_ok-push-in-None-clause-counts : goal.returns-in_ok-push-in-None-clause-counts
returns-in_ok-push-in-None-clause-counts c = count_added c.args.name.now c.args.self.now.held.items c.push.new.self.items (more (λ h. h.faults) c) (not_there (λ h. h.faults) c)

pub returns-in_ok-push-in-None-clause-other_contents : goal.returns-in_ok-push-in-None-clause-other_contents
returns-in_ok-push-in-None-clause-other_contents c = (more (λ h. h.content) c).others

pub returns-in_ok-push-in-None-clause-other_lacks : goal.returns-in_ok-push-in-None-clause-other_lacks
returns-in_ok-push-in-None-clause-other_lacks c = λ other ne. ap is_none ((more (λ h. h.content) c).others other ne)

pub returns-in_ok-push-in-None-clause-other_reads : goal.returns-in_ok-push-in-None-clause-other_reads
returns-in_ok-push-in-None-clause-other_reads c = λ other ne. ap (λ o. unwrap_or o []) ((more (λ h. h.reads_to_fail) c).others other ne)

pub returns-in_ok-push-in-None-clause-stay_listed : goal.returns-in_ok-push-in-None-clause-stay_listed
returns-in_ok-push-in-None-clause-stay_listed c = still_found _ _ _ _ _ (more (λ h. h.faults) c)
