use Rattle.std.proofs.Common.{◌≡◌, ◌∙◌, [], ◌∷◌, ◌++◌, get_or, set, None, Some, ap, sym, subst, refl, arith, get_or-set_same}
use Rattle.std.specs.List.{AllByRecursion}
use Rattle.link_store.specs.Slots.{nexts, cells}
use Rattle.link_store.specs.Rings.{ring_of}
use Rattle.link_store.specs.Kept.{held_item, items_of, lists_in, with_item}
use Rattle.link_store.proofs.Added.{with_last as with_slot_last}
use Rattle.link_store.proofs.Numbers.{numbered_with}
use Rattle.link_store.proofs.Passed.{IsDone, done}
use Rattle.link_store.proofs.Views.{items_append, items_none, lists_at, set_same}
use Rattle.link_store.proofs.moves.push_last.Goals as goal

pub returns : goal.returns
returns g c =
    let slots = c.args.slots.now in
    let heads = c.args.heads.now in
    let lens = c.args.lens.now in
    let to = c.args.to in
    let x = c.unwrap-x.result in
    let held = c.args.held in
    let after = c.put_value.new.slots in
    let old = c.requires.linked in
    let all = lists_in slots heads lens in
    let (qs, stands) = rw c.unwrap-x.ensures at c.first_of.ensures.first in
    let ring = ring_of (nexts slots) heads lens to in
    let shifted = c.shift_last.ensures.shifted [] qs stands in
    let cells_are = c.put_value.ensures.cells ∙ ap (λ cs. set cs x (Some held)) c.shift_last.ensures.cells in
    let m : IsDone slots heads lens 0 to x [] qs (ring ++ x ∷ []) after c.shift_last.new.lens =
    done slots heads lens 0 to x [] qs (ring ++ x ∷ []) c.shift_last.new.slots after c.shift_last.new.lens (Some held)
    old (λ e. absurd (omega (arith, e, c.requires.list))) old.some c.requires.there stands (with_slot_last x ring) shifted c.shift_last.auto.slots
    c.put_value.ensures.nexts c.put_value.ensures.prevs c.put_value.ensures.rings cells_are
    (λ e. absurd (omega (arith, e, c.requires.list))) (λ _. refl) in
    let free : get_or all 0 [] ≡ [] = lists_at (nexts slots) (cells slots) heads lens 0 old.some old.joined.lens_len ∙ items_none (cells slots) _ old.free in
    let rest : items_of (cells slots) qs ≡ [] = items_none (cells slots) qs (subst (λ xs. AllByRecursion (λ k. get_or (cells slots) k None ≡ None) xs) stands old.free).1 in
    let put : get_or (cells after) x None ≡ Some held = ap (λ cs. get_or cs x None) cells_are ∙ get_or-set_same (cells slots) x (Some held) None m.inside in
    let items : items_of (cells after) (ring ++ x ∷ []) ≡ get_or all to [] ++ held_item x held ∷ [] =
    items_append (cells after) ring (x ∷ []) ∙ ap (λ o. items_of (cells after) ring ++ with_item x o []) put
    ∙ ap (λ xs. xs ++ held_item x held ∷ []) (m.to_same ∙ sym (lists_at (nexts slots) (cells slots) heads lens to c.requires.there old.joined.lens_len)) in
    record {
      linked = m.linked;
      lists = m.lists ∙ ap (λ xs. set (set all 0 xs) to (items_of (cells after) (ring ++ x ∷ []))) rest ∙ ap (λ ls. set ls to (items_of (cells after) (ring ++ x ∷ []))) (set_same all 0 [] [] free) ∙ ap (set all to) items;
      spare = m.one_less;
      numbered = λ n numbered given. rw cells_are (numbered_with (cells slots) x n held m.inside numbered given);
    }
