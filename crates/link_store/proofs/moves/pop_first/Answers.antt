use Rattle.std.proofs.Common.{◌≡◌, ◌∙◌, [], ◌∷◌, get_or, set, None, IsSome, ap, sym, subst, refl, arith}
use Rattle.std.specs.List.{AllByRecursion}
use Rattle.link_store.specs.Slots.{nexts, cells}
use Rattle.link_store.specs.Rings.{ring_of}
use Rattle.link_store.specs.Kept.{IsTaken, items_of, lists_in, with_item}
use Rattle.link_store.proofs.Added.{with_first}
use Rattle.link_store.proofs.Numbers.{numbered_without}
use Rattle.link_store.proofs.Passed.{IsDone, done, if_some, not_none, taken}
use Rattle.link_store.proofs.Views.{items_none, lists_at}
use Rattle.link_store.proofs.moves.pop_first.Goals as goal

pub returns-in_default-clause-lists : goal.returns-in_default-clause-lists
returns-in_default-clause-lists g c =
    let slots = c.args.slots.now in
    let heads = c.args.heads.now in
    let lens = c.args.lens.now in
    let all = lists_in slots heads lens in
    let none : get_or all c.args.from [] ≡ [] = lists_at (nexts slots) (cells slots) heads lens c.args.from c.requires.there c.requires.linked.joined.lens_len ∙ ap (items_of (cells slots)) c.in_default.ensures.none in
    subst (λ xs. IsTaken c.args.from xs all all None) (sym none) (refl, refl)

pub returns : goal.returns
returns g c =
    let slots = c.args.slots.now in
    let heads = c.args.heads.now in
    let lens = c.args.lens.now in
    let from = c.args.from in
    let x = c.in-Some.x in
    let after = c.take_value.new.slots in
    let old = c.requires.linked in
    let cell = get_or (cells slots) x None in
    let all = lists_in slots heads lens in
    let (qs, stands) = c.in-Some.ensures.first in
    let free_ring = ring_of (nexts slots) heads lens 0 in
    let shifted = c.shift_first.ensures.shifted [] qs stands in
    let value = rw c.shift_first.ensures.cells at c.take_value.ensures.value in
    let m : IsDone slots heads lens from 0 x [] qs (x ∷ free_ring) after c.shift_first.new.lens =
    done slots heads lens from 0 x [] qs (x ∷ free_ring) c.shift_first.new.slots after c.shift_first.new.lens None
    old (λ e. absurd (omega (arith, e, c.requires.list))) c.requires.there old.some stands (with_first x free_ring) shifted c.shift_first.auto.slots
    c.take_value.ensures.nexts c.take_value.ensures.prevs c.take_value.ensures.rings (c.take_value.ensures.cells ∙ ap (λ cs. set cs x None) c.shift_first.ensures.cells)
    (λ _. refl) (λ some. absurd (omega (arith, some))) in
    let full : IsSome cell = (subst (λ xs. AllByRecursion (λ k. IsSome (get_or (cells slots) k None)) xs) stands (old.full from c.requires.list c.requires.there)).0 in
    let first : get_or all from [] ≡ with_item x cell (items_of (cells slots) qs) = lists_at (nexts slots) (cells slots) heads lens from c.requires.there old.joined.lens_len ∙ ap (items_of (cells slots)) stands in
    let free : get_or all 0 [] ≡ [] = lists_at (nexts slots) (cells slots) heads lens 0 old.some old.joined.lens_len ∙ items_none (cells slots) free_ring old.free in
    let none_left : items_of (cells after) (x ∷ free_ring) ≡ [] = subst (λ xs. items_of (cells after) xs ≡ []) m.come (items_none (cells after) _ m.linked.free) in
    record {
      linked = m.linked;
      lists = taken from x cell (items_of (cells slots) qs) all _ c.take_value.result full value first free c.requires.list (m.lists ∙ ap (set (set all from (items_of (cells slots) qs)) 0) none_left);
      none = not_none cell c.take_value.result _ full value;
      some = if_some c.take_value.result _ m.one_more;
      numbered = λ n numbered. rw (c.take_value.ensures.cells, c.shift_first.ensures.cells) (numbered_without (cells slots) x n m.inside numbered);
    }
