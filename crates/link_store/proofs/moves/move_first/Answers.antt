use Rattle.std.proofs.Common.{◌≡◌, ◌<◌, ◌∙◌, [], ◌∷◌, false, true, length, get_or, set, None, IsSome, ap, sym, subst, refl, arith}
use Rattle.std.specs.List.{AllByRecursion}
use Rattle.link_store.specs.Slots.{nexts, cells}
use Rattle.link_store.specs.Rings.{ring_of}
use Rattle.link_store.specs.Kept.{IsPassedBack, items_of, lists_in, with_item}
use Rattle.link_store.proofs.Added.{with_first}
use Rattle.link_store.proofs.Passed.{IsDone, done, passed_back, put_same}
use Rattle.link_store.proofs.Views.{length-lists_of, lists_at, set_same}
use Rattle.link_store.proofs.moves.move_first.Goals as goal

pub returns-in_default-clause-lists : goal.returns-in_default-clause-lists
returns-in_default-clause-lists g c =
    let slots = c.args.slots.now in
    let heads = c.args.heads.now in
    let lens = c.args.lens.now in
    let all = lists_in slots heads lens in
    let none : get_or all c.args.from [] ≡ [] = lists_at (nexts slots) (cells slots) heads lens c.args.from c.requires.from_there c.requires.linked.joined.lens_len ∙ ap (items_of (cells slots)) c.in_default.ensures.none in
    subst (λ xs. IsPassedBack c.args.from c.args.to xs all all false) (sym none) (refl, refl)

pub returns-else-from-to-clause-lists : goal.returns-else-from-to-clause-lists
returns-else-from-to-clause-lists g c =
    let slots = c.args.slots.now in
    let heads = c.args.heads.now in
    let lens = c.args.lens.now in
    let from = c.args.from in
    let x = c.in-Some.x in
    let old = c.requires.linked in
    let all = lists_in slots heads lens in
    let cell = get_or (cells slots) x None in
    let (qs, stands) = c.in-Some.ensures.first in
    let full : IsSome cell = (subst (λ xs. AllByRecursion (λ k. IsSome (get_or (cells slots) k None)) xs) stands (old.full from c.requires.from c.requires.from_there)).0 in
    let first : get_or all from [] ≡ with_item x cell (items_of (cells slots) qs) = lists_at (nexts slots) (cells slots) heads lens from c.requires.from_there old.joined.lens_len ∙ ap (items_of (cells slots)) stands in
    let within : from < length all = subst (λ n. from < n) (sym (length-lists_of (nexts slots) (cells slots) heads lens old.joined.lens_len)) c.requires.from_there in
    subst (λ k. IsPassedBack from k (get_or all from []) all all true) c.if-from-to.false (put_same from x cell (items_of (cells slots) qs) all full within first)

pub returns-then-from-to : goal.returns-then-from-to
returns-then-from-to g c =
    let slots = c.args.slots.now in
    let heads = c.args.heads.now in
    let lens = c.args.lens.now in
    let from = c.args.from in
    let to = c.args.to in
    let x = c.in-Some.x in
    let after = c.shift_first.new.slots in
    let old = c.requires.linked in
    let cell = get_or (cells slots) x None in
    let all = lists_in slots heads lens in
    let (qs, stands) = c.in-Some.ensures.first in
    let ring = ring_of (nexts slots) heads lens to in
    let shifted = c.shift_first.ensures.shifted [] qs stands in
    let full : IsSome cell = (subst (λ xs. AllByRecursion (λ k. IsSome (get_or (cells slots) k None)) xs) stands (old.full from c.requires.from c.requires.from_there)).0 in
    let m : IsDone slots heads lens from to x [] qs (x ∷ ring) after c.shift_first.new.lens =
    done slots heads lens from to x [] qs (x ∷ ring) after after c.shift_first.new.lens cell
    old c.if-from-to.true c.requires.from_there c.requires.to_there stands (with_first x ring) shifted c.shift_first.auto.slots
    refl refl refl (c.shift_first.ensures.cells ∙ sym (set_same (cells slots) x cell None refl))
    (λ e. absurd (omega (arith, e, c.requires.to))) (λ _. full) in
    let first : get_or all from [] ≡ with_item x cell (items_of (cells slots) qs) = lists_at (nexts slots) (cells slots) heads lens from c.requires.from_there old.joined.lens_len ∙ ap (items_of (cells slots)) stands in
    let theirs : get_or all to [] ≡ items_of (cells slots) ring = lists_at (nexts slots) (cells slots) heads lens to c.requires.to_there old.joined.lens_len in
    let items : items_of (cells after) (x ∷ ring) ≡ with_item x cell (items_of (cells slots) ring) = ap (λ cs. items_of cs (x ∷ ring)) c.shift_first.ensures.cells in
    record {
      linked = m.linked;
      lists = passed_back from to x cell (items_of (cells slots) qs) (items_of (cells slots) ring) all _ full first theirs c.if-from-to.true (m.lists ∙ ap (set (set all from (items_of (cells slots) qs)) to) items);
      spare = m.as_long 0 old.some (λ e. absurd (omega (arith, e, c.requires.from))) (λ e. absurd (omega (arith, e, c.requires.to)));
      cells = c.shift_first.ensures.cells;
    }
