use Rattle.std.proofs.Common.{◌≡◌, ◌<◌, ◌∙◌, [], ◌∷◌, ◌++◌, length, get_or, set, None, Some, IsSome, option_map, ap, sym, subst, refl, arith}
use Rattle.std.proofs.lemmas.List.{length-map}
use Rattle.base_types.specs.Lists.{IsIn}
use Rattle.link_store.specs.Slots.{nexts, prevs, rings, cells}
use Rattle.link_store.specs.Rings.{ring_of}
use Rattle.link_store.specs.Kept.{items_of, lists_in}
use Rattle.link_store.proofs.Added.{with_first}
use Rattle.link_store.proofs.Bounds.{split_in}
use Rattle.link_store.proofs.Found.{IsListed, cut, listed}
use Rattle.link_store.proofs.Numbers.{numbered_without}
use Rattle.link_store.proofs.Passed.{IsDone, done, if_some, not_none}
use Rattle.link_store.proofs.Views.{items_none, lists_at}
use Rattle.link_store.proofs.moves.take_out.Goals as goal

pub ring_named-ring-requires : goal.ring_named-ring-requires
ring_named-ring-requires g c =
    let slots = c.args.slots.now in
    let (held, is, number) = c.holds.ensures.0 c.if-not-holds.false in
    let found : IsListed (nexts slots) (rings slots) c.args.heads.now c.args.lens.now c.args.node.slot = listed (nexts slots) (prevs slots) (rings slots) c.args.heads.now c.args.lens.now (cells slots) c.args.node.slot held c.requires.linked is in
    omega (arith, found.inside, length-map slots (λ s. s.next))

pub shift_first-requires-clause-from : goal.shift_first-requires-clause-from
shift_first-requires-clause-from g c =
    let slots = c.args.slots.now in
    let (held, is, number) = c.holds.ensures.0 c.if-not-holds.false in
    let found : IsListed (nexts slots) (rings slots) c.args.heads.now c.args.lens.now c.args.node.slot = listed (nexts slots) (prevs slots) (rings slots) c.args.heads.now c.args.lens.now (cells slots) c.args.node.slot held c.requires.linked is in
    rw c.ring_named-ring.ensures found.there

pub shift_first-requires-clause-differ : goal.shift_first-requires-clause-differ
shift_first-requires-clause-differ g c =
    let slots = c.args.slots.now in
    let (held, is, number) = c.holds.ensures.0 c.if-not-holds.false in
    let found : IsListed (nexts slots) (rings slots) c.args.heads.now c.args.lens.now c.args.node.slot = listed (nexts slots) (prevs slots) (rings slots) c.args.heads.now c.args.lens.now (cells slots) c.args.node.slot held c.requires.linked is in
    omega (arith, c.ring_named-ring.ensures, found.list)

pub shift_first-requires-clause-stands : goal.shift_first-requires-clause-stands
shift_first-requires-clause-stands g c =
    let slots = c.args.slots.now in
    let (held, is, number) = c.holds.ensures.0 c.if-not-holds.false in
    let found : IsListed (nexts slots) (rings slots) c.args.heads.now c.args.lens.now c.args.node.slot = listed (nexts slots) (prevs slots) (rings slots) c.args.heads.now c.args.lens.now (cells slots) c.args.node.slot held c.requires.linked is in
    subst (λ j. IsIn c.args.node.slot (ring_of (nexts slots) c.args.heads.now c.args.lens.now j)) (sym c.ring_named-ring.ensures) found.stands

pub take_value-requires : goal.take_value-requires
take_value-requires g c =
    let slots = c.args.slots.now in
    let (held, is, number) = c.holds.ensures.0 c.if-not-holds.false in
    let found : IsListed (nexts slots) (rings slots) c.args.heads.now c.args.lens.now c.args.node.slot = listed (nexts slots) (prevs slots) (rings slots) c.args.heads.now c.args.lens.now (cells slots) c.args.node.slot held c.requires.linked is in
    omega (arith, found.inside, length-map slots (λ s. s.next), c.shift_first.auto.slots)

pub returns : goal.returns
returns g c =
    let slots = c.args.slots.now in
    let heads = c.args.heads.now in
    let lens = c.args.lens.now in
    let node = c.args.node in
    let x = c.args.node.slot in
    let ring = c.ring_named-ring.result in
    let after = c.take_value.new.slots in
    let answer = c.take_value.result in
    let old = c.requires.linked in
    let all = lists_in slots heads lens in
    let (held, is, number) = c.holds.ensures.0 c.if-not-holds.false in
    let found : IsListed (nexts slots) (rings slots) heads lens x = listed (nexts slots) (prevs slots) (rings slots) heads lens (cells slots) x held old is in
    let there : ring < length heads = rw c.ring_named-ring.ensures found.there in
    let list : 0 < ring = omega (arith, c.ring_named-ring.ensures, found.list) in
    let stands : IsIn x (ring_of (nexts slots) heads lens ring) = subst (λ j. IsIn x (ring_of (nexts slots) heads lens j)) (sym c.ring_named-ring.ensures) found.stands in
    let (ps, qs, split) = split_in x (ring_of (nexts slots) heads lens ring) stands in
    let free_ring = ring_of (nexts slots) heads lens 0 in
    let m : IsDone slots heads lens ring 0 x ps qs (x ∷ free_ring) after c.shift_first.new.lens =
    done slots heads lens ring 0 x ps qs (x ∷ free_ring) c.shift_first.new.slots after c.shift_first.new.lens None
    old (λ e. absurd (omega (arith, e, list))) there old.some split (with_first x free_ring) (c.shift_first.ensures.shifted ps qs split) c.shift_first.auto.slots
    c.take_value.ensures.nexts c.take_value.ensures.prevs c.take_value.ensures.rings (c.take_value.ensures.cells ∙ ap (λ cs. set cs x None) c.shift_first.ensures.cells)
    (λ _. refl) (λ some. absurd (omega (arith, some))) in
    let value : answer ≡ option_map (λ held. held.value) (Some held) = c.take_value.ensures.value ∙ ap (λ cs. option_map (λ held. held.value) (get_or cs x None)) c.shift_first.ensures.cells ∙ ap (option_map (λ held. held.value)) is in
    let free : get_or all 0 [] ≡ [] = lists_at (nexts slots) (cells slots) heads lens 0 old.some old.joined.lens_len ∙ items_none (cells slots) free_ring old.free in
    let stood : get_or all ring [] ≡ items_of (cells slots) (ps ++ x ∷ qs) = lists_at (nexts slots) (cells slots) heads lens ring there old.joined.lens_len ∙ ap (items_of (cells slots)) split in
    let none_left : items_of (cells after) (x ∷ free_ring) ≡ [] = subst (λ xs. items_of (cells after) xs ≡ []) m.come (items_none (cells after) _ m.linked.free) in
    record {
      linked = m.linked;
      live = ((λ some. (held, is, number)), λ has. subst (λ o. IsSome o) (sym value) refl);
      same = not_none (Some held) answer _ refl value;
      gone = cut node held ring ps qs (cells slots) all _ answer value number is stood free list (m.lists ∙ ap (set (set all ring (items_of (cells slots) (ps ++ qs))) 0) none_left);
      none = not_none (Some held) answer _ refl value;
      some = if_some answer _ m.one_more;
      numbered = λ n numbered. rw (c.take_value.ensures.cells, c.shift_first.ensures.cells) (numbered_without (cells slots) x n m.inside numbered);
    }
