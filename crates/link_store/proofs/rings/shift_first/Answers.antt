use Rattle.std.proofs.Common.{◌∷◌, ap, arith}
use Rattle.std.proofs.lemmas.List.{length-map}
use Rattle.link_store.specs.Slots.{nexts, prevs, rings}
use Rattle.link_store.specs.Rings.{ring_of}
use Rattle.link_store.proofs.Bounds.{near, split_in}
use Rattle.link_store.proofs.Shifted.{shifted}
use Rattle.link_store.proofs.rings.shift_first.Goals as goal

pub attach_first-requires-clause-kept : goal.attach_first-requires-clause-kept
attach_first-requires-clause-kept g c =
    let (ps, qs, e) = split_in c.args.x (ring_of (nexts c.args.slots.now) c.args.heads.now c.args.lens.now c.args.from) c.requires.stands in
    rw c.detach.ensures.rings (c.detach.ensures.removed ps qs e).kept

pub attach_first-requires-clause-slot : goal.attach_first-requires-clause-slot
attach_first-requires-clause-slot g c =
    let is = near (nexts c.args.slots.now) (prevs c.args.slots.now) (rings c.args.slots.now) c.args.heads.now c.args.lens.now c.args.from c.args.x c.requires.kept c.requires.from c.requires.stands in
    omega (arith, is.slot, length-map c.args.slots.now (λ s. s.next))

pub returns-clause-shifted : goal.returns-clause-shifted
returns-clause-shifted g c = λ ps qs stands.
    let out = c.detach.ensures.removed ps qs stands in
    let into = rw c.detach.ensures.rings at c.attach_first.ensures.added in
    shifted (nexts c.args.slots.now) (prevs c.args.slots.now) (rings c.args.slots.now) c.args.heads.now c.args.lens.now c.args.from c.args.to c.args.x ps qs _ _ _ _ _ _ _ _ _
    c.requires.differ c.requires.from c.requires.to out into (λ e. ap (λ ys. c.args.x ∷ ys) e)
