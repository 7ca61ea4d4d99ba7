use Rattle.std.proofs.Common.{◌<◌, subst}
use Rattle.std.proofs.lemmas.List.{length-map}
use Rattle.link_store.specs.Slots.{nexts, prevs, rings}
use Rattle.link_store.specs.Rings.{at}
use Rattle.link_store.proofs.Removed.{removed}
use Rattle.link_store.proofs.Bounds.{near}
use Rattle.link_store.proofs.rings.detach.Goals as goal

pub prev_of-before-requires : goal.prev_of-before-requires
prev_of-before-requires g c =
    let is = near (nexts c.args.slots.now) (prevs c.args.slots.now) (rings c.args.slots.now) c.args.heads.now c.args.lens.now c.args.j c.args.x c.requires.kept c.requires.there c.requires.stands in
    subst (λ m. c.args.x < m) (length-map c.args.slots.now (λ s. s.next)) is.slot

pub next_of-behind-requires : goal.next_of-behind-requires
next_of-behind-requires g c =
    let is = near (nexts c.args.slots.now) (prevs c.args.slots.now) (rings c.args.slots.now) c.args.heads.now c.args.lens.now c.args.j c.args.x c.requires.kept c.requires.there c.requires.stands in
    subst (λ m. c.args.x < m) (length-map c.args.slots.now (λ s. s.next)) is.slot

pub join-requires-clause-first : goal.join-requires-clause-first
join-requires-clause-first g c =
    let is = near (nexts c.args.slots.now) (prevs c.args.slots.now) (rings c.args.slots.now) c.args.heads.now c.args.lens.now c.args.j c.args.x c.requires.kept c.requires.there c.requires.stands in
    rw c.prev_of-before.ensures (subst (λ m. at (prevs c.args.slots.now) c.args.x < m) (length-map c.args.slots.now (λ s. s.next)) is.before)

pub join-requires-clause-second : goal.join-requires-clause-second
join-requires-clause-second g c =
    let is = near (nexts c.args.slots.now) (prevs c.args.slots.now) (rings c.args.slots.now) c.args.heads.now c.args.lens.now c.args.j c.args.x c.requires.kept c.requires.there c.requires.stands in
    rw c.next_of-behind.ensures (subst (λ m. at (nexts c.args.slots.now) c.args.x < m) (length-map c.args.slots.now (λ s. s.next)) is.behind)

pub returns-clause-removed : goal.returns-clause-removed
returns-clause-removed g c = λ ps qs stands.
    rw (c.join.ensures.nexts, c.join.ensures.prevs, c.prev_of-before.ensures, c.next_of-behind.ensures)
    (removed (nexts c.args.slots.now) (prevs c.args.slots.now) (rings c.args.slots.now) c.args.heads.now c.args.lens.now c.args.j c.args.x ps qs c.requires.kept c.requires.there stands)
