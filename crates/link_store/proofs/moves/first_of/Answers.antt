use Rattle.std.proofs.Common.{◌-◌, ◌∙◌, ◌∷◌, ap, sym, arith}
use Rattle.link_store.specs.Slots.{nexts}
use Rattle.link_store.specs.Rings.{at, walk}
use Rattle.link_store.proofs.Paths.{walk_opened}
use Rattle.link_store.proofs.moves.first_of.Goals as goal

pub returns-clause-first : goal.returns-clause-first
returns-clause-first g c =
    let n = nexts c.args.slots.now in
    let len = at c.args.lens.now c.args.from in
    let first = at n (at c.args.heads.now c.args.from) in
    (walk (at n) (len - 1) (at n first), walk_opened (at n) len first (omega arith) ∙ ap (λ y. y ∷ walk (at n) (len - 1) (at n first)) (sym c.next_of.ensures))
