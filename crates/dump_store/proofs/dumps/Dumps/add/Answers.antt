use Rattle.std.proofs.Common.{◌≡◌, ◌++◌, ◌∷◌, [], length, length-append, sym, ap, subst, arith}
use Rattle.dump_store.specs.Dumps.{AreRising, DumpsView}
use Rattle.dump_store.proofs.Rising.{rising_pushed}
use Rattle.dump_store.proofs.dumps.Dumps.add.Goals as goal

pub invariant_of-self : goal.invariant_of-self
invariant_of-self c =
    let old = c.self.inside.dumps.items in
    let above = rw (sym c.self.view_is) at c.requires.above in
    let spare : c.self.inside.spare ≡ c.args.self.now.spare = ap (λ (v : DumpsView). v.spare) c.self.view_is in
    let more : length c.push_reserved.new.self.items ≡ length (old ++ c.args.dump ∷ []) = ap length c.push_reserved.ensures.items in (
      subst AreRising (sym c.push_reserved.ensures.items) (rising_pushed old c.args.dump c.self.invariant.0 above),
      omega (arith, c.self.invariant.1, spare, c.requires.spare, more, length-append old (c.args.dump ∷ []), c.push_reserved.ensures.capacity),
    )
