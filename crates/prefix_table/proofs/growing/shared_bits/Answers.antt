use Rattle.std.proofs.Common.{◌≡◌, ◌≤◌, ◌∙◌, sym, ap, ⊎_elim, arith}
use Rattle.std.proofs.lemmas.Bool.{cases_eq}
use Rattle.prefix_table.specs.Growing.{begins}
use Rattle.prefix_table.proofs.Parting.{begin_alike}
use Rattle.prefix_table.proofs.growing.shared_bits.Goals as goal

pub bits-init : goal.bits-init
bits-init c = (
  omega (arith, c.min-len.ensures),
  omega (arith, c.min-len.ensures),
  λ len le leads. let long : len ≤ c.args.b.now.len = leads.long in omega (arith, c.min-len.ensures),
)

pub front-requires : goal.front-requires
front-requires c = omega (arith, c.bits.invariant.0, c.requires.most, c.args.a.now.within)

pub front-requires-in-bits : goal.front-requires-in-bits
front-requires-in-bits c = omega (arith, c.bits.invariant.1, c.args.b.now.within)

pub bits-preserved : goal.bits-preserved
bits-preserved c = (
  omega (arith, c.bits.invariant.0),
  omega (arith, c.bits.invariant.1),
  λ len le leads.
      let before : len ≤ c.bits.len = c.bits.invariant.2 len le leads in
      ⊎_elim (λ (e : len ≡ c.bits.len). absurd (c.if-front.true (c.front.ensures ∙ sym (ap (λ n. begins n c.args.b.now) (sym e) ∙ leads.begins_so ∙ ap (λ n. begins n c.args.a.now) e) ∙ sym c.front-in-bits.ensures))) (λ (ne : len ≡ c.bits.len → ⊥). omega arith) (cases_eq len c.bits.len),
)

pub returns-else-front-clause-most : goal.returns-else-front-clause-most
returns-else-front-clause-most c = c.bits.invariant.0

pub returns-else-front-clause-leads : goal.returns-else-front-clause-leads
returns-else-front-clause-leads c = record { family = c.requires.family; long = c.bits.invariant.1; begins_so = sym c.front-in-bits.ensures ∙ sym c.if-front.false ∙ c.front.ensures }

pub returns-else-front-clause-known : goal.returns-else-front-clause-known
returns-else-front-clause-known c = c.bits.invariant.2

pub returns-after-bits-clause-known : goal.returns-after-bits-clause-known
returns-after-bits-clause-known c = c.bits.invariant.2

pub returns-after-bits-clause-leads : goal.returns-after-bits-clause-leads
returns-after-bits-clause-leads c =
    let none : c.bits.len ≡ 0 = omega (arith, c.bits-test.false) in
    record {
      family = c.requires.family;
      long = c.bits.invariant.1;
      begins_so = begin_alike c.args.a.now c.args.b.now c.bits.len none;
    }
