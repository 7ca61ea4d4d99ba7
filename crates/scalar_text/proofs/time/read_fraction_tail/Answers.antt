use Rattle.std.proofs.Common.{◌≡◌, sym, subst, to_z, of_z, w64, arith}
use Rattle.jiff_core.proofs.SignedLemmas.{signed_arith}
use Rattle.scalar_text.specs.Time.{IsOffset, IsFractionTail}
use Rattle.scalar_text.proofs.Times.{tail_at, tail_of}
use Rattle.scalar_text.proofs.time.read_fraction_tail.Goals as goal

pub returns-in-None-clause-value : goal.returns-in-None-clause-value
returns-in-None-clause-value c = λ z h.
    let at = tail_at c.args.text.now c.digits_ahead-n.result z c.digits_ahead-n.ensures.within c.digits_ahead-n.ensures.digits c.digits_ahead-n.ensures.end h in
    c.in-None.ensures.value z (subst (λ t. IsOffset t z) (sym c.behind.ensures) at.2)

pub returns-in-Some-clause-value : goal.returns-in-Some-clause-value
returns-in-Some-clause-value c =
    let bound = c.in-Some.ensures.bound in
    let back : to_z w64 (of_z w64 c.in-Some.offset) ≡ c.in-Some.offset = omega (arith, signed_arith) in
    subst (IsFractionTail c.args.text.now) (sym back) (tail_of c.args.text.now c.digits_ahead-n.result c.in-Some.offset c.digits_ahead-n.ensures.within c.digits_ahead-n.ensures.digits (omega arith) (omega arith) (subst (λ t. IsOffset t c.in-Some.offset) c.behind.ensures c.in-Some.ensures.value))

pub returns-then-n-eq0-clause-value : goal.returns-then-n-eq0-clause-value
returns-then-n-eq0-clause-value c = λ z h.
    let at = tail_at c.args.text.now c.digits_ahead-n.result z c.digits_ahead-n.ensures.within c.digits_ahead-n.ensures.digits c.digits_ahead-n.ensures.end h in
    let some = at.0 in
    let few = at.1 in
    absurd (omega arith)
