use Rattle.std.proofs.lemmas.Bool.{false≢true}
use Rattle.base_types.proofs.Numerals.{no_numeral, AllDigits-more}
use Rattle.scalar_text.proofs.number.are_digits.Goals as goal

pub returns-in_default : goal.returns-in_default
returns-in_default c = (λ h. absurd (false≢true h), λ h. absurd (no_numeral c.args.text.now c.digits.byte-index _ c.from.ensures c.digits-test.true c.in_default.ensures.value h.1))

pub digits-preserved : goal.digits-preserved
digits-preserved c = AllDigits-more c.args.text.now c.digits.byte-index _ c.digits-test.true c.digits.invariant c.from.ensures c.in-Some.ensures.value.0
