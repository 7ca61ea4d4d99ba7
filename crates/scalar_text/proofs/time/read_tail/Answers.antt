use Rattle.std.proofs.Common.{ℤ, ◌∙◌, sym, subst, MatchOption}
use Rattle.scalar_text.specs.Time.{IsFractionTail}
use Rattle.scalar_text.proofs.Times.{fraction_cases}
use Rattle.scalar_text.proofs.time.read_tail.Goals as goal

pub returns-then-is_byte-clause-value : goal.returns-then-is_byte-clause-value
returns-then-is_byte-clause-value c =
    fraction_cases c.args.text.now c.read_fraction_tail.result
    (sym c.front.ensures ∙ c.is_byte.ensures.0 c.if-is_byte.true)
    (subst (λ t. MatchOption c.read_fraction_tail.result ((z : ℤ) → ¬ (IsFractionTail t z)) (IsFractionTail t)) c.behind.ensures c.read_fraction_tail.ensures.value)
