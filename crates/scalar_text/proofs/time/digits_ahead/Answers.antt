use Rattle.std.proofs.Common.{◌+◌, ap, drop, sym, subst}
use Rattle.base_types.proofs.Numerals.{AllDigits-more}
use Rattle.scalar_text.specs.Time.{IsNoDigitAhead}
use Rattle.scalar_text.proofs.Times.{ahead_at}
use Rattle.scalar_text.proofs.time.digits_ahead.Goals as goal

pub digits-preserved : goal.digits-preserved
digits-preserved c = record {
  count = ap (λ n. n + 1) c.digits.invariant.count;
  digits = AllDigits-more c.args.text.now c.digits.byte-index _ c.digits-test.true c.digits.invariant.digits c.from.ensures c.in-Some.ensures.value.0;
}

pub returns-in_default-clause-end : goal.returns-in_default-clause-end
returns-in_default-clause-end c = subst (λ n. IsNoDigitAhead (drop n c.args.text.now)) (sym c.digits.invariant.count) (ahead_at c.args.text.now c.digits.byte-index _ c.digits-test.true c.from.ensures c.in_default.ensures.value)
