use Rattle.std.proofs.Common.{◌∙◌, arith}
use Rattle.base_types.proofs.Numerals.{no_numeral, eighteen_digits, below_power, AllDigits-more, digits_value-more}
use Rattle.base_types.proofs.digits.read_digits.Goals as goal

pub returns-in_default-clause-value : goal.returns-in_default-clause-value
returns-in_default-clause-value c n h = no_numeral c.args.text.now c.digits.byte-index _ c.from.ensures c.digits-test.true c.in_default.ensures.value h.0.0.1

pub overflow_mul-value : goal.overflow_mul-value
overflow_mul-value c =
    let small = eighteen_digits c.args.text.now c.digits.byte-index c.digits.value (omega arith) (omega arith) c.digits.invariant.numeral c.digits.invariant.value in
    omega arith

pub overflow_add-value : goal.overflow_add-value
overflow_add-value c =
    let small = eighteen_digits c.args.text.now c.digits.byte-index c.digits.value (omega arith) (omega arith) c.digits.invariant.numeral c.digits.invariant.value in
    let a = c.from-in-digits.ensures in
    let b = c.in-Some.ensures in
    omega arith

pub digits-preserved : goal.digits-preserved
digits-preserved c = record {
  numeral = AllDigits-more c.args.text.now c.digits.byte-index _ c.digits-test.true c.digits.invariant.numeral c.from.ensures c.in-Some.ensures.value.0;
  value = digits_value-more c.args.text.now c.digits.byte-index c.digits.value _ _ c.digits-test.true c.digits.invariant.value c.from.ensures (c.from-in-digits.ensures ∙ c.in-Some.ensures.value.1);
}

pub returns-clause-below : goal.returns-clause-below
returns-clause-below c = below_power c.args.text.now c.digits.byte-index c.args.most c.digits.value (omega arith) (omega arith) c.digits.invariant.numeral c.digits.invariant.value
