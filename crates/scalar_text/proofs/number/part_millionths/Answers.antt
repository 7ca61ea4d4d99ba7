use Rattle.std.proofs.Common.{◌<◌, ◌≤◌, ◌*◌, refl, sym, subst, length, arith}
use Rattle.std.specs.Str.Parse.{IsNumeral, digits_value}
use Rattle.scalar_text.proofs.Numerals.{part_below, front_numeral, front_short}
use Rattle.scalar_text.proofs.number.part_millionths.Goals as goal

pub returns-in-Some-clause-below : goal.returns-in-Some-clause-below
returns-in-Some-clause-below c =
    let short : length c.front_of-front.result.now ≤ 6 = front_short c.args.digits.now _ c.front_of-front.ensures in
    subst (λ p. c.in-Some.value * p < 1000000) (sym c.pow.ensures) (part_below c.in-Some.value (length c.front_of-front.result.now) short c.in-Some.ensures.below)

pub returns-in-None-clause-value : goal.returns-in-None-clause-value
returns-in-None-clause-value c all =
    let front = c.front_of-front.result.now in
    c.in-None.ensures.value (digits_value 10 front) ((subst (λ ds. IsNumeral 10 ds) (sym c.front_of-front.ensures) (front_numeral c.args.digits.now all), refl), omega arith)
