use Rattle.std.proofs.Common.{sym, arith, ◌∙◌}
use Rattle.event_json.proofs.Numerals.{short_whole}
use Rattle.event_json.proofs.numbers.is_short_whole.Goals as goal

pub returns-then-numeral-le-MOST_DIGITS-clause-whole : goal.returns-then-numeral-le-MOST_DIGITS-clause-whole
returns-then-numeral-le-MOST_DIGITS-clause-whole c = λ digits. short_whole c.args.numeral.now (omega arith) (sym c.are_digits.ensures ∙ digits)

pub returns-then-numeral-le-MOST_DIGITS-clause-digits : goal.returns-then-numeral-le-MOST_DIGITS-clause-digits
returns-then-numeral-le-MOST_DIGITS-clause-digits c = λ digits. sym c.are_digits.ensures ∙ digits
