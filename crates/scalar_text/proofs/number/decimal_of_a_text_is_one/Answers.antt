use Rattle.scalar_text.proofs.PrintedDecimals.{same_decimal}
use Rattle.scalar_text.proofs.number.decimal_of_a_text_is_one.Goals as goal

pub returns : goal.returns
returns c = same_decimal c.args.text.now
