use Rattle.scalar_text.proofs.CanonicalDecimals.{decimal_text_one_to_one, fits_word}
use Rattle.scalar_text.proofs.printing.decimal_texts_differ.Goals as goal

pub returns : goal.returns
returns c = decimal_text_one_to_one c.args.a c.args.b (fits_word c.args.a c.ranges.a.sfits) (fits_word c.args.b c.ranges.b.sfits)
