use Rattle.scalar_text.proofs.CanonicalDecimals.{decimal_is_canonical, fits_word}
use Rattle.scalar_text.proofs.printing.printed_decimals_are_canonical.Goals as goal

pub returns : goal.returns
returns c = decimal_is_canonical c.args.n (fits_word c.args.n c.ranges.n.sfits)
