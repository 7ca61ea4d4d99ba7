use Rattle.scalar_text.proofs.CanonicalOnly.{canonical_is_printed}
use Rattle.scalar_text.proofs.printing.canonical_decimal_is_printed.Goals as goal

pub returns : goal.returns
returns c = canonical_is_printed c.args.text.now
