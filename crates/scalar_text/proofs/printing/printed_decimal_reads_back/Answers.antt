use Rattle.scalar_text.proofs.PrintedDecimals.{decimal_reads_back}
use Rattle.scalar_text.proofs.printing.printed_decimal_reads_back.Goals as goal

pub returns : goal.returns
returns c = decimal_reads_back c.args.n c.requires
