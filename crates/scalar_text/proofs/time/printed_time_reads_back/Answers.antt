use Rattle.scalar_text.proofs.PrintedTimes.{reads_back}
use Rattle.scalar_text.proofs.time.printed_time_reads_back.Goals as goal

pub returns : goal.returns
returns c = reads_back c.args.seconds c.args.text.now c.requires.last c.requires.printed
