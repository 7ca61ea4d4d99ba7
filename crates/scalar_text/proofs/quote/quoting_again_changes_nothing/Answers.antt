use Rattle.scalar_text.proofs.Requoted.{quote-again}
use Rattle.scalar_text.proofs.quote.quoting_again_changes_nothing.Goals as goal

pub returns : goal.returns
returns c = quote-again
