use Rattle.std.proofs.Common.{◌≤◌, length}
use Rattle.scalar_text.specs.Quote.{quote_string, Keeps}
use Rattle.scalar_text.proofs.quote.behind_string.Given as goal

abbrev pub invariant-escapes : goal.invariant-escapes
invariant-escapes l = (Keeps quote_string quote_string l.inside l.rest) × (length l.rest ≤ length l.inside)

abbrev pub decreases-escapes : goal.decreases-escapes
decreases-escapes l = length l.rest
