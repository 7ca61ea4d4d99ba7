use Rattle.std.proofs.Common.{length}
use Rattle.scalar_text.specs.Quote.{quote, Keeps}
use Rattle.scalar_text.proofs.quote.first_decimal.Given as goal

abbrev pub invariant-pieces : goal.invariant-pieces
invariant-pieces l = Keeps quote quote l.text l.rest

abbrev pub decreases-pieces : goal.decreases-pieces
decreases-pieces l = length l.rest
