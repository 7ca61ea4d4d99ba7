use Rattle.std.proofs.Common.{◌≡◌, ◌++◌, length}
use Rattle.scalar_text.specs.Quote.{quote}
use Rattle.scalar_text.proofs.quote.quote_decimals.Given as goal

abbrev pub invariant-decimals : goal.invariant-decimals
invariant-decimals l = quote l.bytes ≡ l.quoted.items ++ quote l.rest

abbrev pub decreases-decimals : goal.decreases-decimals
decreases-decimals l = length l.rest
