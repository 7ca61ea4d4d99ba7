use Rattle.std.proofs.Common.{◌≡◌, length}
use Rattle.scalar_text.specs.Quote.{behind_digits}
use Rattle.scalar_text.proofs.quote.behind_digits.Given as goal

abbrev pub invariant-digits : goal.invariant-digits
invariant-digits l = behind_digits l.text ≡ behind_digits l.rest

abbrev pub decreases-digits : goal.decreases-digits
decreases-digits l = length l.rest
