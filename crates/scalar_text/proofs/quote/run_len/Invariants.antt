use Rattle.std.proofs.Common.{◌≡◌, ◌≤◌, ◌-◌, length, take, drop}
use Rattle.scalar_text.specs.Quote.{quote, quote_after}
use Rattle.scalar_text.proofs.quote.run_len.Given as goal

abbrev pub invariant-bytes : goal.invariant-bytes
invariant-bytes l = (l.len ≤ length l.text) × (quote l.text ≡ quote_after (take l.len l.text) (drop l.len l.text))

abbrev pub decreases-bytes : goal.decreases-bytes
decreases-bytes l = length l.text - l.len
