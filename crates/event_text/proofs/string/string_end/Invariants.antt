use Rattle.std.proofs.Common.{◌≤◌, length}
use Rattle.event_text.specs.Decode.{string_end, KeepsEnd}
use Rattle.event_text.proofs.string.string_end.Given as goal

abbrev pub invariant-escapes : goal.invariant-escapes
invariant-escapes l = (KeepsEnd string_end string_end l.inside l.rest) × (length l.rest ≤ length l.inside)

abbrev pub decreases-escapes : goal.decreases-escapes
decreases-escapes l = length l.rest
