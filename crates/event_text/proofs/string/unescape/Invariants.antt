use Rattle.std.proofs.Common.{◌≡◌, ◌++◌, length}
use Rattle.event_text.specs.Decode.{unescaped}
use Rattle.event_text.proofs.string.unescape.Given as goal

abbrev pub invariant-escapes : goal.invariant-escapes
invariant-escapes l = unescaped l.content ≡ l.text.items ++ unescaped l.rest

abbrev pub decreases-escapes : goal.decreases-escapes
decreases-escapes l = length l.rest
