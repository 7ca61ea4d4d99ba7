use Rattle.std.proofs.Common.{length}
use Rattle.event_text.specs.Decode.{IsReading}
use Rattle.event_text.proofs.pairs.fields_at.Given as goal

abbrev pub invariant-fields : goal.invariant-fields
invariant-fields l = IsReading l.text l.rest l.fields

abbrev pub decreases-fields : goal.decreases-fields
decreases-fields l = length l.rest
