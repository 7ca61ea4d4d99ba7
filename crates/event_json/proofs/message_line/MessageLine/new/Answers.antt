use Rattle.std.proofs.Common.{sym, subst}
use Rattle.std.specs.FinMap.{entries}
use Rattle.event_model.specs.Fields.{FieldMap}
use Rattle.event_text.specs.Strict.{AreTyped}
use Rattle.event_text.proofs.PairTexts.{nothing_yet}
use Rattle.event_json.proofs.message_line.MessageLine.new.Goals as goal

pub invariant_of-result : goal.invariant_of-result
invariant_of-result c = subst (λ (fields : FieldMap). AreTyped (entries fields)) (sym c.new.ensures) nothing_yet
