use Rattle.std.proofs.Common.{sym, subst}
use Rattle.std.specs.FinMap.{entries}
use Rattle.event_model.specs.Fields.{FieldMap}
use Rattle.event_text.specs.Strict.{AreTyped}
use Rattle.event_text.proofs.PairTexts.{nothing_yet}
use Rattle.event_json.proofs.Pushed.{nothing_written}
use Rattle.event_json.proofs.message_line.MessageLine.begin.Goals as goal

pub invariant_of-self : goal.invariant_of-self
invariant_of-self c = subst (λ (fields : FieldMap). AreTyped (entries fields)) (sym c.in_ok-self-inside.ensures) nothing_yet

pub returns : goal.returns
returns c = nothing_written c.args.kind c.in_ok-self-inside.field-0 c.in_ok-self-inside.ensures
