use Rattle.std.proofs.Common.{[], ◌∷◌, sym, ap, ◌∙◌, append_assoc}
use Rattle.std.specs.FinMap.{entries}
use Rattle.event_text.specs.Decode.{opening, pairs_text}
use Rattle.event_json.specs.Direct.{ended}
use Rattle.event_text.proofs.MessageText.{message_text-parts}
use Rattle.event_json.proofs.message_line.MessageLine.into_message.Goals as goal

pub returns-clause-text : goal.returns-clause-text
returns-clause-text c =
    message_text-parts _ c.self.invariant.fields ∙ sym (append_assoc (opening c.self.inside.kind) (pairs_text (entries c.self.inside.fields)) (125 ∷ [])) ∙ ap ended c.self.view_is

pub returns-clause-typed : goal.returns-clause-typed
returns-clause-typed c = c.self.invariant
