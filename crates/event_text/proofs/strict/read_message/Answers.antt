use Rattle.std.proofs.Common.{sym, ◌∙◌}
use Rattle.std.proofs.lemmas.Option.{none-some}
use Rattle.event_text.proofs.Messages.{strict_fault}
use Rattle.event_text.proofs.strict.read_message.Goals as goal

pub returns-in-Ok-None-clause-fault : goal.returns-in-Ok-None-clause-fault
returns-in-Ok-None-clause-fault c =
    strict_fault c.args.bytes.now c.in-Err-clean_any.fault (λ message of. none-some message (sym c.in-Ok-None.field-0-is ∙ c.in-Ok-None.ensures.complete message of)) c.in-Err-clean_any.ensures
