use Rattle.std.proofs.Common.{sym, ap, ◌∙◌}
use Rattle.event_text.specs.Decode.{opening}
use Rattle.event_text.proofs.MessageText.{report_opening, event_opening}
use Rattle.event_text.proofs.write.opening.Goals as goal

pub returns-in-Report : goal.returns-in-Report
returns-in-Report c = sym report_opening ∙ ap opening (sym c.in-Report.is)

pub returns-in-Event : goal.returns-in-Event
returns-in-Event c = sym event_opening ∙ ap opening (sym c.in-Event.is)
