use Rattle.std.proofs.lemmas.Result.{IfOk-weaker}
use Rattle.scalar_text.proofs.DayTexts.{printed_is}
use Rattle.scalar_text.proofs.PrintedTimes.{is_printed}
use Rattle.scalar_text.proofs.time.print_time.Goals as goal

pub returns-clause-printed : goal.returns-clause-printed
returns-clause-printed c =
    IfOk-weaker c.utc_text.result _ _
    (λ text e. is_printed c.args.seconds c.date_at-date.result c.from_second-time.result text c.date_at-date.ensures c.from_second-time.ensures.seconds c.from_second-time.ensures.subsec e)
    c.utc_text.ensures

pub returns-clause-text : goal.returns-clause-text
returns-clause-text c =
    IfOk-weaker c.utc_text.result _ _
    (λ text e. printed_is c.args.seconds text c.requires (is_printed c.args.seconds c.date_at-date.result c.from_second-time.result text c.date_at-date.ensures c.from_second-time.ensures.seconds c.from_second-time.ensures.subsec e))
    c.utc_text.ensures
