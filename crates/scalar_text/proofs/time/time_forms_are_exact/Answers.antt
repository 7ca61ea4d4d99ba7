use Rattle.std.proofs.Common.{sym, subst}
use Rattle.scalar_text.specs.Time.{IsTimeText, IsPrintedTime, time_text}
use Rattle.scalar_text.proofs.DayTexts.{printed_is, printed_time}
use Rattle.scalar_text.proofs.Forms.{form_iff}
use Rattle.scalar_text.proofs.PrintedTimes.{reads_back}
use Rattle.scalar_text.proofs.TimeForms.{time_form}
use Rattle.scalar_text.proofs.time.time_forms_are_exact.Goals as goal

pub returns-clause-read : goal.returns-clause-read
returns-clause-read c = form_iff (IsTimeText c.args.text.now) _ c.args.seconds (time_form c.args.text.now)

pub returns-clause-printed : goal.returns-clause-printed
returns-clause-printed c =
    λ last. (printed_is c.args.seconds c.args.text.now last, λ same. subst (IsPrintedTime c.args.seconds) (sym same) (printed_time c.args.seconds last))

pub returns-clause-back : goal.returns-clause-back
returns-clause-back c =
    λ last. (time_form (time_text c.args.seconds)).complete c.args.seconds (reads_back c.args.seconds (time_text c.args.seconds) last (printed_time c.args.seconds last))
