use Rattle.std.proofs.Common.{subst, ◌∙◌, refl}
use Rattle.book_lock.specs.Seats.{knows, opening}
use Rattle.bot_runner.specs.Parts.{HasWaited}
use Rattle.bot_runner.proofs.Waiting.{begins_waiting, ended_by, quiet, still_there, went_on}
use Rattle.bot_runner.proofs.caller_part.caller_part.Goals as goal

pub looks-init : goal.looks-init
looks-init g c = (tt, tt, c.requires.lock, refl, begins_waiting g.R.Rules.meaning (opening c.args.lock.now) (knows c.args.seat) c.requires.new, still_there (g.K.Source.source c.args.control.now))

pub returns-then-has_grown-clause-ended : goal.returns-then-has_grown-clause-ended
returns-then-has_grown-clause-ended g c = ended_by g.R.Rules.meaning (opening c.args.lock.now).opening _ c.stop_hold-back.result.1 c.why_of.result c.why_of.ensures c.stop_hold-back.ensures.waited

pub returns-then-has_grown-clause-control : goal.returns-then-has_grown-clause-control
returns-then-has_grown-clause-control g c = went_on c.looks.invariant.5 c.has_grown.ensures

pub returns-then-are_done-clause-ended : goal.returns-then-are_done-clause-ended
returns-then-are_done-clause-ended g c = quiet g.R.Rules.meaning (opening c.args.lock.now).opening _ c.in-Ok.at (subst (HasWaited g.R.Rules.meaning (opening c.args.lock.now).opening (knows c.flush_hold-back.result.0)) c.in-Ok.is c.flush_hold-back.ensures.waited)

pub returns-then-are_done-clause-control : goal.returns-then-are_done-clause-control
returns-then-are_done-clause-control g c = went_on c.looks.invariant.5 c.has_grown.ensures

pub returns-in-Err-clause-ended : goal.returns-in-Err-clause-ended
returns-in-Err-clause-ended g c = ended_by g.R.Rules.meaning (opening c.args.lock.now).opening _ c.in-Err.end c.why_of-in-Err.result c.why_of-in-Err.ensures (subst (HasWaited g.R.Rules.meaning (opening c.args.lock.now).opening (knows c.flush_hold-back.result.0)) c.in-Err.is c.flush_hold-back.ensures.waited)

pub returns-in-Err-clause-control : goal.returns-in-Err-clause-control
returns-in-Err-clause-control g c = went_on c.looks.invariant.5 c.has_grown.ensures

pub looks-preserved : goal.looks-preserved
looks-preserved g c = (tt, tt, c.flush_hold-back.ensures.lock, c.flush_hold-back.ensures.parts ∙ c.looks.invariant.3, c.flush_hold-back.ensures.waited.at, went_on c.looks.invariant.5 c.has_grown.ensures)
