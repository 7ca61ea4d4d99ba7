-- What comes of an event is its verdict.
use Rattle.std.proofs.Common.{Result, Ok, Err, ap}
use Rattle.sieve_eval.specs.Outcome.{ended_of, IsOutcome, Outcome}
use Rattle.sieve_eval.specs.Verdicts.{at_last, IsVerdict}
use Rattle.sieve_eval.specs.declared.fault.EvalFault.{EvalFault}
use Rattle.sieve_eval.specs.declared.fault.EvalFault.TheVariants as fault
use Rattle.sieve_eval.specs.declared.state.Flow.{Flow}
use Rattle.sieve_eval.specs.declared.state.Flow.TheVariants as flow
use Rattle.sieve_eval.specs.declared.state.State.{State}

pub ends : (o : Outcome) (r : Result Flow EvalFault) (s : State) → IsOutcome o r s → IsVerdict (at_last o) (ended_of r s)
ends o (Ok flow.On) s is = ap at_last is
ends o (Ok flow.Keep) s is = ap at_last is
ends o (Ok flow.Drop) s is = ap at_last is
ends o (Err (fault.BadValue at)) s is = ap at_last is
ends o (Err fault.OutOfMemory) s is = tt
