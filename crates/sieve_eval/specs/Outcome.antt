-- How the run of items stands: what is left of an event, and whether it goes on.
use Rattle.std.specs.Prelude.{◌≡◌, ℕ, Result, Ok, Err}
use Rattle.sieve_eval.specs.declared.fault.EvalFault.{EvalFault}
use Rattle.sieve_eval.specs.declared.fault.EvalFault.TheVariants as fault
use Rattle.sieve_eval.specs.declared.state.Flow.{Flow}
use Rattle.sieve_eval.specs.declared.state.Flow.TheVariants as flow
use Rattle.sieve_eval.specs.declared.state.State.{State}
use Rattle.sieve_eval.specs.declared.verdict.Fate.TheVariants.{Dropped, Forward}
use Rattle.sieve_eval.specs.declared.verdict.Verdict.{Verdict}

-- the run goes on, it has ended, or a copy whose source stands at that offset has a value that its field doesn't take
pub data Outcome : Type 0 where
  going : State → Outcome
  ended : Verdict → Outcome
  bad : ℕ → Outcome

-- the event goes on the paths that it has
abbrev pub forwarded : State → Verdict
forwarded s = record { fields = s.fields; fate = Forward s.paths }

abbrev pub dropped : State → Verdict
dropped s = record { fields = s.fields; fate = Dropped }

-- ---- what only proofs use

-- the run stands so; memory may run out in any case
abbrev pub IsOutcome : Outcome → Result Flow EvalFault → State → Type 0
IsOutcome o (Ok flow.On) s = o ≡ going s
IsOutcome o (Ok flow.Keep) s = o ≡ ended (forwarded s)
IsOutcome o (Ok flow.Drop) s = o ≡ ended (dropped s)
IsOutcome o (Err (fault.BadValue at)) s = o ≡ bad at
IsOutcome o (Err fault.OutOfMemory) s = Unit {0}

-- the same of an item that doesn't end the run
abbrev pub GoesOn : {A : Type 0} → Outcome → Result A EvalFault → State → Type 0
GoesOn o (Ok _) s = o ≡ going s
GoesOn o (Err (fault.BadValue at)) s = o ≡ bad at
GoesOn o (Err fault.OutOfMemory) s = Unit {0}

-- what comes of the event when the run stands so
abbrev pub ended_of : Result Flow EvalFault → State → Result Verdict EvalFault
ended_of (Ok flow.On) s = Ok (forwarded s)
ended_of (Ok flow.Keep) s = Ok (forwarded s)
ended_of (Ok flow.Drop) s = Ok (dropped s)
ended_of (Err f) s = Err f
