-- What a sieve makes of an event.
use Rattle.std.specs.Prelude.{◌≡◌, ℕ, List, [], ◌∷◌, Result, Ok, Err, codes}
use Rattle.event_model.specs.Fields.{FieldMap}
use Rattle.sieve_tree.specs.SieveView.{SieveView}
use Rattle.sieve_eval.specs.Outcome.{bad, ended, forwarded, going, Outcome}
use Rattle.sieve_eval.specs.Runs.{run_all}
use Rattle.sieve_eval.specs.declared.fault.EvalFault.{EvalFault}
use Rattle.sieve_eval.specs.declared.fault.EvalFault.TheVariants as fault
use Rattle.sieve_eval.specs.declared.state.State.{State}
use Rattle.sieve_eval.specs.declared.verdict.Verdict.{Verdict}

-- the path on which an event goes where the sieve names none
abbrev pub default_path : List ℕ
default_path = codes "_default"

abbrev pub at_first : FieldMap → State
at_first fields = record { fields = fields; paths = default_path ∷ []; place = tt }

-- at the end of the sieve the event is forwarded
abbrev pub at_last : Outcome → Result Verdict ℕ
at_last (going s) = Ok (forwarded s)
at_last (ended v) = Ok v
at_last (bad at) = Err at

-- what the sieve makes of an event with these fields at that moment, or the offset of a copy with a bad value
unfoldable pub verdict : SieveView → FieldMap → ℕ → Result Verdict ℕ
verdict sieve fields now = at_last (run_all sieve.patterns now sieve.items (at_first fields))

-- that verdict, or that offset as the fault; memory may run out in any case
abbrev pub IsVerdict : Result Verdict ℕ → Result Verdict EvalFault → Type 0
IsVerdict v (Ok given) = v ≡ Ok given
IsVerdict v (Err (fault.BadValue at)) = v ≡ Err at
IsVerdict v (Err fault.OutOfMemory) = Unit {0}
