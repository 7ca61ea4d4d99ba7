-- What the functions that set fields answer.
use Rattle.std.specs.Prelude.{◌≡◌, ℕ, List, Option, Some, None, Result, Ok, Err}
use Rattle.event_model.specs.Fields.{IsField}
use Rattle.field_types.specs.declared.value.Value.{Value}
use Rattle.sieve_tree.specs.declared.tree.PutSource.{PutSource}
use Rattle.sieve_tree.specs.declared.tree.PutSource.TheVariants as source
use Rattle.sieve_eval.specs.declared.fault.EvalFault.{EvalFault}
use Rattle.sieve_eval.specs.declared.fault.EvalFault.TheVariants as fault

-- a fixed value is canonical for its field
abbrev pub IsSound : List ℕ → PutSource → Type 0
IsSound key (source.Fixed v) = IsField key v
IsSound key (source.Copy other) = Unit {0}

-- the canonical value, or the fault at that offset where there is none; memory may run out in any case
abbrev pub IsCleanedAt : Option Value → ℕ → Result Value EvalFault → Type 0
IsCleanedAt cleaned at (Ok v) = cleaned ≡ Some v
IsCleanedAt cleaned at (Err (fault.BadValue place)) = (cleaned ≡ None) × (place ≡ at)
IsCleanedAt cleaned at (Err fault.OutOfMemory) = Unit {0}
