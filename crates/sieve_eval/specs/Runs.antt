-- What the items of a sieve do to an event.
use Rattle.std.specs.Prelude.{ℕ, Bool, true, not, List, [], ◌∷◌, map, Option, Some, None, is_some, if◌then◌else◌}
use Rattle.std.specs.FinMap.{get, insert, remove}
use Rattle.event_model.specs.Fields.{value_for, FieldMap}
use Rattle.field_types.specs.declared.value.Value.{Value}
use Rattle.sieve_tree.specs.declared.tree.Cond.{Cond}
use Rattle.sieve_tree.specs.declared.tree.How.{How}
use Rattle.sieve_tree.specs.declared.tree.How.TheVariants as how
use Rattle.sieve_tree.specs.declared.tree.PutSource.{PutSource}
use Rattle.sieve_tree.specs.declared.tree.PutSource.TheVariants as source
use Rattle.sieve_tree.specs.declared.tree.SieveItem.{SieveItem, fold-SieveItem}
use Rattle.sieve_tree.specs.declared.tree.SieveItem.TheOpen.{SieveItem-F}
use Rattle.sieve_eval.specs.Holds.{holds}
use Rattle.sieve_eval.specs.Outcome.{bad, dropped, ended, forwarded, going, Outcome}
use Rattle.sieve_eval.specs.declared.state.State.{State}

-- what an item does
abbrev pub Run : Type 0
Run = State → Outcome

-- ---- one behind the other

-- the next run goes on from there, unless the one before ended
abbrev pub and_then : Outcome → Run → Outcome
and_then (going s) run = run s
and_then (ended v) run = ended v
and_then (bad at) run = bad at

abbrev pub in_order : List Run → Run
in_order [] s = going s
in_order (run ∷ runs) s = and_then (run s) (in_order runs)

-- ---- choices

-- what stands in the first case whose condition holds, else what stands in none
abbrev pub chosen : {A : Type 0} → (Cond → Bool) → List (Cond × List A) → List A → List A
chosen holds [] otherwise = otherwise
chosen holds (case ∷ cases) otherwise = if holds case.0 then case.1 else chosen holds cases otherwise

-- ---- fields

abbrev pub with_fields : State → FieldMap → State
with_fields s fields = record { fields = fields; paths = s.paths; place = s.place }

-- the field has the value
abbrev pub with_value : List ℕ → State → Value → State
with_value key s v = with_fields s (insert s.fields key v)

-- which fields are set: an absent one, any, a present one
abbrev pub is_set : How → Bool → Bool
is_set how.Add present = not present
is_set how.Force present = true
is_set how.Update present = present

-- the value of another field, as the field's kind has it, if it has it
abbrev pub set_to_cleaned : List ℕ → ℕ → State → Option Value → Outcome
set_to_cleaned key at s None = bad at
set_to_cleaned key at s (Some v) = going (with_value key s v)

-- where the other field is absent, nothing happens
abbrev pub set_to_other : List ℕ → ℕ → State → Option Value → Outcome
set_to_other key at s None = going s
set_to_other key at s (Some v) = set_to_cleaned key at s (value_for key v)

-- the field is set to the source, which stands at that offset
abbrev pub set_to : List ℕ → PutSource → ℕ → Run
set_to key (source.Fixed v) at s = going (with_value key s v)
set_to key (source.Copy other) at s = set_to_other key at s (get s.fields other)

-- where the field isn't to be set, nothing is looked at
abbrev pub put : List ℕ → How → PutSource → ℕ → Run
put key how from at s = if is_set how (is_some (get s.fields key)) then set_to key from at s else going s

-- ---- paths

-- the event goes on these paths alone
abbrev pub with_paths : State → List (List ℕ) → State
with_paths s names = record { fields = s.fields; paths = names; place = s.place }

-- ---- items

module _ (patterns : List (List ℕ)) (now : ℕ) where
  -- an item, with the runs of those inside in their places
  abbrev pub runs_with : SieveItem-F Run → Run
  runs_with (SieveItem-F.Choice cases otherwise) s = in_order (chosen (holds patterns now s.fields) cases otherwise) s
  runs_with SieveItem-F.Keep s = ended (forwarded s)
  runs_with SieveItem-F.Drop s = ended (dropped s)
  runs_with (SieveItem-F.Path names) s = going (with_paths s names)
  runs_with (SieveItem-F.Put key how from at) s = put key how from at s
  runs_with (SieveItem-F.Remove key) s = going (with_fields s (remove s.fields key))

  -- what the item does, with these patterns at that moment
  abbrev pub runs : SieveItem → Run
  runs = fold-SieveItem Run runs_with

  -- what the items do, one behind the other
  abbrev pub run_all : List SieveItem → Run
  run_all items = in_order (map runs items)
