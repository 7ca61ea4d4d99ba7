-- Which conditions hold of an event.
use Rattle.std.specs.Prelude.{ℕ, Bool, not, List}
use Rattle.std.specs.FinMap.{get}
use Rattle.std.specs.List.{list_all, list_any}
use Rattle.event_model.specs.Fields.{FieldMap}
use Rattle.sieve_tree.specs.declared.tree.Cond.{Cond, fold-Cond}
use Rattle.sieve_tree.specs.declared.tree.Cond.TheOpen.{Cond-F}
use Rattle.sieve_eval.specs.Says.{says_of}

module _ (patterns : List (List ℕ)) (now : ℕ) (fields : FieldMap) where
  -- a condition, with what holds of those inside in their places
  abbrev pub holds_with : Cond-F Bool → Bool
  holds_with (Cond-F.Any inner) = list_any (λ b. b) inner
  holds_with (Cond-F.All inner) = list_all (λ b. b) inner
  holds_with (Cond-F.Not inner) = not inner
  holds_with (Cond-F.Test key test) = says_of patterns now test (get fields key)

  -- the condition holds of these fields, with these patterns at that moment
  abbrev pub holds : Cond → Bool
  holds = fold-Cond Bool holds_with
