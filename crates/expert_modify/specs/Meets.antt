-- Which events the conditions of a rule hold of.
use Rattle.std.specs.Prelude.{ℕ, Bool, List, Option, is_none, unwrap_or}
use Rattle.std.specs.FinMap.{get}
use Rattle.std.specs.List.{list_all}
use Rattle.field_types.specs.Cleaning.{printed}
use Rattle.field_types.specs.Writing.{value_text}
use Rattle.field_types.specs.declared.value.Value.{Value as AnyValue}
use Rattle.event_model.specs.Fields.{FieldMap}
use Rattle.sieve_eval.specs.Amount.{equal}
use Rattle.sieve_eval.specs.Says.{matches, passes}
use Rattle.expert_modify.specs.declared.rule.Rule.{Rule}
use Rattle.expert_modify.specs.declared.rule.Want.{Want}
use Rattle.expert_modify.specs.declared.rule.Want.TheVariants.{Absent, Pattern, Value}

-- what a field is wanted to be; a pattern is its text
abbrev pub Wanted : Type 0
Wanted = Want (List ℕ)

-- the text in which a pattern looks for a match: what a value prints, or the JSON of a list
abbrev pub shown : AnyValue → List ℕ
shown v = unwrap_or (printed v) (value_text v)

-- the field, there or absent, is as it is wanted
abbrev pub is_wanted : Wanted → Option AnyValue → Bool
is_wanted Absent field = is_none field
is_wanted (Pattern text) field = passes (λ v. matches (shown v) text) field
is_wanted (Value wanted) field = passes (equal wanted) field

-- a condition holds of the fields
abbrev pub holds : FieldMap → List ℕ × Wanted → Bool
holds fields condition = is_wanted condition.1 (get fields condition.0)

-- all of a rule's conditions hold of the fields
abbrev pub meets : Rule → FieldMap → Bool
meets rule fields = list_all (holds fields) rule.conditions
