-- The rules that a JSON text writes.
use Rattle.std.specs.Prelude.{◌≡◌, ◌+◌, ℕ, List, [], ◌∷◌, ◌||◌, Bool, true, false, nat_lt, length, codes, is_some, count_by, sum_by, Option, Some, None, option_map, option_and_then, Result, Ok, Err, if◌then◌else◌}
use Rattle.std.specs.FinMap.{insert}
use Rattle.std.specs.Str.{bytes_eq}
use Rattle.serde_json.specs.Data.{Data, null, boolean, number, string, array, object, Items, no_items, item, Members, no_members, member}
use Rattle.serde_json.specs.Find.{as_array, as_object, get_member}
use Rattle.field_types.specs.Field.{type_of}
use Rattle.field_types.specs.declared.value.Value.{Value as AnyValue}
use Rattle.event_model.specs.Fields.{value_for, FieldMap}
use Rattle.event_model.specs.Lenient.{set_all}
use Rattle.event_model.specs.Trees.{both, tree_in, value_of}
use Rattle.sieve_tree.specs.Pattern.{pattern_of}
use Rattle.expert_modify.specs.Meets.{Wanted}
use Rattle.expert_modify.specs.declared.fault.RulesFault.{RulesFault}
use Rattle.expert_modify.specs.declared.fault.RulesFault.TheVariants as fault
use Rattle.expert_modify.specs.declared.rule.Rule.{Rule}
use Rattle.expert_modify.specs.declared.rule.Want.TheVariants.{Absent, Pattern, Value}

-- ---- conditions

-- an empty text: the field is to be absent; any other is a pattern
abbrev pub want_of_text : List ℕ → Option Wanted
want_of_text text = if bytes_eq text [] then Some Absent else (if is_some (pattern_of text) then Some (Pattern text) else None)

-- what a member of `if` wants: a text says so, and a flag, a whole number or a decimal is to equal the field's value
abbrev pub want_in : Data → Option Wanted
want_in null = None
want_in (boolean b) = option_map Value (value_of (boolean b))
want_in (number n) = option_map Value (value_of (number n))
want_in (string text) = want_of_text text
want_in (array ds) = None
want_in (object ms) = option_map Value (value_of (object ms))

-- the key is the name of a field
abbrev pub condition_in : List ℕ → Data → Option (List ℕ × Wanted)
condition_in key d = if is_some (type_of key) then option_map (λ want. (key, want)) (want_in d) else None

abbrev pub conditions_in : Members → Option (List (List ℕ × Wanted))
conditions_in no_members = Some []
conditions_in (member key d ms) = both (condition_in key d) (conditions_in ms)

-- ---- what is set

-- a member of `then`: the key is the name of a field, whose kind takes the value
abbrev pub set_in : List ℕ → Data → Option (List ℕ × AnyValue)
set_in key d = option_map (λ v. (key, v)) (option_and_then (value_for key) (value_of d))

abbrev pub sets_in : Members → Option (List (List ℕ × AnyValue))
sets_in no_members = Some []
sets_in (member key d ms) = both (set_in key d) (sets_in ms)

-- ---- rules

-- the object under a name
abbrev pub object_under : List ℕ → Members → Option Members
object_under name ms = option_and_then as_object (get_member name ms)

abbrev pub rule_with : Option (List (List ℕ × Wanted)) → Option (List (List ℕ × AnyValue)) → Option Rule
rule_with (Some conditions) (Some pairs) = Some (record { conditions = conditions; sets = set_all pairs })
rule_with (Some conditions) None = None
rule_with None pairs = None

abbrev pub rule_of : Members → Option Rule
rule_of ms = rule_with (option_and_then conditions_in (object_under (codes "if") ms)) (option_and_then sets_in (object_under (codes "then") ms))

-- the rule that an object with `if` and `then` is, if it is one
unfoldable pub rule_in : Data → Option Rule
rule_in d = option_and_then rule_of (as_object d)

abbrev pub and_rules : ℕ → Option Rule → Result (List Rule) ℕ → Result (List Rule) ℕ
and_rules n None later = Err n
and_rules n (Some rule) (Ok rules) = Ok (rule ∷ rules)
and_rules n (Some rule) (Err bad) = Err bad

-- the rules, of which the first has that number; or the number of the first that is none
abbrev pub rules_from : ℕ → Items → Result (List Rule) ℕ
rules_from n no_items = Ok []
rules_from n (item d ds) = and_rules n (rule_in d) (rules_from (n + 1) ds)

-- ---- limits

abbrev pub most_rules : ℕ
most_rules = 1000

abbrev pub most_patterns : ℕ
most_patterns = 32

abbrev pub is_pattern : List ℕ × Wanted → Bool
is_pattern (key, Absent) = false
is_pattern (key, Pattern text) = true
is_pattern (key, Value v) = false

-- how many patterns these rules have
abbrev pub pattern_count : List Rule → ℕ
pattern_count rules = sum_by (λ rule. count_by is_pattern rule.conditions) rules

-- there are too many rules, or too many patterns
abbrev pub pass_limits : List Rule → Bool
pass_limits rules = nat_lt most_rules (length rules) || nat_lt most_patterns (pattern_count rules)

-- ---- files

abbrev pub limited : List Rule → Result (List Rule) RulesFault
limited rules = if pass_limits rules then Err fault.Limit else Ok rules

abbrev pub of_rules : Result (List Rule) ℕ → Result (List Rule) RulesFault
of_rules (Ok rules) = limited rules
of_rules (Err n) = Err (fault.Rule n)

abbrev pub of_list : Option Items → Result (List Rule) RulesFault
of_list None = Err (fault.Rule 0)
of_list (Some ds) = of_rules (rules_from 1 ds)

-- the rules that the text writes, or the first rule that is none, or that a limit is passed
unfoldable pub rules_in : List ℕ → Result (List Rule) RulesFault
rules_in text = of_list (option_and_then as_array (tree_in text))

-- what was read is that; memory may run out in any case
abbrev pub AreRead : Result (List Rule) RulesFault → Result (List Rule) RulesFault → Type 0
AreRead meant (Ok rules) = meant ≡ Ok rules
AreRead meant (Err fault.OutOfMemory) = Unit {0}
AreRead meant (Err e) = meant ≡ Err e

-- ---- what private contracts cite

-- the pair of a member, if it is one that sets something, was set
abbrev pub IsSetFrom : Option (List ℕ × AnyValue) → FieldMap → FieldMap → Type 0
IsSetFrom (Some pair) old new = new ≡ insert old pair.0 pair.1
IsSetFrom None old new = ⊥

abbrev pub IsSet : Option (List ℕ × AnyValue) → Bool → FieldMap → FieldMap → Type 0
IsSet pair true old new = IsSetFrom pair old new
IsSet pair false old new = pair ≡ None

-- the rule with that number is none
abbrev pub IsBad : ℕ → RulesFault → Type 0
IsBad n (fault.Rule rule) = rule ≡ n
IsBad n fault.Limit = ⊥
IsBad n fault.OutOfMemory = Unit {0}

-- the first rule that is none has that number
abbrev pub IsFirstBad : Result (List Rule) ℕ → RulesFault → Type 0
IsFirstBad rules (fault.Rule rule) = rules ≡ Err rule
IsFirstBad rules fault.Limit = ⊥
IsFirstBad rules fault.OutOfMemory = Unit {0}
