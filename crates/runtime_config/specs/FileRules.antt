-- The file of a bot that sets fields by rules.
use Rattle.std.specs.Prelude.{ℕ, List, [], Bool, true, false, Option, Some, None, Result, Ok, Err}
use Rattle.expert_modify.specs.Reading.{rules_in}
use Rattle.expert_modify.specs.declared.fault.RulesFault.{RulesFault}
use Rattle.expert_modify.specs.declared.fault.RulesFault.TheVariants as fault
use Rattle.expert_modify.specs.declared.rule.Rule.{Rule}

-- what the text of a file gives; no rules where there is none
abbrev pub rules_read : Option (List ℕ) → Result (List Rule) RulesFault
rules_read None = Ok []
rules_read (Some text) = rules_in text

abbrev pub or_none : Result (List Rule) RulesFault → List Rule
or_none (Ok rules) = rules
or_none (Err e) = []

-- the rules that it writes; none where it writes none
abbrev pub rules_of : Option (List ℕ) → List Rule
rules_of text = or_none (rules_read text)

abbrev pub bad_rule : Result (List Rule) RulesFault → Option ℕ
bad_rule (Ok rules) = None
bad_rule (Err (fault.Rule n)) = Some n
bad_rule (Err fault.Limit) = None
bad_rule (Err fault.OutOfMemory) = None

-- the first of its rules that is none; 0 where it is no list
abbrev pub bad_rule_of : Option (List ℕ) → Option ℕ
bad_rule_of text = bad_rule (rules_read text)

abbrev pub is_limit : Result (List Rule) RulesFault → Bool
is_limit (Ok rules) = false
is_limit (Err (fault.Rule n)) = false
is_limit (Err fault.Limit) = true
is_limit (Err fault.OutOfMemory) = false

-- it has too many rules, or too many patterns
abbrev pub pass_limit : Option (List ℕ) → Bool
pass_limit text = is_limit (rules_read text)
