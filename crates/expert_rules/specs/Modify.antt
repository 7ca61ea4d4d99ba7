-- What rules that set fields make of an event.
use Rattle.std.specs.Prelude.{◌≡◌, ℕ, ◌-◌, ◌==◌, Bool, false, List, [], ◌∷◌, Option, Some, None, if◌then◌else◌}
use Rattle.event_model.specs.Fields.{FieldMap}
use Rattle.expert_modify.specs.Meets.{meets}
use Rattle.expert_modify.specs.declared.rule.Rule.{Rule}
use Rattle.expert_rules.specs.Enrich.{joined}
use Rattle.expert_rules.specs.declared.modifying.Standing.{Standing as Code}

-- how many more rules may match, where there is a limit
abbrev pub Left : Type 0
Left = Option ℕ

-- 0 is no limit
abbrev pub limit : ℕ → Left
limit most = if most == 0 then None else Some most

abbrev pub is_over : Left → Bool
is_over None = false
is_over (Some n) = n == 0

abbrev pub one_less : Left → Left
one_less None = None
one_less (Some n) = Some (n - 1)

-- how the run of rules stands: how many may still match, and the fields
abbrev pub Standing : Type 0
Standing = Left × FieldMap

module _ (overwrite : Bool) where
  -- a rule that matches sets its fields, each in any case or where it is absent
  abbrev pub after : Rule → Standing → Standing
  after rule s = if meets rule s.1 then (one_less s.0, joined overwrite rule.sets s.1) else s

  -- the fields behind the rules, each of which looks at the fields as they stand then
  abbrev pub run : List Rule → Standing → FieldMap
  run [] s = s.1
  run (rule ∷ rules) s = if is_over s.0 then s.1 else run rules (after rule s)

  -- the rules that match in that run
  abbrev pub matched : List Rule → Standing → List Rule
  matched [] s = []
  matched (rule ∷ rules) s = if is_over s.0 then [] else (if meets rule s.1 then rule ∷ matched rules (after rule s) else matched rules (after rule s))

-- what the rules make of the fields; after `most` that matched the run ends, unless that is 0
unfoldable pub modified : List Rule → Bool → ℕ → FieldMap → FieldMap
modified rules overwrite most fields = run overwrite rules (limit most, fields)

-- ---- what private contracts cite

abbrev pub standing_of : Code → Standing
standing_of s = (s.left, s.fields)

-- it stands as behind that rule
abbrev pub IsAfter : Bool → Option Rule → Code → Code → Type 0
IsAfter overwrite None old new = ⊥
IsAfter overwrite (Some rule) old new = standing_of new ≡ after overwrite rule (standing_of old)
