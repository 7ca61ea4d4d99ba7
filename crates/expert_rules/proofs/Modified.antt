-- The run of rules that set fields, rule by rule.
use Rattle.std.proofs.Common.{◌≡◌, ℕ, zero, suc, ◌+◌, ◌-◌, ◌==◌, ◌<◌, ◌≤◌, List, [], ◌∷◌, length, drop, Bool, true, false, Option, Some, None, refl, sym, ◌∙◌, ap, subst, arith}
use Rattle.std.proofs.lemmas.List.{drop_all}
use Rattle.std.proofs.lemmas.Bool.{cond-true, cond-false, eqb-false, ne_eqb}
use Rattle.std.specs.Prelude.{if◌then◌else◌, slice_get}
use Rattle.std.specs.FinMap.{get}
use Rattle.std.specs.List.{AllByRecursion}
use Rattle.std.specs.Option.{option_or}
use Rattle.field_types.specs.declared.value.Value.{Value}
use Rattle.event_model.specs.Fields.{FieldMap}
use Rattle.expert_modify.specs.Meets.{meets}
use Rattle.expert_modify.specs.declared.rule.Rule.{Rule}
use Rattle.expert_rules.specs.Enrich.{joined}
use Rattle.expert_rules.specs.Modify.{after, is_over, limit, matched, modified, one_less, run, standing_of, IsAfter, Standing}
use Rattle.expert_rules.specs.declared.modifying.Standing.{Standing as Code}
use Rattle.expert_rules.proofs.Unions.{get-union}

-- ---- the code's run

next : (overwrite : Bool) (rules : List Rule) (i : ℕ) (old new : Code) → i < length rules → is_over old.left ≡ false → IsAfter overwrite (slice_get rules i) old new
    → run overwrite (drop i rules) (standing_of old) ≡ run overwrite (drop (suc i) rules) (standing_of new)
next overwrite [] i old new within goes is = absurd (omega arith)
next overwrite (rule ∷ rules) zero old new within goes is =
    cond-false (is_over old.left) old.fields (run overwrite rules (after overwrite rule (standing_of old))) goes ∙ ap (run overwrite rules) (sym is)
next overwrite (rule ∷ rules) (suc i) old new within goes is = next overwrite rules i old new (omega arith) goes is

-- the code's list of rules stays what it was
pub goes_on : (overwrite : Bool) (rules now : List Rule) (i : ℕ) (old new : Code) → now ≡ rules → i < length now → is_over old.left ≡ false → IsAfter overwrite (slice_get now i) old new
    → run overwrite (drop i rules) (standing_of old) ≡ run overwrite (drop (i + 1) rules) (standing_of new)
goes_on overwrite rules now i old new same within goes is =
    let more : suc i ≡ i + 1 = omega arith in
    next overwrite rules i old new (subst (λ (rs : List Rule). i < length rs) same within) goes (subst (λ (rs : List Rule). IsAfter overwrite (slice_get rs i) old new) same is)
    ∙ ap (λ (n : ℕ). run overwrite (drop n rules) (standing_of new)) more

pub over : (overwrite : Bool) (rules : List Rule) (s : Standing) → is_over s.0 ≡ true → run overwrite rules s ≡ s.1
over overwrite [] s is = refl
over overwrite (rule ∷ rules) s is = cond-true (is_over s.0) s.1 (run overwrite rules (after overwrite rule s)) is

pub at_end : (overwrite : Bool) (rules : List Rule) (i : ℕ) (s : Standing) → length rules ≤ i → run overwrite (drop i rules) s ≡ s.1
at_end overwrite rules i s le = ap (λ rs. run overwrite rs s) (drop_all i rules le)

-- ---- laws

or_left : (o p : Option Value) → o ≡ None → option_or o p ≡ p
or_left None p is = refl
or_left (Some v) p is = absurd (cc)

or_right : (o p : Option Value) → p ≡ None → option_or o p ≡ o
or_right None p is = is
or_right (Some v) p is = refl

-- a field that a rule doesn't set stays
set_stays : (overwrite : Bool) (sets fields : FieldMap) (key : List ℕ) → get sets key ≡ None → get (joined overwrite sets fields) key ≡ get fields key
set_stays true sets fields key is = get-union sets fields key ∙ or_left (get sets key) (get fields key) is
set_stays false sets fields key is = get-union fields sets key ∙ or_right (get fields key) (get sets key) is

-- the rules that match don't set the field
abbrev pub Unset : List ℕ → List Rule → Type 0
Unset key rules = AllByRecursion (λ rule. get rule.sets key ≡ None) rules

module _ (overwrite : Bool) (key : List ℕ) where
  abbrev Stays : List Rule → Type 0
  Stays rules = (s : Standing) → Unset key (matched overwrite rules s) → get (run overwrite rules s) key ≡ get s.1 key

  stays_met : (b : Bool) (rule : Rule) (rules : List Rule) (s : Standing) → Stays rules
      → Unset key (if b then rule ∷ matched overwrite rules (if b then (one_less s.0, joined overwrite rule.sets s.1) else s) else matched overwrite rules (if b then (one_less s.0, joined overwrite rule.sets s.1) else s))
      → get (run overwrite rules (if b then (one_less s.0, joined overwrite rule.sets s.1) else s)) key ≡ get s.1 key
  stays_met true rule rules s later unset = later (one_less s.0, joined overwrite rule.sets s.1) unset.1 ∙ set_stays overwrite rule.sets s.1 key unset.0
  stays_met false rule rules s later unset = later s unset

  stays_by : (b : Bool) (rule : Rule) (rules : List Rule) (s : Standing) → Stays rules
      → Unset key (if b then [] else (if meets rule s.1 then rule ∷ matched overwrite rules (after overwrite rule s) else matched overwrite rules (after overwrite rule s)))
      → get (if b then s.1 else run overwrite rules (after overwrite rule s)) key ≡ get s.1 key
  stays_by true rule rules s later unset = refl
  stays_by false rule rules s later unset = stays_met (meets rule s.1) rule rules s later unset

  stays : (rules : List Rule) → Stays rules
  stays [] s unset = refl
  stays (rule ∷ rules) s unset = stays_by (is_over s.0) rule rules s (stays rules) unset

  pub unset_stays : (rules : List Rule) (most : ℕ) (fields : FieldMap) → Unset key (matched overwrite rules (limit most, fields)) → get (modified rules overwrite most fields) key ≡ get fields key
  unfolding modified
  unset_stays rules most fields unset = stays rules (limit most, fields) unset

-- where nothing is overwritten, a field that is there stays
or_first : (o p : Option Value) (v : Value) → o ≡ Some v → option_or o p ≡ Some v
or_first None p v is = absurd (cc)
or_first (Some w) p v is = is

module _ (key : List ℕ) (v : Value) where
  abbrev Keeps : List Rule → Type 0
  Keeps rules = (s : Standing) → get s.1 key ≡ Some v → get (run false rules s) key ≡ Some v

  kept_met : (b : Bool) (rule : Rule) (rules : List Rule) (s : Standing) → Keeps rules → get s.1 key ≡ Some v
      → get (run false rules (if b then (one_less s.0, joined false rule.sets s.1) else s)) key ≡ Some v
  kept_met true rule rules s later there =
      later (one_less s.0, joined false rule.sets s.1) (get-union s.1 rule.sets key ∙ or_first (get s.1 key) (get rule.sets key) v there)
  kept_met false rule rules s later there = later s there

  kept_by : (b : Bool) (rule : Rule) (rules : List Rule) (s : Standing) → Keeps rules → get s.1 key ≡ Some v → get (if b then s.1 else run false rules (after false rule s)) key ≡ Some v
  kept_by true rule rules s later there = there
  kept_by false rule rules s later there = kept_met (meets rule s.1) rule rules s later there

  kept : (rules : List Rule) → Keeps rules
  kept [] s there = there
  kept (rule ∷ rules) s there = kept_by (is_over s.0) rule rules s (kept rules) there

  pub present_stays : (rules : List Rule) (most : ℕ) (fields : FieldMap) → get fields key ≡ Some v → get (modified rules false most fields) key ≡ Some v
  unfolding modified
  present_stays rules most fields there = kept rules (limit most, fields) there

-- with a limit of so many, no more rules match
module _ (overwrite : Bool) where
  abbrev AreFew : List Rule → Type 0
  AreFew rules = (s : Standing) (n : ℕ) → s.0 ≡ Some n → length (matched overwrite rules s) ≤ n

  few_met : (b : Bool) (rule : Rule) (rules : List Rule) (s : Standing) (n : ℕ) → AreFew rules → s.0 ≡ Some n → is_over s.0 ≡ false
      → length (if b then rule ∷ matched overwrite rules (if b then (one_less s.0, joined overwrite rule.sets s.1) else s) else matched overwrite rules (if b then (one_less s.0, joined overwrite rule.sets s.1) else s)) ≤ n
  few_met true rule rules s n later is test =
      let some : n ≡ 0 → ⊥ = eqb-false n 0 (ap is_over (sym is) ∙ test) in
      let rest : length (matched overwrite rules (one_less s.0, joined overwrite rule.sets s.1)) ≤ n - 1 = later (one_less s.0, joined overwrite rule.sets s.1) (n - 1) (ap one_less is) in
      omega (arith, some, rest)
  few_met false rule rules s n later is test = later s n is

  few_by : (b : Bool) (rule : Rule) (rules : List Rule) (s : Standing) (n : ℕ) → AreFew rules → s.0 ≡ Some n → is_over s.0 ≡ b
      → length (if b then [] else (if meets rule s.1 then rule ∷ matched overwrite rules (after overwrite rule s) else matched overwrite rules (after overwrite rule s))) ≤ n
  few_by true rule rules s n later is test = omega arith
  few_by false rule rules s n later is test = few_met (meets rule s.1) rule rules s n later is test

  few : (rules : List Rule) → AreFew rules
  few [] s n is = omega arith
  few (rule ∷ rules) s n is = few_by (is_over s.0) rule rules s n (few rules) is refl

is_limit : (most : ℕ) → 1 ≤ most → limit most ≡ Some most
is_limit most some = cond-false (most == 0) None (Some most) (ne_eqb most 0 (λ e. absurd (omega (arith, some, e))))

pub few_match : (rules : List Rule) (overwrite : Bool) (most : ℕ) (fields : FieldMap) → 1 ≤ most → length (matched overwrite rules (limit most, fields)) ≤ most
few_match rules overwrite most fields some = few overwrite rules (limit most, fields) most (is_limit most some)
