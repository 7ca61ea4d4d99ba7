-- The first fault of several.
use Rattle.std.proofs.Common.{◌≡◌, ℕ, List, [], ◌∷◌, ◌++◌, Bool, true, false, not, ◌||◌, MatchResult, OnOk, if◌then◌else◌, Option, Some, None, Result, Ok, Err, refl, sym, ap, subst, ◌∙◌}
use Rattle.std.specs.Option.{option_or}
use Rattle.serde_json.specs.Data.{Members}
use Rattle.config_bundle.specs.declared.bundle.Bundle.{Bundle}
use Rattle.runtime_config.specs.Faults.{fault_of, first_of, pass_together, passes_own, passes_patterns, past_limit, rules_of_places, rules_of_settings, rules_fault, rules_of_sieves, content_fault, table_fault, Place, Rule}
use Rattle.runtime_config.specs.Found.{IsFault, IsFound, IsPlannedAs, IsSieveOf}
use Rattle.runtime_config.specs.Load.{planned}
use Rattle.runtime_config.specs.Whole.{is_past}
use Rattle.runtime_text.specs.Runtime.{module_of, Entry}
use Rattle.module_settings.specs.Modules.{reads_rules, reads_table}
use Rattle.runtime_config.specs.declared.fault.LoadFault.{LoadFault}
use Rattle.runtime_config.specs.declared.fault.LoadFault.TheVariants as fault
use Rattle.event_model.specs.Fields.{FieldMap}
use Rattle.runtime_config.specs.declared.plan.Module.TheVariants as as_module
use Rattle.runtime_config.specs.declared.plan.Planned.{Planned}
use Rattle.runtime_config.specs.declared.plan.Route.{Route}
use Rattle.sieve_tree.specs.SieveView.{SieveView}

abbrev Found : Type 0
Found = Option LoadFault

moved : (e : LoadFault) (o p : Found) → (o ≡ Some e → p ≡ Some e) → IsFault o e → IsFault p e
moved fault.Json o p goes is = goes is
moved (fault.Module bot) o p goes is = goes is
moved (fault.Parameter bot name) o p goes is = goes is
moved (fault.Missing bot name) o p goes is = goes is
moved (fault.File bot) o p goes is = goes is
moved (fault.Sieve bot e) o p goes is = goes is
moved (fault.Path bot at) o p goes is = goes is
moved (fault.Cycle bot) o p goes is = goes is
moved (fault.Limit bot) o p goes is = goes is
moved (fault.Queue bot) o p goes is = goes is
moved (fault.Table bot line) o p goes is = goes is
moved (fault.Rules bot rule) o p goes is = goes is
moved fault.OutOfMemory o p goes is = tt

pub first_fault_is : (o rest : Found) (e : LoadFault) → IsFault o e → IsFault (option_or o rest) e
first_fault_is o rest e is = moved e o (option_or o rest) (λ same. ap (λ p. option_or p rest) same) is

pub same_fault : (o p : Found) (e : LoadFault) → o ≡ p → IsFault o e → IsFault p e
same_fault o p e same is = moved e o p (λ h. sym same ∙ h) is

pub later_found : {A : Type 0} (o rest : Found) (r : Result A LoadFault) → o ≡ None → IsFound rest r → IsFound (option_or o rest) r
later_found o rest r none is = subst (λ (p : Found). IsFound (option_or p rest) r) (sym none) is

pub later_planned : (o rest : Found) (q : Planned) (r : Result Planned LoadFault) → o ≡ None → IsPlannedAs rest q r → IsPlannedAs (option_or o rest) q r
later_planned o rest q r none is = subst (λ (p : Found). IsPlannedAs (option_or p rest) q r) (sym none) is

pub same_planned : (o p : Found) (q : Planned) (r : Result Planned LoadFault) → o ≡ p → IsPlannedAs o q r → IsPlannedAs p q r
same_planned o p q r same is = subst (λ (x : Found). IsPlannedAs x q r) same is

pub later_sieve : (o rest : Found) (s : SieveView) (r : Result SieveView LoadFault) → o ≡ None → IsSieveOf rest s r → IsSieveOf (option_or o rest) s r
later_sieve o rest s r none is = subst (λ (p : Found). IsSieveOf (option_or p rest) s r) (sym none) is

-- the last rule of several
pub or_none : (o : Found) → option_or o None ≡ o
or_none None = refl
or_none (Some e) = refl

pub last_found : {A : Type 0} (o : Found) (r : Result A LoadFault) → IsFound o r → IsFound (option_or o None) r
last_found o r is = subst (λ (p : Found). IsFound p r) (sym (or_none o)) is

pub last_planned : (o : Found) (q : Planned) (r : Result Planned LoadFault) → IsPlannedAs o q r → IsPlannedAs (option_or o None) q r
last_planned o q r is = subst (λ (p : Found). IsPlannedAs p q r) (sym (or_none o)) is

pub last_sieve : (o : Found) (s : SieveView) (r : Result SieveView LoadFault) → IsSieveOf o s r → IsSieveOf (option_or o None) s r
last_sieve o s r is = subst (λ (p : Found). IsSieveOf p s r) (sym (or_none o)) is

grouped : (a b c : Found) → option_or (option_or a b) c ≡ option_or a (option_or b c)
grouped None b c = refl
grouped (Some e) b c = refl

-- rules behind others
pub rules_split : (front back : List Rule) (p : Place) → first_of (front ++ back) p ≡ option_or (first_of front p) (first_of back p)
rules_split [] back p = refl
rules_split (rule ∷ front) back p = ap (λ (o : Found). option_or (rule p) o) (rules_split front back p) ∙ sym (grouped (rule p) (first_of front p) (first_of back p))

-- a bot whose module reads no table has no fault in one
pub no_table : (bundle : Bundle) (global : Members) (bot : Entry) → reads_table (module_of bot) ≡ false → table_fault bundle global bot ≡ None
no_table bundle global bot is = rw is refl

-- nor has one whose module reads no rules one in those
pub no_rules : (bundle : Bundle) (global : Members) (bot : Entry) → reads_rules (module_of bot) ≡ false → rules_fault bundle global bot ≡ None
no_rules bundle global bot is = rw is refl

pub no_content : (bundle : Bundle) (global : Members) (bot : Entry) → reads_table (module_of bot) ≡ false → reads_rules (module_of bot) ≡ false → content_fault bundle global bot ≡ None
no_content bundle global bot table rules = ap (λ (o : Found). option_or o (rules_fault bundle global bot)) (no_table bundle global bot table) ∙ no_rules bundle global bot rules

-- one that reads rules has a fault in them alone, and one that reads a table in that alone
pub rules_alone : (bundle : Bundle) (global : Members) (bot : Entry) → reads_table (module_of bot) ≡ false → content_fault bundle global bot ≡ rules_fault bundle global bot
rules_alone bundle global bot table = ap (λ (o : Found). option_or o (rules_fault bundle global bot)) (no_table bundle global bot table)

pub table_alone : (bundle : Bundle) (global : Members) (bot : Entry) → reads_rules (module_of bot) ≡ false → content_fault bundle global bot ≡ table_fault bundle global bot
table_alone bundle global bot rules = ap (option_or (table_fault bundle global bot)) (no_rules bundle global bot rules) ∙ or_none (table_fault bundle global bot)

-- a result that is of one fault and of one value is of those that equal them
pub same_result : {A : Type 0} (o p : Found) (x y : A) (r : Result A LoadFault) → o ≡ p → x ≡ y → MatchResult r (λ a. (o ≡ None) × (a ≡ x)) (IsFault o) → MatchResult r (λ a. (p ≡ None) × (a ≡ y)) (IsFault p)
same_result o p x y (Ok a) found same is = (sym found ∙ is.0, is.1 ∙ same)
same_result o p x y (Err e) found same is = same_fault o p e found is

-- the last two rules of several
pub last_two : (o p : Found) (q : Planned) (r : Result Planned LoadFault) → IsPlannedAs (option_or o p) q r → IsPlannedAs (option_or o (option_or p None)) q r
last_two o p q r is = subst (λ (x : Found). IsPlannedAs (option_or o x) q r) (sym (or_none p)) is

pub planned_is : (bundle : Bundle) (global : Members) (bot : Entry) (p : Planned) → p.bot ≡ (planned bundle global bot).bot → p.«module» ≡ (planned bundle global bot).«module» → p.instances ≡ (planned bundle global bot).instances
    → p.retries ≡ (planned bundle global bot).retries → p.delay ≡ (planned bundle global bot).delay → p.stop ≡ (planned bundle global bot).stop → p.paths ≡ (planned bundle global bot).paths → p ≡ planned bundle global bot
planned_is bundle global bot p b m i r d s ps = λ t. record { bot = b t; «module» = m t; instances = i t; retries = r t; delay = d t; stop = s t; paths = ps t }

-- ---- the faults of queues, limits and cycles

abbrev pub when : Bool → LoadFault → Found
when b e = if b then Some e else None

pub there : (b : Bool) (e f : LoadFault) (rest : Found) → b ≡ true → f ≡ e → option_or (when b e) rest ≡ Some f
there true e f rest is same = ap Some (sym same)
there false e f rest is same = absurd (cc)

pub absent : (b : Bool) (e : LoadFault) → b ≡ false → when b e ≡ None
absent true e is = absurd (cc)
absent false e is = refl

-- one of two tests, with the same fault
pub either : (a b : Bool) (e : LoadFault) → option_or (when a e) (when b e) ≡ when (a || b) e
either true b e = refl
either false b e = refl

pub paths_known : (b : Bool) (ps qs : List Route) → Some ps ≡ (if b then Some qs else None) → (not b ≡ false) × (ps ≡ qs)
paths_known true ps qs is = (refl, cc)
paths_known false ps qs is = absurd (cc)

pub paths_unknown : (b : Bool) (qs : List Route) → None ≡ (if b then Some qs else None) → not b ≡ true
paths_unknown true qs is = absurd (cc)
paths_unknown false qs is = refl

pub on_ok : {A : Type 0} (r : Result A LoadFault) (P : Type 0) → P → OnOk r P
on_ok (Ok _) P p = p
on_ok (Err _) P p = tt

-- ---- all rules

pub sieves_split : (p : Place) → option_or (first_of rules_of_sieves p) (first_of rules_of_places p) ≡ first_of (rules_of_sieves ++ rules_of_places) p
sieves_split p = sym (rules_split rules_of_sieves rules_of_places p)

pub fault_split : (p : Place) → option_or (first_of rules_of_settings p) (first_of (rules_of_sieves ++ rules_of_places) p) ≡ fault_of p
unfolding fault_of
fault_split p = sym (rules_split rules_of_settings (rules_of_sieves ++ rules_of_places) p) ∙ ap (λ (rs : List Rule). first_of rs p) (sym (grouped_rules rules_of_settings rules_of_sieves rules_of_places))
  where
    grouped_rules : (a b c : List Rule) → (a ++ b) ++ c ≡ a ++ (b ++ c)
    grouped_rules [] b c = refl
    grouped_rules (r ∷ a) b c = ap (λ (rs : List Rule). r ∷ rs) (grouped_rules a b c)

-- a bot with a number above its limit
pub limit_is : (p : Place) → past_limit p ≡ when (is_past p) (fault.Limit p.bot.0)
limit_is p = either (passes_patterns p.bundle p.runtime.global p.bot) (passes_own p.bundle p.runtime.global p.bot || pass_together p.bundle p.runtime.global (p.before ++ p.bot ∷ [])) (fault.Limit p.bot.0)

pub csv_is : (a1 b1 : List (List (List ℕ))) (a2 b2 : ℕ) (a3 b3 : Bool) (a4 b4 : FieldMap) (a5 b5 : Bool) → a1 ≡ b1 → a2 ≡ b2 → a3 ≡ b3 → a4 ≡ b4 → a5 ≡ b5 → as_module.Csv a1 a2 a3 a4 a5 ≡ as_module.Csv b1 b2 b3 b4 b5
csv_is a1 b1 a2 b2 a3 b3 a4 b4 a5 b5 p1 p2 p3 p4 p5 = λ t. as_module.Csv (p1 t) (p2 t) (p3 t) (p4 t) (p5 t)
