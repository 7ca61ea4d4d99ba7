-- The numbers of a plan's bots are within their limits.
use Rattle.std.proofs.Common.{◌≡◌, ◌≤◌, ℕ, List, [], ◌∷◌, ◌++◌, Bool, true, false, cond, map, Option, Some, None, refl, sym, ap, subst, ◌∙◌, arith}
use Rattle.std.specs.Prelude.{◌&&◌, codes, filter, is_none, is_some, option_and_then, option_map, if◌then◌else◌}
use Rattle.std.specs.List.{AllByRecursion}
use Rattle.std.specs.Option.{option_or}
use Rattle.std.specs.Str.{bytes_eq}
use Rattle.std.proofs.lemmas.Option.{none-some, same_Some}
use Rattle.serde_json.specs.Data.{Data, Members}
use Rattle.config_bundle.specs.declared.bundle.Bundle.{Bundle}
use Rattle.event_model.specs.Lenient.{least}
use Rattle.runtime_config.specs.Faults.{bad_members, bad_names, fault_of, first_some, is_bad, places_from, Place}
use Rattle.runtime_config.specs.Load.{module_as, planned}
use Rattle.module_settings.specs.Parameters.{parameters_of, row, setting_of, Parameter}
use Rattle.runtime_text.specs.Runtime.{given, module_of, parameter_named, parameters, set_as, whole_in, Entry, Runtime}
use Rattle.runtime_config.specs.Within.{IsBotWithin, IsModuleWithin}
use Rattle.runtime_config.specs.declared.fault.LoadFault.{LoadFault}
use Rattle.runtime_config.specs.declared.fault.LoadFault.TheVariants as fault
use Rattle.module_settings.specs.declared.form.Form.TheVariants as form
use Rattle.module_settings.specs.declared.module.ModuleWord.{ModuleWord}
use Rattle.module_settings.specs.declared.module.ModuleWord.TheVariants as modules
use Rattle.module_settings.specs.declared.setting.Setting.TheVariants as as_setting
use Rattle.runtime_config.proofs.Bounds.{few_instances, few_retries, short_delay, small_chunk}
use Rattle.runtime_config.proofs.Numbers.{least_within}

-- ---- no parameter is bad

first_named : (p : Parameter → Bool) (name : List ℕ) (x q : Parameter) (xs : List Parameter) (b : Bool) → p x ≡ false → (if b then Some x else parameter_named name xs) ≡ Some q → (parameter_named name xs ≡ Some q → p q ≡ false) → p q ≡ false
first_named p name x q xs true fails is later = ap p (sym (same_Some x q is)) ∙ fails
first_named p name x q xs false fails is later = later is

first_fails : {A : Type 0} (x : A) (xs : List A) (b : Bool) → cond b (x ∷ xs) xs ≡ [] → (b ≡ false) × (xs ≡ [])
first_fails x xs true none = absurd (cc (none))
first_fails x xs false none = (refl, none)

-- the parameter of a name doesn't pass, where none does
named_fails : (p : Parameter → Bool) (name : List ℕ) (qs : List Parameter) (q : Parameter) → filter p qs ≡ [] → parameter_named name qs ≡ Some q → p q ≡ false
named_fails p name [] q none named = absurd (none-some q named)
named_fails p name (x ∷ xs) q none named =
    let parts = first_fails x (filter p xs) (p x) none in
    first_named p name x q xs (bytes_eq x.name name) parts.0 named (named_fails p name xs q parts.1)

-- a number that isn't bad is at least the least
number_least : (name : List ℕ) (least most n : ℕ) (d : Option Data) → least ≤ n
    → (is_some d && is_none (setting_of (row name (form.Number least most) (Some (as_setting.Whole n))) d)) ≡ false
    → least ≤ whole_in (setting_of (row name (form.Number least most) (Some (as_setting.Whole n))) d)
number_least name least most n None within fine = within
number_least name least most n (Some d) within fine = least_within least most d fine

-- a parameter is given a value of another form
abbrev Bad : (List ℕ → Option Data) → Parameter → Bool
Bad of q = is_some (of q.name) && is_none (setting_of q (of q.name))

-- the parameter of this name in the table, where no parameter is bad
abbrev AtLeast : List ℕ → ℕ → Option ModuleWord → Type 0
AtLeast name least word = (of : List ℕ → Option Data) → filter (Bad of) (parameters_of word) ≡ []
    → least ≤ whole_in (option_and_then (λ (q : Parameter). setting_of q (of q.name)) (parameter_named name (parameters_of word)))

one_at_least : (name : List ℕ) (most n : ℕ) (qs : List Parameter) (of : List ℕ → Option Data) → 1 ≤ n → filter (Bad of) qs ≡ []
    → parameter_named name qs ≡ Some (row name (form.Number 1 most) (Some (as_setting.Whole n)))
    → 1 ≤ whole_in (option_and_then (λ (q : Parameter). setting_of q (of q.name)) (parameter_named name qs))
one_at_least name most n qs of within none named =
    subst (λ (o : Option Parameter). 1 ≤ whole_in (option_and_then (λ (q : Parameter). setting_of q (of q.name)) o)) (sym named)
    (number_least name 1 most n (of name) within (named_fails (Bad of) name qs _ none named))

some_instance : (word : Option ModuleWord) → AtLeast (codes "instances_threads") 1 word
some_instance None of none = one_at_least (codes "instances_threads") 16 1 (parameters_of None) of (omega arith) none refl
some_instance (Some modules.Collector) of none = one_at_least (codes "instances_threads") 1 1 (parameters_of (Some modules.Collector)) of (omega arith) none refl
some_instance (Some modules.Csv) of none = one_at_least (codes "instances_threads") 16 1 (parameters_of (Some modules.Csv)) of (omega arith) none refl
some_instance (Some modules.Json) of none = one_at_least (codes "instances_threads") 16 1 (parameters_of (Some modules.Json)) of (omega arith) none refl
some_instance (Some modules.Sieve) of none = one_at_least (codes "instances_threads") 16 1 (parameters_of (Some modules.Sieve)) of (omega arith) none refl
some_instance (Some modules.Dedup) of none = one_at_least (codes "instances_threads") 16 1 (parameters_of (Some modules.Dedup)) of (omega arith) none refl
some_instance (Some modules.Prefix) of none = one_at_least (codes "instances_threads") 16 1 (parameters_of (Some modules.Prefix)) of (omega arith) none refl
some_instance (Some modules.Taxonomy) of none = one_at_least (codes "instances_threads") 16 1 (parameters_of (Some modules.Taxonomy)) of (omega arith) none refl
some_instance (Some modules.Modify) of none = one_at_least (codes "instances_threads") 16 1 (parameters_of (Some modules.Modify)) of (omega arith) none refl
some_instance (Some modules.Output) of none = one_at_least (codes "instances_threads") 16 1 (parameters_of (Some modules.Output)) of (omega arith) none refl

some_bytes : AtLeast (codes "chunk_size") 1 (Some modules.Collector)
some_bytes of none = one_at_least (codes "chunk_size") 1048576 65536 (parameters_of (Some modules.Collector)) of (omega arith) none refl

some_key : AtLeast (codes "cache_max") 1 (Some modules.Dedup)
some_key of none = one_at_least (codes "cache_max") 200000 100000 (parameters_of (Some modules.Dedup)) of (omega arith) none refl

-- the same of a bot
at_least : (name : List ℕ) (least : ℕ) (global : Members) (bot : Entry) (word : Option ModuleWord) → module_of bot ≡ word → AtLeast name least word → filter (is_bad global bot) (parameters bot) ≡ []
    → least ≤ whole_in (set_as global bot name)
unfolding set_as
at_least name least global bot word is all none = subst (AtLeast name least) (sym is) all (given global bot) none

-- ---- one bot

module_within : (bundle : Bundle) (global : Members) (bot : Entry) (word : Option ModuleWord) → module_of bot ≡ word → filter (is_bad global bot) (parameters bot) ≡ [] → IsModuleWithin (module_as bundle global bot word)
module_within bundle global bot None is none = tt
module_within bundle global bot (Some modules.Collector) is none = (at_least (codes "chunk_size") 1 global bot _ is some_bytes none, small_chunk global bot)
module_within bundle global bot (Some modules.Csv) is none = tt
module_within bundle global bot (Some modules.Json) is none = tt
module_within bundle global bot (Some modules.Sieve) is none = tt
module_within bundle global bot (Some modules.Dedup) is none = at_least (codes "cache_max") 1 global bot _ is some_key none
module_within bundle global bot (Some modules.Prefix) is none = tt
module_within bundle global bot (Some modules.Taxonomy) is none = tt
module_within bundle global bot (Some modules.Modify) is none = tt
module_within bundle global bot (Some modules.Output) is none = tt

bot_within : (bundle : Bundle) (global : Members) (bot : Entry) → filter (is_bad global bot) (parameters bot) ≡ [] → IsBotWithin (planned bundle global bot)
unfolding planned
bot_within bundle global bot none = record {
  some_instance = at_least (codes "instances_threads") 1 global bot _ refl (some_instance (module_of bot)) none;
  instances = few_instances global bot;
  retries = few_retries global bot;
  delay = short_delay global bot;
  «module» = module_within bundle global bot (module_of bot) refl none;
}

-- ---- all bots

or_none : (o p : Option LoadFault) → option_or o p ≡ None → (o ≡ None) × (p ≡ None)
or_none None p is = (refl, is)
or_none (Some e) p is = absurd (none-some e (sym is))

map_none : (f : List ℕ → LoadFault) (o : Option (List ℕ)) → option_map f o ≡ None → o ≡ None
map_none f None is = refl
map_none f (Some x) is = absurd (none-some (f x) (sym is))

no_least : (names : List (List ℕ)) → least names ≡ None → names ≡ []
no_least [] is = refl
no_least (x ∷ xs) is = absurd (none-some _ (sym is))

both_empty : {A B : Type 0} (f : A → B) (xs : List A) (ys : List B) → map f xs ++ ys ≡ [] → xs ≡ []
both_empty f [] ys is = refl
both_empty f (x ∷ xs) ys is = absurd (cc (is))

-- a bot without a fault has no bad parameter
none_bad : (p : Place) → fault_of p ≡ None → filter (is_bad p.runtime.global p.bot) (parameters p.bot) ≡ []
unfolding fault_of
none_bad p is =
    let later = (or_none _ _ is).1 in
    let bad = (or_none _ _ later).0 in
    both_empty (λ (q : Parameter). q.name) _ (bad_members p.bot) (no_least (bad_names p.runtime.global p.bot) (map_none (fault.Parameter p.bot.0) _ bad))

pub all_within : (bundle : Bundle) (rt : Runtime) (before bots : List Entry) → first_some (map fault_of (places_from bundle rt before bots)) ≡ None
    → AllByRecursion IsBotWithin (map (planned bundle rt.global) bots)
all_within bundle rt before [] is = tt
all_within bundle rt before (bot ∷ later) is =
    let parts = or_none _ _ is in
    (bot_within bundle rt.global bot (none_bad (record { bundle = bundle; runtime = rt; before = before; bot = bot }) parts.0), all_within bundle rt (before ++ bot ∷ []) later parts.1)
