-- The fault that a file is absent, and where it comes from.
use Rattle.std.proofs.Common.{◌≡◌, ◌⊎◌, inl, inr, ⊎_elim, ℕ, List, [], ◌∷◌, ◌++◌, ◌&&◌, Bool, true, false, is_some, is_none, map, Option, Some, None, Result, Ok, Err, option_map, option_and_then, length, nat_lt, if◌then◌else◌, refl, sym, ap, ◌∙◌}
use Rattle.std.specs.Option.{option_or}
use Rattle.std.proofs.lemmas.Slice.Eq.{bytes_eq-Decides}
use Rattle.std.specs.Str.{bytes_eq}
use Rattle.base_types.specs.Lists.{IsIn}
use Rattle.config_bundle.specs.declared.bundle.Bundle.{Bundle}
use Rattle.event_model.specs.Trees.{tree_in}
use Rattle.runtime_text.specs.Named.{file_of, named_files}
use Rattle.runtime_text.proofs.AllNamed.{files_are_named}
use Rattle.runtime_text.specs.Runtime.{object_of, runtime_in, Entry, Runtime}
use Rattle.runtime_config.specs.Faults.{absent_file, bad_parameter, bad_row, bad_rule, content_of, fault_of, fault_when, first_fault, first_some, missing_member, on_cycle, past_limit, places_from, refused_sieve, unknown_module, unknown_path, unknown_queue, HasFiles, Place}
use Rattle.runtime_config.specs.Load.{load, of_runtime, runtime_of, unless}
use Rattle.config_bundle.specs.Limits.{longest_runtime}
use Rattle.runtime_config.specs.declared.fault.LoadFault.{LoadFault}
use Rattle.runtime_config.specs.declared.fault.LoadFault.TheVariants as fault
use Rattle.runtime_config.specs.declared.plan.Plan.{Plan}

abbrev Found : Type 0
Found = Option LoadFault

abbrev fault_or_none : Result Plan LoadFault → Found
fault_or_none (Ok plan) = None
fault_or_none (Err e) = Some e

-- ---- one rule of several

behind : (o rest : Found) (e : LoadFault) → (o ≡ Some e → ⊥) → option_or o rest ≡ Some e → rest ≡ Some e
behind None rest e not_so is = is
behind (Some f) rest e not_so is = absurd (not_so is)

first : (o rest : Found) (e : LoadFault) → (rest ≡ Some e → ⊥) → option_or o rest ≡ Some e → o ≡ Some e
first None rest e not_so is = absurd (not_so is)
first (Some f) rest e not_so is = is

module _ (name : List ℕ) where
  -- the fault is that of an absent file
  abbrev Is : Found → Type 0
  Is o = o ≡ Some (fault.File name)

  not_when : (b : Bool) (e : LoadFault) → (Some e ≡ Some (fault.File name) → ⊥) → Is (fault_when b e) → ⊥
  not_when true e not_so is = not_so is
  not_when false e not_so is = absurd (cc)

  not_mapped : {A : Type 0} (f : A → LoadFault) (o : Option A) → ((x : A) → Some (f x) ≡ Some (fault.File name) → ⊥) → Is (option_map f o) → ⊥
  not_mapped f None not_so is = absurd (cc)
  not_mapped f (Some x) not_so is = not_so x is

  not_limit : (a b : Bool) (bot : List ℕ) → Is (option_or (fault_when a (fault.Limit bot)) (fault_when b (fault.Limit bot))) → ⊥
  not_limit true b bot is = absurd (cc)
  not_limit false true bot is = absurd (cc)
  not_limit false false bot is = absurd (cc)

  -- no rule but one finds it
  absent_alone : (p : Place) → Is (fault_of p) → Is (absent_file p)
  unfolding fault_of
  absent_alone p is =
      let words = behind (unknown_module p) _ (fault.File name) (not_when _ (fault.Module p.bot.0) (λ e. absurd (cc))) is in
      let bad = behind (bad_parameter p) _ (fault.File name) (not_mapped (fault.Parameter p.bot.0) _ (λ x e. absurd (cc))) words in
      let missing = behind (missing_member p) _ (fault.File name) (not_mapped (fault.Missing p.bot.0) _ (λ x e. absurd (cc))) bad in
      first (absent_file p) _ (fault.File name) later missing
    where
      later : Is (option_or (refused_sieve p) (option_or (unknown_path p) (option_or (on_cycle p) (option_or (past_limit p) (option_or (unknown_queue p) (option_or (bad_row p) (option_or (bad_rule p) None))))))) → ⊥
      later is =
          let sieve = behind (refused_sieve p) _ (fault.File name) (not_mapped (fault.Sieve p.bot.0) _ (λ x e. absurd (cc))) is in
          let path = behind (unknown_path p) _ (fault.File name) (not_mapped (fault.Path p.bot.0) _ (λ x e. absurd (cc))) sieve in
          let cycle = behind (on_cycle p) _ (fault.File name) (not_when _ (fault.Cycle p.bot.0) (λ e. absurd (cc))) path in
          let limit = behind (past_limit p) _ (fault.File name) (not_limit _ _ p.bot.0) cycle in
          let queue = behind (unknown_queue p) _ (fault.File name) (not_when _ (fault.Queue p.bot.0) (λ e. absurd (cc))) limit in
          let table = behind (bad_row p) _ (fault.File name) (not_mapped (fault.Table p.bot.0) _ (λ x e. absurd (cc))) queue in
          let rules = behind (bad_rule p) _ (fault.File name) (not_mapped (fault.Rules p.bot.0) _ (λ x e. absurd (cc))) table in
          absurd (cc (rules))

  -- ---- all bots

  record IsAt (bundle : Bundle) (rt : Runtime) (bots : List Entry) : Type 0 where
    pub at : Place
    pub bundle_is : at.bundle ≡ bundle
    pub runtime_is : at.runtime ≡ rt
    pub there : IsIn at.bot bots
    pub fault_is : Is (fault_of at)

  one_first : (bundle : Bundle) (rt : Runtime) (later : List Entry) (at : Place) (o rest : Found) → at.bundle ≡ bundle → at.runtime ≡ rt → fault_of at ≡ o → (Is rest → IsAt bundle rt later) → Is (option_or o rest)
      → IsAt bundle rt (at.bot ∷ later)
  one_first bundle rt later at None rest of run here goes is =
      let found = goes is in
      record { at = found.at; bundle_is = found.bundle_is; runtime_is = found.runtime_is; there = inr found.there; fault_is = found.fault_is }
  one_first bundle rt later at (Some e) rest of run here goes is = record { at = at; bundle_is = of; runtime_is = run; there = inl refl; fault_is = here ∙ is }

  one_of : (bundle : Bundle) (rt : Runtime) (before bots : List Entry) → Is (first_some (map fault_of (places_from bundle rt before bots))) → IsAt bundle rt bots
  one_of bundle rt before [] is = absurd (cc)
  one_of bundle rt before (bot ∷ later) is =
      let place : Place = record { bundle = bundle; runtime = rt; before = before; bot = bot } in
      one_first bundle rt later place (fault_of place) (first_some (map fault_of (places_from bundle rt (before ++ bot ∷ []) later))) refl refl refl (one_of bundle rt (before ++ bot ∷ []) later) is

  -- what loads so has that first fault
  first_is : (bundle : Bundle) (rt : Runtime) (plan : Plan) (o : Found) → first_fault bundle rt ≡ o → unless o plan ≡ Err (fault.File name) → Is (first_fault bundle rt)
  first_is bundle rt plan None here is = absurd (cc)
  first_is bundle rt plan (Some e) here is = here ∙ ap fault_or_none is

  of_text : (bundle : Bundle) (o : Option Runtime) → runtime_of bundle ≡ o → of_runtime bundle o ≡ Err (fault.File name) → (rt : Runtime) × (runtime_of bundle ≡ Some rt) × IsAt bundle rt rt.bots
  unfolding first_fault
  of_text bundle None here is = absurd (cc)
  of_text bundle (Some rt) here is = (rt, here, one_of bundle rt [] rt.bots (first_is bundle rt _ (first_fault bundle rt) refl is))

-- ---- the file

when_is : (b : Bool) (e f : LoadFault) → fault_when b e ≡ Some f → b ≡ true
when_is true e f is = refl
when_is false e f is = absurd (cc)

not_both : (c : Option (List ℕ)) → is_some c ≡ true → is_none c ≡ true → ⊥
not_both None there absent = absurd (cc)
not_both (Some bytes) there absent = absurd (cc)

not_lacked : (files : List (List ℕ × List ℕ)) (o : Option (List ℕ)) → ((f : List ℕ) → o ≡ Some f → is_some (content_of files f) ≡ true) → (is_some o && is_none (option_and_then (content_of files) o)) ≡ true → ⊥
not_lacked files None has lacks = absurd (cc)
not_lacked files (Some f) has lacks = not_both (content_of files f) (has f refl) lacks

-- a runtime that isn't too long is that of the text
text_is : (b : Bool) (o : Option Runtime) (rt : Runtime) → (if b then None else o) ≡ Some rt → o ≡ Some rt
text_is true o rt is = absurd (cc)
text_is false o rt is = is

pub no_absent_file : (bundle : Bundle) → HasFiles bundle (named_files bundle.runtime) → (name : List ℕ) → load bundle ≡ Err (fault.File name) → ⊥
unfolding load runtime_of
no_absent_file bundle has name is =
    let (rt, runtime_is, at) = of_text name bundle (runtime_of bundle) refl is in
    let text : option_and_then runtime_in (option_and_then object_of (tree_in bundle.runtime)) ≡ Some rt = text_is (nat_lt longest_runtime (length bundle.runtime)) _ rt runtime_is in
    let p = at.at in
    let lacks = when_is _ (fault.File p.bot.0) (fault.File name) (absent_alone name p at.fault_is) in
    not_lacked p.bundle.files (file_of p.runtime.global p.bot)
    (λ f given.
    let given_there : file_of rt.global p.bot ≡ Some f = ap (λ (r : Runtime). file_of r.global p.bot) (sym at.runtime_is) ∙ given in
    ap (λ (b : Bundle). is_some (content_of b.files f)) at.bundle_is ∙ has f (files_are_named bundle.runtime rt text p.bot at.there f given_there))
    lacks

-- files under these names
has_first : (name : List ℕ) (f : List ℕ × List ℕ) (fs : List (List ℕ × List ℕ)) (b : Bool) → bytes_eq f.0 name ≡ b → (name ≡ f.0) ⊎ IsIn name (map (λ (f : List ℕ × List ℕ). f.0) fs)
    → (IsIn name (map (λ (f : List ℕ × List ℕ). f.0) fs) → is_some (content_of fs name) ≡ true) → is_some (if b then Some f.1 else content_of fs name) ≡ true
has_first name f fs true same there later = refl
has_first name f fs false other there later = ⊎_elim (λ here. absurd (cc (other, (bytes_eq-Decides f.0 name).1 (sym here)))) later there

pub has_all : (files : List (List ℕ × List ℕ)) (name : List ℕ) → IsIn name (map (λ (f : List ℕ × List ℕ). f.0) files) → is_some (content_of files name) ≡ true
has_all [] name there = absurd there
has_all (f ∷ fs) name there = has_first name f fs (bytes_eq f.0 name) refl there (has_all fs name)
