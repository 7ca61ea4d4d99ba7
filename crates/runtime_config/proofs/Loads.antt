-- What a bundle means, bot by bot.
use Rattle.std.proofs.Common.{◌≡◌, ◌≤◌, ◌<◌, ◌+◌, ℕ, suc, List, [], ◌∷◌, ◌++◌, Bool, true, false, length, take, drop, map, nat_lt, Option, Some, None, Result, Ok, Err, IfOk, MatchResult, if◌then◌else◌, refl, sym, ap, ◌∙◌, add-one, drop-cons}
use Rattle.std.specs.List.{slice_get}
use Rattle.std.specs.Option.{option_or}
use Rattle.std.proofs.Math.Seq.{take-suc}
use Rattle.std.proofs.lemmas.Bool.{ltb-false}
use Rattle.std.proofs.lemmas.List.{map-append}
use Rattle.std.proofs.lemmas.Option.{get_or_from_slice_get}
use Rattle.serde_json.specs.Data.{Data}
use Rattle.event_model.specs.Trees.{tree_in}
use Rattle.config_bundle.specs.declared.bundle.Bundle.{Bundle}
use Rattle.runtime_config.specs.Faults.{fault_of, first_fault, first_some, places_from, Place}
use Rattle.runtime_config.specs.Found.{IsFault}
use Rattle.runtime_config.specs.Sums.{AreSmall, AreSums}
use Rattle.runtime_config.specs.Whole.{AreSumsOver}
use Rattle.runtime_text.specs.Read.{members_of}
use Rattle.runtime_config.specs.declared.limits.Sums.{Sums}
use Rattle.runtime_config.specs.declared.whole.Whole.{Whole}
use Rattle.runtime_config.specs.Load.{load, of_runtime, planned, runtime_of, unless, IsLoaded}
use Rattle.config_bundle.specs.Limits.{longest_runtime}
use Rattle.runtime_text.specs.Runtime.{Entry, Runtime}
use Rattle.runtime_config.specs.declared.fault.LoadFault.{LoadFault}
use Rattle.runtime_config.specs.declared.fault.LoadFault.TheVariants as fault
use Rattle.runtime_config.specs.declared.plan.Plan.{Plan}
use Rattle.runtime_config.specs.declared.plan.Planned.{Planned}

abbrev pub place : Bundle → Runtime → List Entry → Entry → Place
place bundle rt before bot = record { bundle = bundle; runtime = rt; before = before; bot = bot }

-- the bots up to one, and that one
pub one_more_taken : (bots : List Entry) (at : ℕ) (bot : Entry) → at < length bots → slice_get bots at ≡ Some bot → take at bots ++ bot ∷ [] ≡ take (at + 1) bots
one_more_taken bots at bot within is =
    ap (λ (e : Entry). take at bots ++ e ∷ []) (sym (get_or_from_slice_get bots at bot bot is)) ∙ sym (take-suc bots at bot within) ∙ ap (λ n. take n bots) (sym (add-one at))

pub next_left : (bots : List Entry) (at : ℕ) (bot : Entry) → at < length bots → slice_get bots at ≡ Some bot → drop at bots ≡ bot ∷ drop (at + 1) bots
next_left bots at bot within is =
    drop-cons bots at bot within ∙ ap (λ (e : Entry). e ∷ drop (suc at) bots) (get_or_from_slice_get bots at bot bot is) ∙ ap (λ n. bot ∷ drop n bots) (sym (add-one at))

pub next_fault : (bundle : Bundle) (rt : Runtime) (bots : List Entry) (at : ℕ) (bot : Entry) → at < length bots → slice_get bots at ≡ Some bot
    → first_some (map fault_of (places_from bundle rt (take at bots) (drop at bots)))
    ≡ option_or (fault_of (place bundle rt (take at bots) bot)) (first_some (map fault_of (places_from bundle rt (take (at + 1) bots) (drop (at + 1) bots))))
next_fault bundle rt bots at bot within is =
    ap (λ left. first_some (map fault_of (places_from bundle rt (take at bots) left))) (next_left bots at bot within is)
    ∙ ap (λ before. option_or (fault_of (place bundle rt (take at bots) bot)) (first_some (map fault_of (places_from bundle rt before (drop (at + 1) bots))))) (one_more_taken bots at bot within is)

pub next_planned : (f : Entry → Planned) (bots : List Entry) (at : ℕ) (bot : Entry) (old new : List Planned) (one : Planned) → at < length bots → slice_get bots at ≡ Some bot
    → old ≡ map f (take at bots) → new ≡ old ++ one ∷ [] → one ≡ f bot → new ≡ map f (take (at + 1) bots)
next_planned f bots at bot old new one within is so_far pushed same =
    pushed ∙ ap (λ (t : List Planned). t ++ one ∷ []) so_far ∙ ap (λ (p : Planned). map f (take at bots) ++ p ∷ []) same
    ∙ sym (map-append f (take at bots) (bot ∷ [])) ∙ ap (map f) (one_more_taken bots at bot within is)

pub none_first : (o rest whole : Option LoadFault) → o ≡ None → option_or o rest ≡ whole → rest ≡ whole
none_first o rest whole none is = ap (λ (p : Option LoadFault). option_or p rest) (sym none) ∙ is

-- sums that aren't past their limits
pub sums_over : {E : Type 0} (w : Whole) (bots : List Entry) (s : Sums) (r : Result Bool E) → IfOk r (λ past. past ≡ false → AreSums w.bundle.now (members_of w.global.now) bots s)
    → IfOk r (λ past. past ≡ false → AreSmall s) → IfOk r (λ past. past ≡ false → AreSumsOver w bots s)
sums_over w bots s (Ok past) are small = λ no. record { sums = are no; small = small no }
sums_over w bots s (Err e) are small = tt

-- ---- the runtime text

short_by : (b : Bool) (x : Option Data) (d : Data) (n : ℕ) → nat_lt longest_runtime n ≡ b → Some d ≡ (if b then None else x) → n ≤ longest_runtime
short_by true x d n test is = absurd (cc)
short_by false x d n test is = ltb-false longest_runtime n test

pub short_text : (bundle : Bundle) (d : Data) → Some d ≡ (if nat_lt longest_runtime (length bundle.runtime) then None else tree_in bundle.runtime) → length bundle.runtime ≤ longest_runtime
short_text bundle d is = short_by (nat_lt longest_runtime (length bundle.runtime)) (tree_in bundle.runtime) d (length bundle.runtime) refl is

pub no_runtime : (bundle : Bundle) → runtime_of bundle ≡ None → load bundle ≡ Err fault.Json
unfolding load
no_runtime bundle none = ap (of_runtime bundle) none

-- ---- the plan

loaded_as : (e : LoadFault) (meant : Result Plan LoadFault) (found : Option LoadFault) → (found ≡ Some e → meant ≡ Err e) → IsFault found e → IsLoaded meant (Err e)
loaded_as fault.Json meant found goes is = goes is
loaded_as (fault.Module bot) meant found goes is = goes is
loaded_as (fault.Parameter bot name) meant found goes is = goes is
loaded_as (fault.Missing bot name) meant found goes is = goes is
loaded_as (fault.File bot) meant found goes is = goes is
loaded_as (fault.Sieve bot e) meant found goes is = goes is
loaded_as (fault.Path bot at) meant found goes is = goes is
loaded_as (fault.Cycle bot) meant found goes is = goes is
loaded_as (fault.Limit bot) meant found goes is = goes is
loaded_as (fault.Queue bot) meant found goes is = goes is
loaded_as (fault.Table bot line) meant found goes is = goes is
loaded_as (fault.Rules bot rule) meant found goes is = goes is
loaded_as fault.OutOfMemory meant found goes is = tt

pub loaded : (bundle : Bundle) (rt : Runtime) (r : Result Plan LoadFault) → runtime_of bundle ≡ Some rt
    → MatchResult r (λ plan. (first_fault bundle rt ≡ None) × (plan ≡ record { bots = map (planned bundle rt.global) rt.bots })) (IsFault (first_fault bundle rt)) → IsLoaded (load bundle) r
unfolding load
loaded bundle rt (Ok plan) is (none, same) =
    ap (of_runtime bundle) is ∙ ap (λ o. unless o (record { bots = map (planned bundle rt.global) rt.bots })) none ∙ ap Ok (sym same)
loaded bundle rt (Err e) is found =
    loaded_as e (load bundle) (first_fault bundle rt) (λ same. ap (of_runtime bundle) is ∙ ap (λ o. unless o (record { bots = map (planned bundle rt.global) rt.bots })) same) found
