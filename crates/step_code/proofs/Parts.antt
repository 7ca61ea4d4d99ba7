-- What the parts of the table say where all of them hold.
use Rattle.std.proofs.Common.{◌≡◌, ℕ, Bool, true, false, not, eqb, is_some, List, [], ◌∷◌, ◌++◌, nat_lt, Option, Some, None, option_map, refl, sym, ◌∙◌, ap}
use Rattle.std.proofs.lemmas.Bool.{eqb-true}
use Rattle.base_types.specs.declared.message.FaultNote.{FaultNote}
use Rattle.base_types.specs.declared.message.Moment.{Moment}
use Rattle.step_code.specs.declared.base.Base.{Base}
use Rattle.step_code.specs.declared.step.StepKind.TheVariants as kind
use Rattle.step_code.specs.declared.step.StepRefusal.{StepRefusal}
use Rattle.step_code.specs.declared.step.StepRefusal.TheVariants as refusal
use Rattle.step_code.specs.Fits.{Part, Fits, first_failing, backlog_limit, in_hand_parts, may_retry}
use Rattle.step_code.specs.Rules.{Meaning, is_collector, passes}
use Rattle.step_code.specs.State.{backlog, bots_in_force, has_finished, held, is_instance, position_of, tries_of}

-- the first of them holds, and the others hold
pub part_holds : (holds : Bool) (r : StepRefusal) (ps : List Part) → first_failing ((holds, r) ∷ ps) ≡ None → (holds ≡ true) × (first_failing ps ≡ None)
part_holds true r ps none = (refl, none)
part_holds false r ps none = absurd (cc)

-- what is there and equals a number is that number
pub passes_number : {A : Type 0} (number_of : A → ℕ) (x : A) (found : Option A) (number : ℕ) → found ≡ Some x → passes (λ n. eqb n number) (option_map number_of found) ≡ true → number_of x ≡ number
passes_number number_of x None number is holds = absurd (cc)
passes_number number_of x (Some y) number is holds = ap (λ o. unwrap (number_of x) o) (sym (ap (option_map number_of) is)) ∙ eqb-true (number_of y) number holds
  where
    unwrap : ℕ → Option ℕ → ℕ
    unwrap d None = d
    unwrap d (Some n) = n

pub three_hold : (a b c : Bool) (r s t : StepRefusal) → first_failing ((a, r) ∷ (b, s) ∷ (c, t) ∷ []) ≡ None → (a ≡ true) × (b ≡ true) × (c ≡ true)
three_hold a b c r s t none =
    let first = part_holds a r ((b, s) ∷ (c, t) ∷ []) none in
    let second = part_holds b s ((c, t) ∷ []) first.1 in
    let third = part_holds c t [] second.1 in (first.0, second.0, third.0)

-- what an instance has and was made under the bundle in force
abbrev pub HasInHand : Meaning → Base → List ℕ → ℕ → ℕ → ℕ → Type 0
HasInHand m s bot instance message bundle =
    (is_instance (bots_in_force m s) bot instance ≡ true) × (eqb bundle s.bundle_no ≡ true) × (passes (λ n. eqb n message) (held bot instance s) ≡ true)

module _ (m : Meaning) (state : Base) (now : Moment) where
  has_in_hand : (bot : List ℕ) (instance message bundle : ℕ) (last : Part) → first_failing (in_hand_parts m state bot instance message bundle ++ last ∷ []) ≡ None
      → HasInHand m state bot instance message bundle × (last.0 ≡ true)
  has_in_hand bot instance message bundle last none =
      let live = is_instance (bots_in_force m state) bot instance in
      let current = eqb bundle state.bundle_no in
      let here = passes (λ n. eqb n message) (held bot instance state) in
      let first = part_holds live refusal.NotLive ((current, refusal.Stale state.bundle_no) ∷ (here, refusal.NotInHand (held bot instance state)) ∷ last ∷ []) none in
      let second = part_holds current (refusal.Stale state.bundle_no) ((here, refusal.NotInHand (held bot instance state)) ∷ last ∷ []) first.1 in
      let third = part_holds here (refusal.NotInHand (held bot instance state)) (last ∷ []) second.1 in
      ((first.0, second.0, third.0), (part_holds last.0 last.1 [] third.1).0)

  pub retry_fits : (bot : List ℕ) (instance message bundle : ℕ) (fault : FaultNote) → Fits m state (record { moment = now; what = kind.Retry bot instance message bundle fault })
      → HasInHand m state bot instance message bundle × (may_retry m state bot instance ≡ true)
  retry_fits bot instance message bundle fault fits = has_in_hand bot instance message bundle (may_retry m state bot instance, refusal.Tries (tries_of bot instance state)) fits

  pub fail_fits : (bot : List ℕ) (instance message bundle : ℕ) (fault : FaultNote) (queues : List (List ℕ)) (halts : Bool)
      → Fits m state (record { moment = now; what = kind.Fail bot instance message bundle fault queues halts })
      → HasInHand m state bot instance message bundle × (not (may_retry m state bot instance) ≡ true)
  fail_fits bot instance message bundle fault queues halts fits = has_in_hand bot instance message bundle (not (may_retry m state bot instance), refusal.Tries (tries_of bot instance state)) fits

  pub reload_fits : (bundle : List ℕ) → Fits m state (record { moment = now; what = kind.Reload bundle }) → is_some (m.facts bundle) ≡ true
  reload_fits bundle fits = (part_holds (is_some (m.facts bundle)) refusal.Refused [] fits).0

  pub done_fits : (bot : List ℕ) (instance message bundle : ℕ) (sends : List (List ℕ × List ℕ)) (dumps : List (List ℕ × FaultNote)) (key : Option (List ℕ)) (line : Bool)
      → Fits m state (record { moment = now; what = kind.Done bot instance message bundle sends dumps key line })
      → HasInHand m state bot instance message bundle
  done_fits bot instance message bundle sends dumps key line fits =
      three_hold (is_instance (bots_in_force m state) bot instance) (eqb bundle state.bundle_no) (passes (λ n. eqb n message) (held bot instance state))
      refusal.NotLive (refusal.Stale state.bundle_no) (refusal.NotInHand (held bot instance state)) fits

  pub collect_fits : (bot : List ℕ) (from upto : ℕ) (piece : List ℕ) → Fits m state (record { moment = now; what = kind.Collect bot from upto piece }) → is_collector (bots_in_force m state) bot ≡ true
  collect_fits bot from upto piece fits =
      (part_holds (is_collector (bots_in_force m state) bot) refusal.NotLive
      ((not (has_finished bot state), refusal.Finished) ∷ (eqb from (position_of bot state), refusal.Behind (position_of bot state))
      ∷ (nat_lt (backlog (bots_in_force m state) state) backlog_limit, refusal.Backlog (backlog (bots_in_force m state) state)) ∷ []) fits).0

-- what passes is there
pub passes_there : {A : Type 0} (test : A → Bool) (found : Option A) → passes test found ≡ true → (x : A) × (found ≡ Some x)
passes_there test None holds = absurd (cc)
passes_there test (Some x) holds = (x, refl)
