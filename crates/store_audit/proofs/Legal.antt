-- What is legal stands for a legal history.
use Rattle.std.proofs.Common.{◌≡◌, ◌≤◌, ◌+◌, inl, inr, ℕ, zero, suc, List, [], ◌∷◌, ◌++◌, length, filter, Option, Some, None, refl, sym, ap, subst, ◌∙◌, arith, append_assoc}
use Rattle.std.specs.List.{AllByRecursion}
use Rattle.edge_traits.specs.Disk.{Image}
use Rattle.step_code.specs.declared.base.Base.{Base}
use Rattle.step_code.specs.declared.step.Step.{Step}
use Rattle.step_code.specs.After.{after}
use Rattle.step_code.specs.Code.{code_of_base, first_format}
use Rattle.step_code.specs.History.{replay, Legal}
use Rattle.step_code.specs.Rules.{writes, Meaning}
use Rattle.step_code.specs.Sound.{longest_base, IsSound}
use Rattle.step_code.specs.Spent.{NothingIsSpent}
use Rattle.store_image.proofs.Histories.{legal_whole, seals, seals_on, seals_self, small_whole}
use Rattle.store_image.proofs.Unsealed.{new_unsealed, unsealed_replay}
use Rattle.store_image.specs.Files.{generation_file}
use Rattle.store_image.specs.Opens.{AreAlong}
use Rattle.store_image.specs.Stands.{behind, joined, AreArchived, FrontsStand, IsSealOf, IsUnsealed}
use Rattle.store_image.specs.Stored.{HoldsSteps}
use Rattle.store_image.proofs.Standing.{replay_steps, replay-append}
use Rattle.store_audit.specs.Audit.{ComeTo, IsAllowed, IsAudited, IsFirst, IsLegalStore, IsRight, IsWrong}
use Rattle.store_audit.specs.declared.verdict.Verdict.TheVariants as verdict
use Rattle.store_audit.proofs.Fronts.{fronts_later, fronts_sealed, longer_behind, new_fronts}

-- ---- steps that are allowed

allowed_legal : (m : Meaning) (s : Base) (steps : List Step) → AreAlong m (IsAllowed m) s steps → Legal m s steps
allowed_legal m s [] along = tt
allowed_legal m s (step ∷ steps) along = (along.0.1, allowed_legal m (after m s step) steps along.1)

allowed_small : (m : Meaning) (s : Base) (steps : List Step) → AreAlong m (IsAllowed m) s steps → NothingIsSpent m s steps
allowed_small m s [] along = tt
allowed_small m s (step ∷ steps) along = (along.0.0.1, allowed_small m (after m s step) steps along.1)

-- steps behind others
legal_on : (m : Meaning) (s : Base) (front more : List Step) → Legal m s front → Legal m (replay m s front) more → Legal m s (front ++ more)
legal_on m s [] more legal later = later
legal_on m s (step ∷ front) more legal later = (legal.0, legal_on m (after m s step) front more legal.1 later)

small_on : (m : Meaning) (s : Base) (front more : List Step) → NothingIsSpent m s front → NothingIsSpent m (replay m s front) more → NothingIsSpent m s (front ++ more)
small_on m s [] more small later = later
small_on m s (step ∷ front) more small later = (small.0, small_on m (after m s step) front more small.1 later)

-- ---- generations

-- what is legal isn't wrong
pub none_wrong : (m : Meaning) (image : Image) (g : ℕ) (before : Option Base) (n : ℕ) → IsWrong m image g before (verdict.Legal n) → ⊥
none_wrong m image g before n (inl (at, headless, is)) = absurd (cc)
none_wrong m image g before n (inr (bodies, cut, has, inl none)) = let is = none.1 in absurd (cc)
none_wrong m image g before n (inr (bodies, cut, has, inr (inl first))) = let is = first.1 in absurd (cc)
none_wrong m image g before n (inr (bodies, cut, has, inr (inr later))) = later.fault

-- generations from g on, and so many behind it: they go on from the state s, and hold a history that is legal from the state w, which is
-- s with nothing sealed
record HoldOn (m : Meaning) (image : Image) (g left : ℕ) (w s : Base) (n : ℕ) : Type 0 where
  pub held : List (Base × List Step)
  pub count : length held ≡ left
  pub each : AreArchived m image g s held
  pub base : Base
  pub steps : List Step
  pub holds : HoldsSteps (g + left) (image (generation_file (g + left))) base steps
  pub ends : IsSealOf (behind m s held) base
  pub seals : IsSealOf (replay m w (joined held)) base
  pub fronts : FrontsStand 0 (replay m w (joined held)).outs base.outs image
  pub short : length (code_of_base first_format base) ≤ longest_base
  pub history : List Step
  pub splits : history ≡ joined held ++ steps
  pub legal : Legal m w history
  pub small : NothingIsSpent m w history
  pub number : n ≡ (replay m w history).steps

module _ (m : Meaning) (image : Image) (n : ℕ) where
  -- a generation that begins with a state, and those behind it
  hold_on : (left g : ℕ) (w s base : Base) (steps : List Step) → AllByRecursion IsUnsealed w.outs → IsSealOf s base → IsSealOf w base → FrontsStand 0 w.outs base.outs image
      → HoldsSteps g (image (generation_file g)) base steps → IsSound m base → AreAlong m (IsAllowed m) base steps → ComeTo m image left (suc g) (Some (replay m base steps)) (verdict.Legal n) → HoldOn m image g left w s n
  hold_on zero g w s base steps unsealed goes_on seals_w fronts holds sound allowed is = record {
    held = [];
    count = refl;
    each = tt;
    base = base;
    steps = steps;
    holds = subst (λ (k : ℕ). HoldsSteps k (image (generation_file k)) base steps) (omega arith) holds;
    ends = goes_on;
    seals = seals_w;
    fronts = fronts;
    short = sound.short;
    history = steps;
    splits = refl;
    legal = legal_whole m w base steps seals_w (allowed_legal m base steps allowed);
    small = small_whole m w base steps seals_w (allowed_small m base steps allowed);
    number = (let same = ap (λ (t : Base). t.steps) (seals m w base steps seals_w).same in cc);
  }
  hold_on (suc left) g w s base steps unsealed goes_on seals_w fronts holds sound allowed (inl wrong) = absurd (none_wrong m image (suc g) (Some (replay m base steps)) n wrong)
  hold_on (suc left) g w s base steps unsealed goes_on seals_w fronts holds sound allowed (inr (next, more, right, later)) =
      let behind_w = replay m w steps in
      let behind_s = replay m base steps in
      let seal : IsSealOf behind_w behind_s = seals m w base steps seals_w in
      let unsealed_on = unsealed_replay m w steps unsealed in
      let fronts_on : FrontsStand 0 behind_w.outs behind_s.outs image = fronts_later 0 w.outs base.outs behind_w.outs behind_s.outs image unsealed seals_w.outs fronts (longer_behind m w steps) (longer_behind m base steps) in
      let fronts_next : FrontsStand 0 behind_w.outs next.outs image = fronts_sealed 0 behind_w.outs behind_s.outs next.outs image unsealed_on seal.outs fronts_on right.follows.seals.outs right.follows.sealed in
      let rest = hold_on left (suc g) behind_w behind_s next more unsealed_on right.follows.seals (seals_on behind_w behind_s next seal right.follows.seals) fronts_next right.holds right.sound right.allowed later in
      let along : replay m w (steps ++ joined rest.held) ≡ replay m behind_w (joined rest.held) = replay-append m w steps (joined rest.held) in
      record {
        held = (base, steps) ∷ rest.held;
        count = ap suc rest.count;
        each = (holds, goes_on, rest.each);
        base = rest.base;
        steps = rest.steps;
        holds = subst (λ (k : ℕ). HoldsSteps k (image (generation_file k)) rest.base rest.steps) (omega arith) rest.holds;
        ends = rest.ends;
        seals = subst (λ (t : Base). IsSealOf t rest.base) (sym along) rest.seals;
        fronts = subst (λ (t : Base). FrontsStand 0 t.outs rest.base.outs image) (sym along) rest.fronts;
        short = rest.short;
        history = steps ++ rest.history;
        splits = ap (λ (h : List Step). steps ++ h) rest.splits ∙ sym (append_assoc steps (joined rest.held) rest.steps);
        legal = legal_on m w steps rest.history (legal_whole m w base steps seals_w (allowed_legal m base steps allowed)) rest.legal;
        small = small_on m w steps rest.history (small_whole m w base steps seals_w (allowed_small m base steps allowed)) rest.small;
        number = rest.number ∙ ap (λ (t : Base). t.steps) (sym (replay-append m w steps rest.history));
      }

  -- ---- a store

  -- a new store's state has nothing sealed
  none_sealed : (base : Base) → IsFirst m base → AllByRecursion IsUnsealed base.outs
  none_sealed base is = subst (λ (b : Base). AllByRecursion IsUnsealed b.outs) (sym is.state) (new_unsealed (filter writes is.bots))

  all_hold : (last : ℕ) (base : Base) (steps : List Step) → IsRight m image 0 None base steps → ComeTo m image last 1 (Some (replay m base steps)) (verdict.Legal n) → HoldOn m image 0 last base base n
  all_hold last base steps right later =
      let unsealed = none_sealed base right.follows in
      hold_on last 0 base base base steps unsealed (seals_self base) (seals_self base) (new_fronts 0 base.outs base.outs image unsealed) right.holds right.sound right.allowed later

  legal_by : (is : IsAudited m image (verdict.Legal n)) (base : Base) → IsFirst m base → HoldOn m image 0 is.generation base base n → IsLegalStore m image n
  legal_by is base begins found = record {
    first = base;
    is_first = begins;
    history = found.history;
    stands = record {
      generation = is.generation;
      base = found.base;
      past = joined found.held;
      steps = found.steps;
      splits = found.splits;
      stored = record { named = is.named; holds = subst (λ (k : ℕ). HoldsSteps k (image (generation_file k)) found.base found.steps) (omega arith) found.holds };
      seals = found.seals;
      fronts = found.fronts;
      short = found.short;
      unsealed = none_sealed base begins;
      below = record { held = found.held; count = found.count; each = found.each; joins = refl; ends = found.ends };
    };
    legal = found.legal;
    small = found.small;
    count = omega (arith, found.number, replay_steps m base found.history, ap (λ (t : Base). t.steps) begins.state);
  }

  legal_from : (is : IsAudited m image (verdict.Legal n)) → ComeTo m image (suc is.generation) 0 None (verdict.Legal n) → IsLegalStore m image n
  legal_from is (inl wrong) = absurd (none_wrong m image 0 None n wrong)
  legal_from is (inr (base, steps, right, later)) = legal_by is base right.follows (all_hold is.generation base steps right later)

pub legal_stands : (m : Meaning) (image : Image) (n : ℕ) → IsAudited m image (verdict.Legal n) → IsLegalStore m image n
legal_stands m image n is = legal_from m image n is is.comes
