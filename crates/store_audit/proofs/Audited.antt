-- The verdict on files that stand for a legal history.
use Rattle.std.proofs.Common.{◌≡◌, ◌≤◌, ◌+◌, inl, inr, ℕ, suc, true, List, [], ◌∷◌, ◌++◌, length, map, filter, Some, None, refl, sym, ap, subst, ◌∙◌, arith, append_assoc, length-append}
use Rattle.std.specs.List.{AllByRecursion}
use Rattle.std.proofs.lemmas.List.{append-nil}
use Rattle.edge_traits.specs.Disk.{Image}
use Rattle.out_files.specs.Output.{lines_text}
use Rattle.step_code.specs.declared.base.Base.{Base}
use Rattle.step_code.specs.declared.output.Output.{Output}
use Rattle.step_code.specs.declared.rules.Facts.{Facts}
use Rattle.step_code.specs.declared.step.Step.{Step}
use Rattle.step_code.specs.After.{after}
use Rattle.step_code.specs.Code.{code_of_base, first_format}
use Rattle.step_code.specs.Content.{May, MayReplay}
use Rattle.step_code.specs.History.{first, replay, Legal}
use Rattle.step_code.specs.Rules.{writes, Meaning}
use Rattle.step_code.specs.Sound.{longest_base, IsSoundState}
use Rattle.step_code.specs.Spent.{NothingIsSpent}
use Rattle.step_code.specs.State.{new_out}
use Rattle.store_image.proofs.Histories.{legal_sealed, seals, seals_on, seals_self}
use Rattle.store_image.proofs.Sounds.{legal_split, replayable, small_split, sound_state}
use Rattle.store_image.proofs.Unsealed.{new_unsealed, unsealed_replay}
use Rattle.store_image.specs.Files.{generation_file}
use Rattle.store_image.specs.Opens.{AreAlong, AreReplayable}
use Rattle.store_image.specs.Stands.{behind, joined, origin_of, AreArchived, AreSealedFrom, FrontsStand, IsSealedFrom, IsSealOf, IsUnsealed, Stands}
use Rattle.store_image.specs.Stored.{HoldsSteps}
use Rattle.store_image.proofs.Standing.{replay_steps, replay-append}
use Rattle.store_audit.specs.Audit.{AreShort, ComeTo, IsAllowed, IsAudited, IsFirst, IsLegalStore, IsRight}
use Rattle.store_audit.specs.declared.verdict.Verdict.TheVariants as verdict
use Rattle.store_audit.proofs.Fronts.{fronts_earlier, fronts_less, longer_behind}
use Rattle.store_audit.proofs.Legal.{none_wrong}

-- steps that can be replayed, and that the rules allow
allowed_by : (m : Meaning) (s : Base) (steps : List Step) → AreReplayable m s steps → Legal m s steps → AreAlong m (IsAllowed m) s steps
allowed_by m s [] along legal = tt
allowed_by m s (step ∷ steps) along legal = ((along.0, legal.0), allowed_by m (after m s step) steps along.1 legal.1)

-- ---- outputs without lines

both_empty : (front more : List (List ℕ)) → [] ≡ front ++ more → (front ≡ []) × (more ≡ [])
both_empty [] more none = (refl, sym none)
both_empty (x ∷ front) more none = absurd (omega (arith, ap length none))

one_new : (f : Facts) (o : Output) → IsSealedFrom (new_out f) o → o ≡ new_out f
one_new f o seal =
    let none = both_empty seal.front o.lines seal.lines in
    let bytes : o.sealed_bytes ≡ 0 = omega (arith, seal.bytes, ap (λ (ls : List (List ℕ)). length (lines_text ls)) none.0) in
    let count : o.sealed_lines ≡ 0 = omega (arith, seal.count, ap (λ (ls : List (List ℕ)). length ls) none.0) in
    λ i. record { bot = seal.bot i; sealed_bytes = bytes i; sealed_lines = count i; lines = none.1 i }

-- none of them can be sealed
all_new : (bots : List Facts) (os : List Output) → AreSealedFrom (map new_out bots) os → os ≡ map new_out bots
all_new [] os none = none
all_new (f ∷ bots) [] bad = absurd bad
all_new (f ∷ bots) (o ∷ os) seal =
    let one = one_new f o seal.0 in
    let more = all_new bots os seal.1 in
    λ i. one i ∷ more i

module _ (m : Meaning)
    (leave_sound : (bots : List Facts) (bundle : List ℕ) (steps : List Step) → m.facts bundle ≡ Some bots → Legal m (first bots bundle) steps → NothingIsSpent m (first bots bundle) steps → IsSoundState m (replay m (first bots bundle) steps))
    (may_replay : (bots : List Facts) (s : Base) (step : Step) → m.facts s.bundle ≡ Some bots → May m s step → MayReplay m s step) where
  module _ (bots : List Facts) (bundle : List ℕ) (loads : m.facts bundle ≡ Some bots) (image : Image) where
    abbrev start : Base
    start = first bots bundle

    none_sealed : (done : List Step) → AllByRecursion IsUnsealed (replay m start done).outs
    none_sealed done = unsealed_replay m start done (new_unsealed (filter writes bots))

    -- a generation behind a state, whose steps are some of a legal history
    right_by : (g : ℕ) (done more : List Step) (s base : Base) → Legal m start (done ++ more) → NothingIsSpent m start (done ++ more) → IsSealOf (replay m start done) s → IsSealOf s base
        → HoldsSteps g (image (generation_file g)) base more → length (code_of_base first_format base) ≤ longest_base → FrontsStand 0 (replay m start done).outs base.outs image
        → IsRight m image g (Some s) base more × FrontsStand 0 (replay m start done).outs s.outs image
    right_by g done more s base legal small seal goes_on holds short fronts =
        let whole = replay m start done in
        let legals = legal_split m start done more legal in
        let smalls = small_split m start done more small in
        let both : IsSealOf whole base = seals_on whole s base seal goes_on in
        let less = fronts_less 0 whole.outs s.outs base.outs image (none_sealed done) seal.outs goes_on.outs fronts in (
          record {
            holds = holds;
            sound = record { state = sound_state m bots bundle loads leave_sound may_replay done base both legals.0 smalls.0; short = short };
            follows = record { seals = goes_on; sealed = less.1 };
            allowed = allowed_by m base more (replayable m bots bundle loads leave_sound may_replay done more base both legal small) (legal_sealed m whole base more both legals.1);
          },
          less.0,
        )

    module _ (n last : ℕ) (base : Base) (steps history : List Step) (legal : Legal m start history) (small : NothingIsSpent m start history) (holds : HoldsSteps last (image (generation_file last)) base steps)
        (short : length (code_of_base first_format base) ≤ longest_base) (number : n ≡ (replay m base steps).steps) where
      -- a front of the history
      front_legal : (front rest : List Step) → history ≡ front ++ rest → Legal m start front × NothingIsSpent m start front
      front_legal front rest splits =
          ((legal_split m start front rest (subst (λ (h : List Step). Legal m start h) splits legal)).0, (small_split m start front rest (subst (λ (h : List Step). NothingIsSpent m start h) splits small)).0)

      -- generations behind a state, and the last one
      come_on : (held : List (Base × List Step)) (g : ℕ) (done : List Step) (s : Base) → last ≡ g + length held → history ≡ done ++ (joined held ++ steps) → IsSealOf (replay m start done) s → AreArchived m image g s held → AreShort held
          → IsSealOf (behind m s held) base → FrontsStand 0 (replay m start (done ++ joined held)).outs base.outs image
          → ComeTo m image (suc (length held)) g (Some s) (verdict.Legal n) × FrontsStand 0 (replay m start done).outs s.outs image
      come_on [] g done s place splits seal each shorts ends fronts =
          let here : HoldsSteps g (image (generation_file g)) base steps = subst (λ (k : ℕ). HoldsSteps k (image (generation_file k)) base steps) (omega (arith, place)) holds in
          let front = front_legal (done ++ steps) [] (splits ∙ sym (append-nil (done ++ steps))) in
          let right = right_by g done steps s base front.0 front.1 seal ends here short (subst (λ (d : List Step). FrontsStand 0 (replay m start d).outs base.outs image) (append-nil done) fronts) in
          (inr (base, steps, right.0, ap verdict.Legal number), right.1)
      come_on (x ∷ held) g done s place splits seal each shorts ends fronts =
          let whole = replay m start done in
          let next = replay m x.0 x.1 in
          let both : IsSealOf whole x.0 = seals_on whole s x.0 seal each.1 in
          let along : replay m start (done ++ x.1) ≡ replay m whole x.1 = replay-append m start done x.1 in
          let splits_on : history ≡ (done ++ x.1) ++ (joined held ++ steps) = splits ∙ ap (λ h. done ++ h) (append_assoc x.1 (joined held) steps) ∙ sym (append_assoc done x.1 (joined held ++ steps)) in
          let front = front_legal (done ++ x.1) (joined held ++ steps) splits_on in
          let later = come_on held (suc g) (done ++ x.1) next (omega (arith, place)) splits_on (subst (λ (w : Base). IsSealOf w next) (sym along) (seals m whole x.0 x.1 both)) each.2 shorts.1 ends
          (subst (λ (d : List Step). FrontsStand 0 (replay m start d).outs base.outs image) (sym (append_assoc done x.1 (joined held))) fronts) in
          let before = fronts_earlier 0 whole.outs x.0.outs (replay m whole x.1).outs next.outs image (none_sealed done) both.outs (longer_behind m whole x.1) (longer_behind m x.0 x.1)
          (subst (λ (w : Base). FrontsStand 0 w.outs next.outs image) along later.1) in
          let right = right_by g done x.1 s x.0 front.0 front.1 seal each.1 each.0 shorts.0 before in
          (inr (x.0, x.1, right.0, later.0), right.1)

    -- ---- a store

    -- the first generation begins with the state itself
    is_start : (base : Base) → IsSealOf start base → IsFirst m base
    is_start base seal =
        let outs : base.outs ≡ start.outs = all_new (filter writes bots) base.outs seal.outs in
        let same : base ≡ start = seal.same ∙ ap (λ (os : List Output). record start { outs = os }) outs in
        subst (λ (b : Base). IsFirst m b) (sym same) (record { bots = bots; loads = loads; state = refl })

    from_start : (left n : ℕ) → ComeTo m image (suc left) 0 (Some start) (verdict.Legal n) → ComeTo m image (suc left) 0 None (verdict.Legal n)
    from_start left n (inl wrong) = absurd (none_wrong m image 0 (Some start) n wrong)
    from_start left n (inr (base, steps, right, later)) =
        inr (base, steps, record { holds = right.holds; sound = right.sound; follows = is_start base right.follows.seals; allowed = right.allowed }, later)

    audited_by : (n : ℕ) (history : List Step) → n ≡ length history → (stands : Stands m (origin_of start true) image history) → Legal m start history → NothingIsSpent m start history → AreShort stands.below.held
        → IsAudited m image (verdict.Legal n)
    audited_by n history counted stands legal small shorts =
        let is = stands.below in
        let base = stands.base in
        let steps = stands.steps in
        let splits : history ≡ joined is.held ++ steps = stands.splits ∙ ap (λ ss. ss ++ steps) is.joins in
        let number : n ≡ (replay m base steps).steps = omega (arith, counted, ap length stands.splits, length-append stands.past steps, replay_steps m base steps, ap (λ (b : Base). b.steps) stands.seals.same, replay_steps m start stands.past) in
        let all = come_on n stands.generation base steps history legal small stands.stored.holds stands.short number is.held 0 [] start (omega (arith, is.count)) splits (seals_self start) is.each shorts is.ends
        (subst (λ (d : List Step). FrontsStand 0 (replay m start d).outs base.outs image) is.joins stands.fronts) in
        record {
          generation = stands.generation;
          named = stands.stored.named;
          comes = subst (λ (g : ℕ). ComeTo m image (suc g) 0 None (verdict.Legal n)) is.count (from_start (length is.held) n all.0);
        }

  pub stands_legal : (image : Image) (n : ℕ) (store : IsLegalStore m image n) → AreShort store.stands.below.held → IsAudited m image (verdict.Legal n)
  stands_legal image n store shorts =
      let is = store.is_first in
      subst (λ (f : Base). (stands : Stands m (origin_of f true) image store.history) → Legal m f store.history → NothingIsSpent m f store.history → AreShort stands.below.held → IsAudited m image (verdict.Legal n)) (sym is.state)
      (audited_by is.bots store.first.bundle is.loads image n store.history store.count) store.stands store.legal store.small shorts
