-- States of which more is sealed than of one that a legal history leaves: a store may hold them, and the same steps can be replayed there.
use Rattle.std.proofs.Common.{◌≡◌, ◌≤◌, ◌+◌, ℕ, false, List, [], ◌∷◌, ◌++◌, length, map, filter, flat_map, min, Some, sym, ap, subst, ◌∙◌, arith, append_assoc}
use Rattle.std.specs.List.{AllByRecursion, IsDistinct, sum_by}
use Rattle.std.specs.Str.{bytes_eq}
use Rattle.std.proofs.lemmas.Bool.{ltb-false}
use Rattle.std.proofs.lemmas.List.Sums.{sum_by-append, sum_by-cons}
use Rattle.base_types.specs.Lists.{IsIn}
use Rattle.base_types.specs.Number.{last_u64}
use Rattle.base_types.proofs.Everywhere.{all-append}
use Rattle.step_code.specs.declared.base.Base.{Base}
use Rattle.step_code.specs.declared.output.Output.{Output}
use Rattle.step_code.specs.declared.rules.Facts.{Facts}
use Rattle.step_code.specs.declared.step.Step.{Step}
use Rattle.step_code.specs.After.{after}
use Rattle.step_code.specs.History.{first, replay, Legal}
use Rattle.step_code.specs.Places.{standing}
use Rattle.step_code.specs.Content.{May, MayReplay}
use Rattle.step_code.specs.Rules.{writes, Meaning}
use Rattle.step_code.specs.Sound.{last_number, numbers_of, IsSoundState}
use Rattle.step_code.specs.Spent.{is_past, last_given, numbers_brought, out_length, NothingIsSpent, StaysSmall}
use Rattle.step_code.specs.State.{new_out}
use Rattle.step_code.proofs.Lists.{all_fail}
use Rattle.store_image.proofs.Histories.{same_spent, same_steps, seal_kept}
use Rattle.store_image.proofs.Unsealed.{new_unsealed, unsealed_replay}
use Rattle.store_image.proofs.Sealed.{text_length}
use Rattle.store_image.specs.Opens.{AreReplayable}
use Rattle.store_image.specs.Stands.{AreSealedFrom, IsSealOf, IsUnsealed}
use Rattle.store_image.proofs.Standing.{replay-append}

-- ---- what sealing leaves of outputs

same_bots : (ws os : List Output) → AreSealedFrom ws os → map (λ (o : Output). o.bot) ws ≡ map (λ (o : Output). o.bot) os
same_bots [] os none = ap (map (λ (o : Output). o.bot)) (sym none)
same_bots (w ∷ ws) [] bad = absurd bad
same_bots (w ∷ ws) (o ∷ os) seal = λ i. sym seal.0.bot i ∷ same_bots ws os seal.1 i

-- ---- numbers that steps bring

stays_small : (m : Meaning) (whole sealed : Base) (step : Step) → IsSealOf whole sealed → StaysSmall m whole step → StaysSmall m sealed step
stays_small m whole sealed step seal small = sym (same_spent m whole sealed step seal) ∙ small

small_lengths : (outs : List Output) → AllByRecursion (λ n. is_past n ≡ false) (map (λ n. min n last_u64) (map out_length outs)) → AllByRecursion (λ o. out_length o ≤ last_given) outs
small_lengths [] all = tt
small_lengths (o ∷ outs) all = (omega (arith, ltb-false last_given (min (out_length o) last_u64) all.0), small_lengths outs all.1)

lengths_behind : (m : Meaning) (s : Base) (steps : List Step) → NothingIsSpent m s steps → AllByRecursion (λ o. out_length o ≤ last_given) s.outs → AllByRecursion (λ o. out_length o ≤ last_given) (replay m s steps).outs
lengths_behind m s [] small all = all
lengths_behind m s (step ∷ steps) small all =
    let brought = all_fail is_past (map (λ n. min n last_u64) (numbers_brought (after m s step))) small.0 in
    lengths_behind m (after m s step) steps small.1 (small_lengths (after m s step).outs brought.1.1.1.1.1)

-- ---- a sound state of which more is sealed

new_lengths : (bots : List Facts) → AllByRecursion (λ o. out_length o ≤ last_given) (map new_out bots)
new_lengths [] = tt
new_lengths (f ∷ bots) = (omega arith, new_lengths bots)

abbrev IsLow : ℕ → Type 0
IsLow n = n ≤ last_number

few_lines : (lines : List (List ℕ)) → length lines ≤ sum_by (λ line. length line + 1) lines
few_lines [] = omega arith
few_lines (line ∷ lines) = omega (arith, few_lines lines, sum_by-cons (λ (l : List ℕ). length l + 1) line lines)

low_sealed : (ws os : List Output) → AreSealedFrom ws os → AllByRecursion IsUnsealed ws → AllByRecursion (λ o. out_length o ≤ last_given) ws → AllByRecursion IsLow (flat_map (λ (o : Output). o.sealed_bytes ∷ o.sealed_lines ∷ []) os)
low_sealed [] os none unsealed small = subst (λ (outs : List Output). AllByRecursion IsLow (flat_map (λ (o : Output). o.sealed_bytes ∷ o.sealed_lines ∷ []) outs)) (sym none) tt
low_sealed (w ∷ ws) [] bad unsealed small = absurd bad
low_sealed (w ∷ ws) (o ∷ os) seal unsealed small =
    let one = seal.0 in
    let lines = ap (λ (ls : List (List ℕ)). sum_by (λ line. length line + 1) ls) one.lines ∙ sum_by-append (λ (line : List ℕ). length line + 1) one.front o.lines in
    let bytes : IsLow o.sealed_bytes = omega (arith, one.bytes, unsealed.0.0, text_length one.front, lines, small.0) in
    let count : IsLow o.sealed_lines = omega (arith, one.count, unsealed.0.1, few_lines one.front, lines, small.0) in
    (bytes, (count, low_sealed ws os seal.1 unsealed.1 small.1))

all_front : (xs ys : List ℕ) → AllByRecursion IsLow (xs ++ ys) → AllByRecursion IsLow xs
all_front [] ys all = tt
all_front (x ∷ xs) ys all = (all.0, all_front xs ys all.1)

all_back : (xs ys : List ℕ) → AllByRecursion IsLow (xs ++ ys) → AllByRecursion IsLow ys
all_back [] ys all = all
all_back (x ∷ xs) ys all = all_back xs ys all.1

sealed_numbers : (whole : Base) (outs : List Output) → AllByRecursion IsLow (numbers_of whole) → AllByRecursion IsLow (flat_map (λ (o : Output). o.sealed_bytes ∷ o.sealed_lines ∷ []) outs) → AllByRecursion IsLow (numbers_of (record whole { outs = outs }))
sealed_numbers whole outs all low =
    let heads : List ℕ = whole.steps ∷ whole.next_message ∷ whole.next_dump ∷ whole.discarded ∷ whole.latest.0 ∷ whole.bundle_no ∷ standing whole in
    let before : List ℕ = heads ++ map (λ h. h.since.0) whole.hands ++ flat_map (λ c. map (λ mark. mark.moment.0) c.marks) whole.caches ++ flat_map (λ d. d.no ∷ d.moment.0 ∷ []) whole.dumps in
    let own : List ℕ = flat_map (λ (o : Output). o.sealed_bytes ∷ o.sealed_lines ∷ []) whole.outs in
    let sealed : List ℕ = flat_map (λ (o : Output). o.sealed_bytes ∷ o.sealed_lines ∷ []) outs in
    let feeds : List ℕ = flat_map (λ f. f.round ∷ f.position ∷ []) whole.feeds in
    all-append IsLow (before ++ sealed) feeds (all-append IsLow before sealed (all_front before own (all_front (before ++ own) feeds all)) low) (all_back (before ++ own) feeds all)

sound_sealed : (m : Meaning) (whole : Base) (outs : List Output) → IsSoundState m whole → AreSealedFrom whole.outs outs → AllByRecursion IsLow (flat_map (λ (o : Output). o.sealed_bytes ∷ o.sealed_lines ∷ []) outs)
    → IsSoundState m (record whole { outs = outs })
sound_sealed m whole outs is seal low = record {
  bots = is.bots;
  loads = is.loads;
  queues = is.queues;
  caches = is.caches;
  outs = subst (λ (names : List (List ℕ)). IsDistinct bytes_eq names) (same_bots whole.outs outs seal) is.outs;
  feeds = is.feeds;
  halted = is.halted;
  hands = is.hands;
  each_hand = is.each_hand;
  each_cache = is.each_cache;
  next_message = is.next_message;
  next_dump = is.next_dump;
  messages = is.messages;
  numbered = is.numbered;
  dumps = is.dumps;
  each_dump = is.each_dump;
  latest = is.latest;
  collectors = is.collectors;
  outputs = subst (λ (names : List (List ℕ)). AllByRecursion (λ (f : Facts). IsIn f.bot names) (filter writes is.bots)) (same_bots whole.outs outs seal) is.outputs;
  numbers = sealed_numbers whole outs is.numbers low;
}

-- ---- histories of two parts

pub legal_split : (m : Meaning) (s : Base) (front more : List Step) → Legal m s (front ++ more) → Legal m s front × Legal m (replay m s front) more
legal_split m s [] more legal = (tt, legal)
legal_split m s (step ∷ front) more legal =
    let rest = legal_split m (after m s step) front more legal.1 in
    ((legal.0, rest.0), rest.1)

pub small_split : (m : Meaning) (s : Base) (front more : List Step) → NothingIsSpent m s (front ++ more) → NothingIsSpent m s front × NothingIsSpent m (replay m s front) more
small_split m s [] more small = (tt, small)
small_split m s (step ∷ front) more small =
    let rest = small_split m (after m s step) front more small.1 in
    ((small.0, rest.0), rest.1)

-- ---- behind a legal history of a new store

module _ (m : Meaning) (bots : List Facts) (bundle : List ℕ) (loads : m.facts bundle ≡ Some bots)
    (leave_sound : (bots : List Facts) (bundle : List ℕ) (steps : List Step) → m.facts bundle ≡ Some bots → Legal m (first bots bundle) steps → NothingIsSpent m (first bots bundle) steps → IsSoundState m (replay m (first bots bundle) steps))
    (may_replay : (bots : List Facts) (s : Base) (step : Step) → m.facts s.bundle ≡ Some bots → May m s step → MayReplay m s step) where
  abbrev start : Base
  start = first bots bundle

  pub sound_state : (past : List Step) (base : Base) → IsSealOf (replay m start past) base → Legal m start past → NothingIsSpent m start past → IsSoundState m base
  sound_state past base seals legal small =
      let whole = replay m start past in
      let low = low_sealed whole.outs base.outs seals.outs (unsealed_replay m start past (new_unsealed (filter writes bots))) (lengths_behind m start past small (new_lengths (filter writes bots))) in
      subst (λ (b : Base). IsSoundState m b) (sym seals.same) (sound_sealed m whole base.outs (leave_sound bots bundle past loads legal small) seals.outs low)

  -- steps that may be taken behind it can be replayed
  pub replayable : (done steps : List Step) (s : Base) → IsSealOf (replay m start done) s → Legal m start (done ++ steps) → NothingIsSpent m start (done ++ steps) → AreReplayable m s steps
  replayable done [] s seal legal small = tt
  replayable done (step ∷ steps) s seal legal small =
      let whole = replay m start done in
      let legals = legal_split m start done (step ∷ steps) legal in
      let smalls = small_split m start done (step ∷ steps) small in
      let state = leave_sound bots bundle done loads legals.0 smalls.0 in
      let here : m.facts s.bundle ≡ Some state.bots = ap (λ (b : Base). m.facts b.bundle) seal.same ∙ state.loads in
      let same : done ++ step ∷ steps ≡ (done ++ step ∷ []) ++ steps = sym (append_assoc done (step ∷ []) steps) in (
        (may_replay state.bots s step here ((same_steps m whole s step seal).0 legals.1.0), stays_small m whole s step seal smalls.1.0),
        replayable (done ++ step ∷ []) steps (after m s step) (subst (λ (w : Base). IsSealOf w (after m s step)) (sym (replay-append m start done (step ∷ []))) (seal_kept m whole s step seal))
            (subst (λ (h : List Step). Legal m start h) same legal) (subst (λ (h : List Step). NothingIsSpent m start h) same small),
      )
