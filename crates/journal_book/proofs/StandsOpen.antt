-- What stands for a legal history of a new store opens.
use Rattle.std.proofs.Common.{◌≡◌, ◌+◌, ℕ, Bool, List, ◌++◌, take, drop, Some, sym, ap, subst, ◌∙◌, append_assoc}
use Rattle.std.proofs.lemmas.List.{take-append-drop}
use Rattle.edge_traits.specs.Disk.{Image}
use Rattle.step_code.specs.declared.base.Base.{Base}
use Rattle.step_code.specs.declared.rules.Facts.{Facts}
use Rattle.step_code.specs.declared.step.Step.{Step}
use Rattle.step_code.specs.History.{first, replay, Legal}
use Rattle.step_code.specs.Content.{May, MayReplay}
use Rattle.step_code.specs.Rules.{Meaning}
use Rattle.step_code.specs.Sound.{IsSoundState}
use Rattle.step_code.specs.Spent.{NothingIsSpent}
use Rattle.store_image.proofs.Renewed.{long_whole}
use Rattle.store_image.proofs.Sounds.{legal_split, replayable, small_split, sound_state}
use Rattle.store_image.specs.Damage.{IsDamagedStore}
use Rattle.store_image.specs.Opens.{Opens}
use Rattle.store_image.specs.Stands.{origin_of, Stands, StandsFor}
use Rattle.store_image.proofs.Damaged.{opens_whole}
use Rattle.journal_book.specs.Laws.{WhatStandsOpens}
use Rattle.journal_book.proofs.Long.{long_behind}

module _ (m : Meaning) (bots : List Facts) (bundle : List ℕ) (loads : m.facts bundle ≡ Some bots)
    (leave_sound : (bots : List Facts) (bundle : List ℕ) (steps : List Step) → m.facts bundle ≡ Some bots → Legal m (first bots bundle) steps → NothingIsSpent m (first bots bundle) steps → IsSoundState m (replay m (first bots bundle) steps))
    (may_replay : (bots : List Facts) (s : Base) (step : Step) → m.facts s.bundle ≡ Some bots → May m s step → MayReplay m s step) where
  abbrev start : Base
  start = first bots bundle

  pub opens_as_it_stands : (whole : Bool) (image : Image) (history : List Step) → Legal m start history → NothingIsSpent m start history → (stands : Stands m (origin_of start whole) image history) → Opens m image stands.generation stands.base stands.steps
  opens_as_it_stands looked image history legal small stands =
      let whole = replay m start stands.past in
      let legal_here = subst (λ (h : List Step). Legal m start h) stands.splits legal in
      let small_here = subst (λ (h : List Step). NothingIsSpent m start h) stands.splits small in
      let legals = legal_split m start stands.past stands.steps legal_here in
      let smalls = small_split m start stands.past stands.steps small_here in
      record {
        stored = stands.stored;
        sound = record { state = sound_state m bots bundle loads leave_sound may_replay stands.past stands.base stands.seals legals.0 smalls.0; short = stands.short };
        replays = replayable m bots bundle loads leave_sound may_replay stands.past stands.steps stands.base stands.seals legal_here small_here;
        long = long_behind m stands.base stands.steps image (long_whole 0 whole.outs stands.base.outs image stands.seals.outs stands.fronts);
      }

-- so files that stand for a front of such a history aren't damaged
pub stands_undamaged : (m : Meaning) → WhatStandsOpens m → (bots : List Facts) (bundle : List ℕ) (looked : Bool) (steps more : List Step) (image : Image) → m.facts bundle ≡ Some bots → Legal m (first bots bundle) (steps ++ more)
    → NothingIsSpent m (first bots bundle) (steps ++ more) → StandsFor m (origin_of (first bots bundle) looked) steps more image → (file at : ℕ) → IsDamagedStore m image file at → ⊥
stands_undamaged m opens bots bundle looked steps more image loads legal small is file at damaged =
    let start = first bots bundle in
    let read = steps ++ take is.count more in
    let whole : steps ++ more ≡ read ++ drop is.count more = ap (λ (ss : List Step). steps ++ ss) (sym (take-append-drop is.count more)) ∙ sym (append_assoc steps (take is.count more) (drop is.count more)) in
    let legals = legal_split m start read (drop is.count more) (subst (λ (h : List Step). Legal m start h) whole legal) in
    let smalls = small_split m start read (drop is.count more) (subst (λ (h : List Step). NothingIsSpent m start h) whole small) in
    opens_whole m image is.stands.generation is.stands.base is.stands.steps file at (opens bots bundle looked image read loads legals.0 smalls.0 is.stands) damaged
