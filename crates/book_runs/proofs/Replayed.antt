-- The state in which a store opens, and the history that its files stand for.
use Rattle.std.proofs.Common.{◌≡◌, ℕ, Bool, true, false, List, sym, ap, ap₂, subst, ◌∙◌}
use Rattle.edge_traits.specs.Disk.{Image}
use Rattle.step_code.specs.declared.base.Base.{Base}
use Rattle.step_code.specs.declared.step.Step.{Step}
use Rattle.step_code.specs.History.{replay}
use Rattle.step_code.specs.Rules.{Meaning}
use Rattle.store_image.specs.History.{HasHistory}
use Rattle.store_image.specs.Opens.{Opens}
use Rattle.store_image.specs.Stands.{origin_of, IsSealOf, Origin, Stands, WhereWhole}
use Rattle.store_image.proofs.Standing.{replay-append}
use Rattle.store_image.proofs.Stored.{stored_is_one}
use Rattle.store_image.proofs.Whole.{whole_history}
use Rattle.store_image.proofs.Histories.{seals}

module _ (m : Meaning) (files : Image) (history : List Step) (generation : ℕ) (base : Base) (steps : List Step) (opens : Opens m files generation base steps) where
  -- it is the replay of that history, with more lines sealed
  pub replayed : (origin : Origin) → Stands m origin files history → IsSealOf (replay m origin.first history) (replay m base steps)
  replayed origin stands =
      let one = stored_is_one files stands.generation generation stands.base base stands.steps steps stands.stored opens.stored in
      let whole : replay m (replay m origin.first stands.past) stands.steps ≡ replay m origin.first history =
      sym (replay-append m origin.first stands.past stands.steps) ∙ ap (replay m origin.first) (sym stands.splits) in
      subst (λ (s : Base). IsSealOf (replay m origin.first history) s) (ap₂ (replay m) one.1 one.2)
      (subst (λ (s : Base). IsSealOf s (replay m stands.base stands.steps)) whole (seals m (replay m origin.first stands.past) stands.base stands.steps stands.seals))

  pub replayed_whole : (first : Base) (whole : Bool) → Stands m (origin_of first whole) files history → IsSealOf (replay m first history) (replay m base steps) × WhereWhole whole (HasHistory files history)
  replayed_whole first true stands = (replayed (origin_of first true) stands, whole_history m first files history stands)
  replayed_whole first false stands = (replayed (origin_of first false) stands, tt)
