-- What a worker knows, behind more that was done to the book.
use Rattle.std.proofs.Common.{◌≡◌, ◌≢◌, ◌++◌, List, [], ℕ, Option, Some, None, IfSome, refl, sym, ap, ◌∙◌}
use Rattle.std.proofs.lemmas.List.{append-nil}
use mathlib.Core.List.{IsPrefix}
use Rattle.collector_feeds.specs.declared.found.Found.TheVariants as found
use Rattle.step_code.specs.declared.base.Base.{Base}
use Rattle.step_code.specs.declared.step.Step.{Step}
use Rattle.step_code.specs.Rules.{Task}
use Rattle.tests_rules.specs.Tiny.{meaning}
use Rattle.locked_book.specs.Entries.{entries_of}
use Rattle.locked_book.specs.Locked.{LockedView}
use Rattle.locked_book.specs.declared.entry.EndMark.{EndMark}
use Rattle.worker_turns.specs.Collecting.{IsPlace, IsSight, IsTrueOf}
use Rattle.worker_turns.specs.Holds.{Adds, IsDone, IsReadyFor}
use Rattle.worker_turns.specs.declared.job.Done.{Done}
use Rattle.worker_turns.specs.declared.job.Ready.{Ready}
use Rattle.worker_turns.specs.declared.place.Place.{Place}
use Rattle.worker_turns.specs.declared.place.Sight.{Sight}
use Rattle.worker_turns.proofs.Seen.{done_seen, ready_seen, sight_seen}

module _ {D R : Type 0} where
  pub if_ready : (v later : LockedView D R) (bot : List ℕ) (o : Option (Ready Task)) → IsPrefix (entries_of meaning v) (entries_of meaning later) → IfSome o (IsReadyFor meaning (λ (t : Task). t) v bot) → IfSome o (IsReadyFor meaning (λ (t : Task). t) later bot)
  if_ready v later bot None prefix is = tt
  if_ready v later bot (Some r) prefix is = ready_seen meaning (λ (t : Task). t) v later bot r prefix is

  pub if_done : (v later : LockedView D R) (bot : List ℕ) (o : Option Done) → IsPrefix (entries_of meaning v) (entries_of meaning later) → IfSome o (IsDone meaning v bot) → IfSome o (IsDone meaning later bot)
  if_done v later bot None prefix is = tt
  if_done v later bot (Some d) prefix is = done_seen meaning v later bot d prefix is

  pub if_sight : (v later : LockedView D R) (bot file : List ℕ) (o : Option Sight) → IsPrefix (entries_of meaning v) (entries_of meaning later) → IfSome o (IsSight meaning v bot file) → IfSome o (IsSight meaning later bot file)
  if_sight v later bot file None prefix is = tt
  if_sight v later bot file (Some s) prefix is = sight_seen meaning v later bot file s prefix is

  pub if_place : (v later : LockedView D R) (bot file : List ℕ) (o : Option Place) → IsPrefix (entries_of meaning v) (entries_of meaning later) → IfSome o (IsPlace meaning v bot file) → IfSome o (IsPlace meaning later bot file)
  if_place v later bot file None prefix is = tt
  if_place v later bot file (Some p) prefix is = (sight_seen meaning v later bot file (record { place = p; found = found.End }) prefix (record { place = is; ahead = tt; there = tt })).place

  -- a hold adds to the list, or leaves it
  pub grows : {Is : Base → Step → Type 0} {X : Type 0} (old new : LockedView D R) (noted notes : List ℕ) → (old.mark ≢ None → (new ≡ old) × X) → (old.mark ≡ None → Adds meaning Is old new noted notes) → IsPrefix (entries_of meaning old) (entries_of meaning new)
  grows old new noted notes still adds = go old.mark refl
    where
      go : (mark : Option EndMark) → old.mark ≡ mark → IsPrefix (entries_of meaning old) (entries_of meaning new)
      go None is = let more = adds is in (_, sym more.entries)
      go (Some mark) is = let same = (still (λ none. cc (is, none))).0 in ([], append-nil (entries_of meaning old) ∙ ap (entries_of meaning) (sym same))

-- where a feed tells nothing, all that is found is true of it
pub none_told : (o : Option Sight) → IfSome o (IsTrueOf None)
none_told None = tt
none_told (Some s) = tt
