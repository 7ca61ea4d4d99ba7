-- A drain that nothing hinders.
use Rattle.std.proofs.Common.{◌≡◌, ℕ, Bool, true, false, List, [], ◌∷◌, ◌++◌, length, map, Option, Some, None, Result, Ok, Err, refl, ap, arith}
use Rattle.std.specs.List.{AllByRecursion}
use Rattle.edge_traits.specs.Disk.{DiskView, Image, IsImage}
use Rattle.edge_traits.specs.Shelf.{ShelfView}
use Rattle.edge_traits.specs.Sink.{SinkView}
use Rattle.step_code.specs.declared.base.Base.{Base}
use Rattle.step_code.specs.declared.rules.Facts.{Facts}
use Rattle.step_code.specs.declared.step.StepKind.{StepKind}
use Rattle.step_code.specs.History.{first, replay}
use Rattle.step_code.specs.Rules.{Meaning}
use Rattle.store_image.specs.Damage.{IsDamagedStore}
use Rattle.store_image.specs.Files.{root_file}
use Rattle.store_image.specs.Stands.{origin_of}
use Rattle.journal_book.specs.Laws.{WhatStandsOpens}
use Rattle.journal_book.proofs.Recovering.{some_root}
use Rattle.journal_book.proofs.StandsOpen.{stands_undamaged}
use Rattle.store_commands.specs.declared.end.StoreEnd.{StoreEnd}
use Rattle.store_commands.specs.declared.end.StoreEnd.TheVariants as end
use Rattle.drain_turns.specs.Drained.{behind_all}
use Rattle.drain_turns.specs.Laws.{IsFree, IsShown, MayOpen}
use Rattle.drain_turns.specs.Turn.{Outside}
use Rattle.drain_turns.specs.declared.end.TurnsEnd.{TurnsEnd}
use Rattle.drain_turns.specs.declared.end.TurnsEnd.TheVariants as last
use Rattle.drain_turns.proofs.Free.{free_calls_end_idle}
use Rattle.drain_turns.proofs.Opened.{opened_feeds_are_readable}
use Rattle.drain_loop.specs.Calls.{opening_of, reload_of, round_of, rounds_of, with_bundle}
use Rattle.drain_command.specs.Drained.{start, Drained, IsDrainCall, IsToldEnd}
use Rattle.drain_command.specs.Laws.{EndIdly, EndsIdly, IsUnhindered}
use Rattle.drain_command.specs.declared.draining.Asked.{Asked}

-- a drain opens with a start, another bundle and rounds
rounds_open : (bots : List Facts) → AllByRecursion MayOpen (map (λ f. round_of f.bot) bots)
rounds_open [] = tt
rounds_open (f ∷ fs) = (tt, rounds_open fs)

pub opens_so : (m : Meaning) (s : Base) (asked : Asked) → AllByRecursion MayOpen (opening_of m s asked.opening.bundle asked.opening.rounds)
opens_so m s asked = (tt, reloads asked.opening.bundle (rounds_of m (with_bundle m s asked.opening.bundle) asked.opening.rounds) (rounds asked.opening.rounds))
  where
    reloads : (bundle : Option (List ℕ)) (more : List StepKind) → AllByRecursion MayOpen more → AllByRecursion MayOpen (reload_of bundle ++ more)
    reloads None more all = all
    reloads (Some bundle) more all = (tt, all)

    rounds : (asked_rounds : Bool) → AllByRecursion MayOpen (rounds_of m (with_bundle m s asked.opening.bundle) asked_rounds)
    rounds true = rounds_open _
    rounds false = tt

module _ {D : Type 0} (disk : D → DiskView) (o : Outside) (feeds : List (List ℕ × List ℕ)) (files : Image) (asked : Asked) (old new : DiskView)
    (is : IsUnhindered disk o feeds files asked old new) where
  -- wherever it comes to, nothing hinders it
  free : (why : TurnsEnd) (d : Drained disk o files asked old new why) → IsFree o feeds (behind_all o (start o.meaning d.generation d.root d.base d.read asked) d.made)
  free why d = record {
    feeds = opened_feeds_are_readable o (start o.meaning d.generation d.root d.base d.read asked) feeds d.made why is.shelf (opens_so o.meaning (replay o.meaning d.base d.read) asked)
        (is.sound d.generation d.base d.read d.opens.stored) (is.readable d.generation d.base d.read d.opens.stored) d.makes;
    room = is.room why d;
  }

  idle_of : (why : TurnsEnd) → Drained disk o files asked old new why → IsShown why → why ≡ last.Idle
  idle_of why d shown = free_calls_end_idle o (start o.meaning d.generation d.root d.base d.read asked) feeds d.made why is.shelf is.unbound (free why d) shown d.makes

  turns_end : (why : TurnsEnd) → IsToldEnd why → Drained disk o files asked old new why → EndIdly why
  turns_end last.Idle told d = tt
  turns_end (last.Failed name) told d = tt
  turns_end last.Left told d = absurd (cc (idle_of last.Left d tt))
  turns_end (last.Absent name) told d = absurd (cc (idle_of (last.Absent name) d tt))
  turns_end (last.Short have need) told d = absurd (cc (idle_of (last.Short have need) d tt))
  turns_end (last.LongLine bot line) told d = absurd (cc (idle_of (last.LongLine bot line) d tt))
  turns_end (last.LongFeed bot) told d = absurd (cc (idle_of (last.LongFeed bot) d tt))
  turns_end (last.Halted bot) told d = absurd (cc (idle_of (last.Halted bot) d tt))
  turns_end (last.Spent next) told d = absurd (cc (idle_of (last.Spent next) d tt))
  turns_end (last.Full bytes) told d = absurd (cc (idle_of (last.Full bytes) d tt))
  turns_end (last.Damaged file at) told d = absurd (told.2 file at refl)
  turns_end last.Disk told d = absurd (told.0 refl)
  turns_end last.Memory told d = absurd (told.1 refl)

  abbrev begun : Base
  begun = first is.bots is.bundle

  -- the root isn't empty
  has_root : ((image : Image) → old.told ≡ Some image → IsImage old.may_leave image) → files root_file ≡ [] → ⊥
  has_root honest none =
      let some = some_root o.meaning (origin_of begun is.whole) is.steps is.more files (is.stands.each files (honest files is.disk_tells)) in omega (arith, some, ap length none)

  -- the store opens
  undamaged : ((image : Image) → old.told ≡ Some image → IsImage old.may_leave image) → WhatStandsOpens o.meaning → (file at : ℕ) → IsDamagedStore o.meaning files file at → ⊥
  undamaged honest opens file at damaged =
      stands_undamaged o.meaning opens is.bots is.bundle is.whole is.steps is.more files is.loads is.legal is.small (is.stands.each files (honest files is.disk_tells)) file at damaged

pub drains_end_idle : {D : Type 0} (disk : D → DiskView) (old new : DiskView) → ((image : Image) → old.told ≡ Some image → IsImage old.may_leave image)
    → (o : Outside) → WhatStandsOpens o.meaning → (feeds : List (List ℕ × List ℕ)) (files : Image) (asked : Asked) → IsUnhindered disk o feeds files asked old new → (now : ShelfView) (e : Result TurnsEnd StoreEnd) (before after : SinkView)
    → IsDrainCall disk o now files asked old new e before after → EndsIdly e
drains_end_idle disk old new honest o opens feeds files asked is now (Ok why) before after call = turns_end disk o feeds files asked old new is why call.0 call.1
drains_end_idle disk old new honest o opens feeds files asked is now (Err end.Memory) before after call = tt
drains_end_idle disk old new honest o opens feeds files asked is now (Err end.Disk) before after call = tt
drains_end_idle disk old new honest o opens feeds files asked is now (Err end.Sink) before after call = tt
drains_end_idle disk old new honest o opens feeds files asked is now (Err (end.Store have)) before after call = has_root disk o feeds files asked old new is honest call.1
drains_end_idle disk old new honest o opens feeds files asked is now (Err (end.Damaged file at)) before after call = undamaged disk o feeds files asked old new is honest opens file at call.2
drains_end_idle disk old new honest o opens feeds files asked is now (Err end.Done) before after call = absurd call
drains_end_idle disk old new honest o opens feeds files asked is now (Err end.Refused) before after call = absurd call
drains_end_idle disk old new honest o opens feeds files asked is now (Err (end.NoDump n)) before after call = absurd call
drains_end_idle disk old new honest o opens feeds files asked is now (Err (end.Spent next)) before after call = absurd call
drains_end_idle disk old new honest o opens feeds files asked is now (Err (end.Full bytes)) before after call = absurd call
