-- A run that nothing hinders.
use Rattle.std.proofs.Common.{◌≡◌, ◌⊎◌, ◌++◌, inl, inr, ℕ, List, [], ◌∷◌, length, Option, Some, Result, Ok, Err, refl, sym, ap, ◌∙◌, arith}
use Rattle.edge_traits.specs.Disk.{DiskView, Image, IsImage}
use Rattle.edge_traits.specs.Shelf.{ShelfView}
use Rattle.edge_traits.specs.Sink.{SinkView}
use Rattle.step_code.specs.declared.base.Base.{Base}
use Rattle.step_code.specs.declared.rules.Facts.{Facts}
use Rattle.step_code.specs.History.{first, replay}
use Rattle.step_code.specs.Rules.{AreSound}
use Rattle.store_image.specs.Damage.{IsDamagedStore}
use Rattle.store_image.specs.Files.{root_file}
use Rattle.store_image.specs.Stands.{origin_of}
use Rattle.journal_book.specs.Laws.{WhatStandsOpens}
use Rattle.journal_book.proofs.Recovering.{some_root}
use Rattle.journal_book.proofs.StandsOpen.{stands_undamaged}
use Rattle.store_commands.specs.declared.end.StoreEnd.{StoreEnd}
use Rattle.store_commands.specs.declared.end.StoreEnd.TheVariants as end
use Rattle.drain_turns.specs.Laws.{IsShown}
use Rattle.drain_turns.specs.Turn.{Outside}
use Rattle.drain_turns.specs.declared.end.TurnsEnd.{TurnsEnd}
use Rattle.drain_turns.specs.declared.end.TurnsEnd.TheVariants as last
use Rattle.drain_turns.proofs.Free.{free_calls_end_idle}
use Rattle.drain_command.specs.Drained.{start, Called, IsCallBy, IsToldEnd}
use Rattle.drain_command.specs.Laws.{EndIdly, EndsIdly}
use Rattle.drain_command.specs.declared.draining.Asked.{Asked}
use Rattle.drain_command.proofs.Unhindered.{opens_so}
use Rattle.run_command.specs.Laws.{RunsFreely}
use Rattle.live_reload.specs.declared.end.OrdersEnd.{OrdersEnd}
use Rattle.live_reload.specs.declared.order.Order.{Order}
use Rattle.live_reload.specs.declared.order.Order.TheVariants as order
use Rattle.run_command.specs.Runs.{carried_in, left_behind, steps_in, HaveFailed, RunEnds, Runs, RunsSo}
use Rattle.run_command.proofs.Opened.{feeds_early, feeds_end}

module _ {D : Type 0} (disk : D → DiskView) (steps : ℕ) (by : OrdersEnd) (o : Outside) (feeds : List (List ℕ × List ℕ)) (files : Image) (asked : Asked) (old new : DiskView)
    (is : RunsFreely disk steps by o feeds files asked old new) (fine : HaveFailed by → ⊥) (law : (bundle : List ℕ) (bots : List Facts) → o.meaning.facts bundle ≡ Some bots → AreSound bots) where
  no_more : (xs : List Order) (x : Order) → [] ≡ xs ++ x ∷ [] → ⊥
  no_more [] x is = cc is
  no_more (y ∷ xs) x is = cc is

  -- it has nothing left to do
  idle_of : (why : TurnsEnd) → Called disk (RunsSo steps by []) o files asked old new why → IsShown why → why ≡ last.Idle
  idle_of why d shown = by_cause d.makes.1
    where
      by_cause : Runs by [] o (start o.meaning d.generation d.root d.base d.read asked) d.made why → why ≡ last.Idle
      by_cause (inl (none, drains)) =
          free_calls_end_idle o (start o.meaning d.generation d.root d.base d.read asked) feeds d.made why is.shelf is.unbound
          (record {
            feeds = feeds_early o feeds is.shelf law (start o.meaning d.generation d.root d.base d.read asked) (opens_so o.meaning (replay o.meaning d.base d.read) asked) (is.readable d.generation d.base d.read d.opens.stored) d.made why drains;
            room = is.room_early why d drains;
          })
          shown drains
      by_cause (inr worked) = by_end worked.ends
        where
          by_end : RunEnds o worked.here.left worked.here.state (steps_in worked.parts) by [] (carried_in worked.parts) worked.rest why → why ≡ last.Idle
          by_end (inl (rest, none, read, ends)) =
              free_calls_end_idle (record o { shelf = ends.shelf }) ends.here feeds [] why (ends.told ∙ is.shelf)
              (ends.left_is ∙ ap (λ (l : Option ℕ). left_behind l (length (steps_in worked.parts))) (worked.left ∙ ap (λ (l : Option ℕ). left_behind l (length worked.begun)) is.unbound))
              (record {
                feeds = λ opened. feeds_end o feeds is.shelf law (start o.meaning d.generation d.root d.base d.read asked) (opens_so o.meaning (replay o.meaning d.base d.read) asked) (is.readable d.generation d.base d.read d.opens.stored) by d.made why worked (sym none) ends;
                room = is.room why d worked ends;
              })
              shown ends.ends
          by_end (inr (inl (rest, stop, left))) = absurd (no_more (carried_in worked.parts) order.Stop stop)
          by_end (inr (inr (inl (next, given, within)))) = absurd (no_more (carried_in worked.parts) next given)
          by_end (inr (inr (inr (rest, given, left, failed)))) = absurd (fine failed)

  turns_end : (why : TurnsEnd) → IsToldEnd why → Called disk (RunsSo steps by []) o files asked old new why → EndIdly why
  turns_end last.Idle told d = tt
  turns_end (last.Failed name) told d = tt
  turns_end last.Left told d = absurd (cc (idle_of last.Left d tt))
  turns_end (last.Absent name) told d = absurd (cc (idle_of (last.Absent name) d tt))
  turns_end (last.Short have need) told d = absurd (cc (idle_of (last.Short have need) d tt))
  turns_end (last.LongLine bot line) told d = absurd (cc (idle_of (last.LongLine bot line) d tt))
  turns_end (last.LongFeed bot) told d = absurd (cc (idle_of (last.LongFeed bot) d tt))
  turns_end (last.Halted bot) told d = absurd (cc (idle_of (last.Halted bot) d tt))
  turns_end (last.Spent next) told d = absurd (cc (idle_of (last.Spent next) d tt))
  turns_end (last.Full bytes) told d = absurd (cc (idle_of (last.Full bytes) d tt))
  turns_end (last.Damaged file at) told d = absurd (told.2 file at refl)
  turns_end last.Disk told d = absurd (told.0 refl)
  turns_end last.Memory told d = absurd (told.1 refl)

  abbrev begun : Base
  begun = first is.bots is.bundle

  -- the root isn't empty
  has_root : ((image : Image) → old.told ≡ Some image → IsImage old.may_leave image) → files root_file ≡ [] → ⊥
  has_root honest none =
      let some = some_root o.meaning (origin_of begun is.whole) is.steps is.more files (is.stands.each files (honest files is.disk_tells)) in omega (arith, some, ap length none)

  -- the store opens
  undamaged : ((image : Image) → old.told ≡ Some image → IsImage old.may_leave image) → WhatStandsOpens o.meaning → (file at : ℕ) → IsDamagedStore o.meaning files file at → ⊥
  undamaged honest opens file at damaged =
      stands_undamaged o.meaning opens is.bots is.bundle is.whole is.steps is.more files is.loads is.legal is.small (is.stands.each files (honest files is.disk_tells)) file at damaged

pub runs_end_idle : {D : Type 0} (disk : D → DiskView) (old new : DiskView) → ((image : Image) → old.told ≡ Some image → IsImage old.may_leave image)
    → (steps : ℕ) (by : OrdersEnd) (o : Outside) → (HaveFailed by → ⊥) → ((bundle : List ℕ) (bots : List Facts) → o.meaning.facts bundle ≡ Some bots → AreSound bots) → WhatStandsOpens o.meaning → (feeds : List (List ℕ × List ℕ)) (files : Image) (asked : Asked) → RunsFreely disk steps by o feeds files asked old new → (now : ShelfView) (e : Result TurnsEnd StoreEnd) (before after : SinkView)
    → IsCallBy disk (RunsSo steps by []) o now files asked old new e before after → EndsIdly e
runs_end_idle disk old new honest steps by o fine law opens feeds files asked is now (Ok why) before after call = turns_end disk steps by o feeds files asked old new is fine law why call.0 call.1
runs_end_idle disk old new honest steps by o fine law opens feeds files asked is now (Err end.Memory) before after call = tt
runs_end_idle disk old new honest steps by o fine law opens feeds files asked is now (Err end.Disk) before after call = tt
runs_end_idle disk old new honest steps by o fine law opens feeds files asked is now (Err end.Sink) before after call = tt
runs_end_idle disk old new honest steps by o fine law opens feeds files asked is now (Err (end.Store have)) before after call = has_root disk steps by o feeds files asked old new is fine law honest call.1
runs_end_idle disk old new honest steps by o fine law opens feeds files asked is now (Err (end.Damaged file at)) before after call = undamaged disk steps by o feeds files asked old new is fine law honest opens file at call.2
runs_end_idle disk old new honest steps by o fine law opens feeds files asked is now (Err end.Done) before after call = absurd call
runs_end_idle disk old new honest steps by o fine law opens feeds files asked is now (Err end.Refused) before after call = absurd call
runs_end_idle disk old new honest steps by o fine law opens feeds files asked is now (Err (end.NoDump n)) before after call = absurd call
runs_end_idle disk old new honest steps by o fine law opens feeds files asked is now (Err (end.Spent next)) before after call = absurd call
runs_end_idle disk old new honest steps by o fine law opens feeds files asked is now (Err (end.Full bytes)) before after call = absurd call
