-- What commands leave of the history that all generations of a store hold.
use Rattle.std.proofs.Common.{◌≡◌, ◌⊎◌, ⊎_elim, inl, inr, ◌++◌, ℕ, true, List, [], ◌∷◌, Option, Result, Ok, Err, refl, sym, ap, subst, ◌∙◌, take, drop, append_assoc, MatchResult}
use Rattle.std.proofs.lemmas.List.{append-nil}
use Rattle.edge_traits.specs.Disk.{DiskView, Image, IsImage}
use Rattle.edge_traits.specs.Shelf.{ShelfView}
use Rattle.edge_traits.specs.Sink.{SinkView}
use Rattle.edge_traits.proofs.Moments.{run_on, widened}
use Rattle.config_bundle.specs.declared.bundle.Bundle.{Bundle}
use Rattle.runtime_config.specs.declared.plan.Plan.{Plan}
use Rattle.bot_rules.specs.Intel.{intel}
use Rattle.step_code.specs.declared.base.Base.{Base}
use Rattle.step_code.specs.declared.step.Step.{Step}
use Rattle.step_code.specs.Rules.{Meaning}
use Rattle.store_image.specs.History.{HasHistoryFrom}
use Rattle.store_image.specs.Stands.{origin_of, StandsFor}
use Rattle.store_image.proofs.Whole.{whole_history}
use Rattle.journal_book.specs.Opening.{StandsNow}
use Rattle.book_runs.specs.Calls.{IsCall, StandsOn}
use Rattle.store_commands.specs.Ends.{most_step_bytes}
use Rattle.store_commands.specs.Redone.{IsRedoCall, RedoesStep}
use Rattle.store_commands.specs.declared.end.StoreEnd.{StoreEnd}
use Rattle.store_commands.specs.declared.end.StoreEnd.TheVariants as ended
use Rattle.store_commands.specs.declared.printing.Shown.{Shown}
use Rattle.drain_turns.specs.Drained.{Drains, Place}
use Rattle.drain_turns.specs.Turn.{Outside}
use Rattle.drain_turns.specs.declared.end.TurnsEnd.{TurnsEnd}
use Rattle.drain_loop.specs.Calls.{outside}
use Rattle.drain_command.specs.Drained.{Called, IsCallBy, IsStill}
use Rattle.drain_command.specs.declared.draining.Asked.{Asked}
use Rattle.command_words.specs.Command as asked
use Rattle.bundle_bringing.specs.declared.bringing.Unbrought.{Unbrought}
use Rattle.status_texts.specs.declared.status.Status.{Status}
use Rattle.pipeline_top.specs.Commands.{IsAuditedBy, IsDrilled, IsDrillEnd, IsInit, IsMadeOf, IsAtWork, IsDrainedBy, IsRedoneBy, IsRunBy, IsShownBy, IsUndrained, IsUnmade}
use Rattle.live_reload.specs.Followed.{orders_in}
use Rattle.live_reload.specs.declared.end.OrdersEnd.TheVariants as orders
use Rattle.run_command.specs.Runs.{RunsSo}
use Rattle.run_command.specs.Said.{IsUnanswered}
use Rattle.pipeline_top.specs.History.{KeepsHistory, LeavesHistory}
use Rattle.pipeline_top.specs.Outside.{Seen}
use Rattle.pipeline_top.proofs.Still.{still_here}

module _ {m : Meaning} (first : Base) where
  -- files that stand for steps which begin with these
  held_from : (steps front rest more : List Step) (image : Image) → front ≡ steps ++ rest → StandsFor m (origin_of first true) front more image → HasHistoryFrom steps image
  held_from steps front rest more image is stands = record {
    history = front ++ take stands.count more;
    has = whole_history m first image (front ++ take stands.count more) stands.stands;
    more = rest ++ take stands.count more;
    splits = ap (λ ss. ss ++ take stands.count more) is ∙ append_assoc steps rest (take stands.count more);
  }

  held_whole : (steps more : List Step) (image : Image) → StandsFor m (origin_of first true) steps more image → HasHistoryFrom steps image
  held_whole steps more image = held_from steps steps [] more image (sym (append-nil steps))

  -- a call that makes no step
  pub kept_on : (steps more : List Step) (old new : DiskView) → StandsOn m (origin_of first true) steps more old new → LeavesHistory steps old new
  kept_on steps more old new on = record {
    any_moment = widened (λ image stands. held_whole steps more image stands) on.any_moment;
    later = λ image left. held_whole steps more image (on.now.each image left);
  }

  -- a call that makes steps
  pub kept_by : {D : Type 0} {disk : D → DiskView} (steps more made : List Step) (durable : ℕ) (old new : DiskView) → IsCall disk m (origin_of first true) steps more old new made durable → LeavesHistory steps old new
  kept_by steps more made durable old new call =
      let read = take call.count more in
      record {
        any_moment = run_on (widened (λ image stands. held_whole steps more image stands) call.before)
            (widened (λ image stands. held_from steps (steps ++ read) read made image refl stands) call.behind);
        later = λ image left. held_from steps ((steps ++ read) ++ take durable made) (read ++ take durable made) (drop durable made) image (append_assoc steps read (take durable made)) (call.now.each image left);
      }

-- two calls, one after the other
kept_further : (steps : List Step) (old mid new : DiskView) → LeavesHistory steps old mid → LeavesHistory steps mid new → LeavesHistory steps old new
kept_further steps old mid new one other = record { any_moment = run_on one.any_moment other.any_moment; later = other.later }

-- a command that changes nothing of a history
kept_still : (m : Meaning) (old new : DiskView) → IsStill m old new → KeepsHistory m old new
kept_still m old new still = λ first steps more was. kept_on first steps more old new (still (origin_of first true) steps more was)

-- one that doesn't touch the disk
pub kept_here : (d : DiskView) → ((image : Image) → d.left_since d.moment image → IsImage d.may_leave image) → KeepsHistory intel d d
kept_here d only = kept_still intel d d (still_here d only)

-- ---- bots run

module _ {D : Type 0} (disk : D → DiskView) (Makes : Outside → Place → List Step → TurnsEnd → Type 0) (o : Outside) (now : ShelfView) (files : Image) (ask : Asked) (old new : DiskView) where
  kept_called : (why : TurnsEnd) → Called disk Makes o files ask old new why → KeepsHistory o.meaning old new
  kept_called why d = λ first steps more was. kept_by first steps more d.made d.durable old new (d.call (origin_of first true) steps more was).call

  kept_call : (done : Result TurnsEnd StoreEnd) (before after : SinkView) → IsCallBy disk Makes o now files ask old new done before after → KeepsHistory o.meaning old new
  kept_call (Ok why) before after call = kept_called why call.1
  kept_call (Err ended.Sink) before after call = kept_called call.0 call.2
  kept_call (Err ended.Memory) before after call = ⊎_elim (kept_still o.meaning old new) (λ made. kept_called made.0 made.1) call.1
  kept_call (Err ended.Disk) before after call = ⊎_elim (kept_still o.meaning old new) (λ made. kept_called made.0 made.1) call.1
  kept_call (Err (ended.Store have)) before after call = kept_still o.meaning old new call.3
  kept_call (Err (ended.Damaged file at)) before after call = kept_still o.meaning old new call.3
  kept_call (Err ended.Done) before after call = absurd call
  kept_call (Err ended.Refused) before after call = absurd call
  kept_call (Err (ended.NoDump n)) before after call = absurd call
  kept_call (Err (ended.Spent next)) before after call = absurd call
  kept_call (Err (ended.Full bytes)) before after call = absurd call

pub kept_drained_by : {D : Type 0} (disk : D → DiskView) (ask : asked.Ask) (seen : Seen) (end : Status) (old new : DiskView) (bundle : Option (List ℕ)) → IsDrainedBy disk ask seen end old new bundle → KeepsHistory intel old new
kept_drained_by disk ask seen end old new bundle is = λ first steps more was.
    kept_call disk Drains (outside intel is.shelf seen.clock most_step_bytes) seen.shelf_now was.files (record { opening = record { bundle = bundle; rounds = ask.round }; left = ask.steps }) old new is.done seen.sink seen.sink_now
    (is.drained was.files was.tells) first steps more was

module _ {D : Type 0} (disk : D → DiskView) (control : Option (List ℕ)) (ask : asked.Run) (seen : Seen) (end : Status) (old new : DiskView) (bundle : Option (List ℕ)) (is : IsRunBy disk control ask seen end old new bundle) where
  abbrev asks : Asked
  asks = record { opening = record { bundle = bundle; rounds = ask.ask.round }; left = ask.ask.steps }

  abbrev out : Outside
  out = outside intel is.shelf seen.clock most_step_bytes

  abbrev makes : Outside → Place → List Step → TurnsEnd → Type 0
  makes = RunsSo is.steps is.by (orders_in is.ran.lines)

  kept_run : (files : Image) → IsCallBy disk makes out seen.shelf_now files asks old new is.done is.ran.mid seen.sink_now ⊎ ((is.by ≡ orders.Sink) × (is.done ≡ Err ended.Sink) × IsUnanswered disk makes out files asks old new is.ran.mid seen.sink_now) → KeepsHistory intel old new
  kept_run files (inl call) = kept_call disk makes out seen.shelf_now files asks old new is.done is.ran.mid seen.sink_now call
  kept_run files (inr (by, failed, unanswered)) = kept_called disk makes out seen.shelf_now files asks old new unanswered.why unanswered.called

  pub kept_run_by : KeepsHistory intel old new
  kept_run_by = λ first steps more was. kept_run was.files (is.ran.call was.files was.tells) first steps more was

pub kept_at_work : (Works : Option (List ℕ) → Type 0) (reload : Option (List ℕ)) (seen : Seen) (old new : DiskView) (end : Status) → ((bundle : Option (List ℕ)) → Works bundle → KeepsHistory intel old new) → IsAtWork Works reload seen old new end → KeepsHistory intel old new
kept_at_work Works reload seen old new end each is = go is.named is.done
  where
    go : (named : Result (Option (List ℕ)) Unbrought) → MatchResult named Works (IsUndrained seen end old new) → KeepsHistory intel old new
    go (Ok bundle) done = each bundle done
    go (Err why) done = kept_still intel old new done.still

-- ---- other commands on a store

pub kept_by_show : (what : Shown) (seen : Seen) (old new : DiskView) (end : Status) → IsShownBy what seen old new end → KeepsHistory intel old new
kept_by_show what seen old new end is = kept_still intel old new is.still

pub kept_by_audit : (seen : Seen) (old new : DiskView) (end : Status) → IsAuditedBy seen old new end → KeepsHistory intel old new
kept_by_audit seen old new end is = kept_still intel old new is.still

pub kept_by_init : (name : List ℕ) (seen : Seen) (old new : DiskView) (end : Status) → IsInit name seen old new end → KeepsHistory intel old new
kept_by_init name seen old new end is = go is.brought is.done
  where
    go : (brought : Result (Bundle × Plan) Unbrought) → MatchResult brought (IsMadeOf seen end old new) (IsUnmade seen end old new) → KeepsHistory intel old new
    go (Ok found) done = kept_still intel old new done.left_alone
    go (Err why) done = kept_still intel old new done.still

module _ {D : Type 0} (disk : D → DiskView) (m : Meaning) (first : Base) (steps more : List Step) (old new : DiskView) (dump now : ℕ) where
  kept_redid : (durable : ℕ) → RedoesStep disk m (origin_of first true) steps more old new dump now durable → LeavesHistory steps old new
  kept_redid durable is = kept_by first steps more (is.step ∷ []) durable old new is.call

  abbrev On : Type 0
  On = StandsOn m (origin_of first true) steps more old new

  kept_redo : (done : StoreEnd) → IsRedoCall done On (RedoesStep disk m (origin_of first true) steps more old new dump now) → LeavesHistory steps old new
  kept_redo ended.Done is = kept_redid 1 is
  kept_redo ended.Sink is = kept_redid 1 is
  kept_redo ended.Memory is = ⊎_elim (kept_on first steps more old new) (kept_redid 1) is
  kept_redo ended.Disk is = ⊎_elim (kept_on first steps more old new) (λ made. kept_redid made.0 made.1) is
  kept_redo (ended.NoDump n) is = kept_on first steps more old new is
  kept_redo (ended.Spent next) is = kept_on first steps more old new is
  kept_redo (ended.Full bytes) is = kept_on first steps more old new is
  kept_redo (ended.Store have) is = kept_on first steps more old new is
  kept_redo (ended.Damaged file at) is = kept_on first steps more old new is
  kept_redo ended.Refused is = kept_on first steps more old new is

pub kept_by_redo : {D : Type 0} (disk : D → DiskView) (dump : ℕ) (seen : Seen) (old new : DiskView) (end : Status) → IsRedoneBy disk dump seen old new end → KeepsHistory intel old new
kept_by_redo disk dump seen old new end is = λ first steps more was. kept_redo disk intel first steps more old new dump is.now is.done (is.stands (origin_of first true) steps more was)

-- the drain of a drill, after the making of its store
module _ {D : Type 0} (disk : D → DiskView) (lines number : ℕ) (seen : Seen) (old mid new : D) (end : Status) (first : Base) (steps more : List Step)
    (made : LeavesHistory steps (disk old) (disk mid)) (now : StandsNow intel (origin_of first true) steps more (disk mid)) where
  kept_undrilled : new ≡ mid → LeavesHistory steps (disk old) (disk new)
  kept_undrilled same = subst (λ d. LeavesHistory steps (disk old) (disk d)) (sym same) made

  kept_drill : (making : StoreEnd) → IsDrillEnd disk lines number seen mid new end making → LeavesHistory steps (disk old) (disk new)
  kept_drill ended.Done is = kept_further steps (disk old) (disk mid) (disk new) made (kept_drained_by disk _ _ end (disk mid) (disk new) _ is first steps more now)
  kept_drill ended.Memory is = kept_undrilled is.1
  kept_drill ended.Disk is = kept_undrilled is.1
  kept_drill ended.Sink is = kept_undrilled is.1
  kept_drill (ended.Store have) is = kept_undrilled is.1
  kept_drill ended.Refused is = kept_undrilled is.1
  kept_drill (ended.Damaged file at) is = kept_undrilled is.1
  kept_drill (ended.NoDump n) is = kept_undrilled is.1
  kept_drill (ended.Spent next) is = kept_undrilled is.1
  kept_drill (ended.Full bytes) is = kept_undrilled is.1

pub kept_by_drill : {D : Type 0} (disk : D → DiskView) (lines number : ℕ) (seen : Seen) (old new : D) (end : Status) → IsDrilled disk lines number seen old new end → KeepsHistory intel (disk old) (disk new)
kept_by_drill disk lines number seen old new end is = λ first steps more was.
    let on = is.left_alone (origin_of first true) steps more was in
    kept_drill disk lines number seen old is.mid new end first steps more (kept_on first steps more (disk old) (disk is.mid) on) on.now is.making is.done
