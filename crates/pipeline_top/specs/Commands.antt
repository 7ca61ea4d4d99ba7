-- What the program does for each command.
use Rattle.std.specs.Prelude.{◌≡◌, ◌≢◌, ◌⊎◌, ◌<◌, ◌≤◌, ◌++◌, ◌||◌, ℕ, Bool, true, false, List, [], length, codes, decimal, Option, Some, None, is_some, MatchOption, Result, Ok, IfErr, MatchResult, ⊤}
use Rattle.edge_traits.specs.Disk.{DiskView, Image}
use Rattle.edge_traits.specs.Shelf.{ShelfView, content_of, count_on, lacks}
use Rattle.edge_traits.specs.Sink.{Took}
use Rattle.config_bundle.specs.declared.bundle.Bundle.{Bundle}
use Rattle.config_bundle.specs.Bundle.{bundle_code}
use Rattle.runtime_config.specs.declared.plan.Plan.{Plan}
use Rattle.bot_rules.specs.Intel.{intel}
use Rattle.step_code.specs.declared.step.Step.{Step}
use Rattle.store_image.specs.Files.{root_file}
use Rattle.store_image.specs.Stands.{Origin}
use Rattle.journal_book.specs.Opening.{StandsNow}
use Rattle.journal_book.specs.Outputs.{AreWritten}
use Rattle.journal_book.specs.Alone.{IsBeside, IsBesideNew, LeavesAlone}
use Rattle.book_runs.specs.Calls.{IsEarlierIn, StandsOn}
use Rattle.store_commands.specs.Begun.{IsBegun, IsMade, IsMadeWhole, IsNewStore}
use Rattle.store_commands.specs.Completed.{IsCompleted}
use Rattle.store_commands.specs.Ends.{most_step_bytes, AreWrittenAt, IsPrinted, IsShown}
use Rattle.store_commands.specs.Redone.{IsRedoCall, IsRedone, RedoesStep}
use Rattle.store_commands.specs.declared.end.StoreEnd.{StoreEnd}
use Rattle.store_commands.specs.declared.end.StoreEnd.TheVariants as ended
use Rattle.store_commands.specs.declared.printing.Shown.{Shown}
use Rattle.store_commands.specs.declared.printing.Shown.TheVariants as shown
use Rattle.drain_loop.specs.Calls.{outside}
use Rattle.drain_turns.specs.declared.end.TurnsEnd.{TurnsEnd}
use Rattle.drain_turns.specs.declared.end.TurnsEnd.TheVariants as turns
use Rattle.drain_command.specs.Drained.{IsDrainCall, MayEndDrain}
use Rattle.live_reload.specs.declared.end.OrdersEnd.{OrdersEnd}
use Rattle.run_command.specs.Said as run
use Rattle.audit_command.specs.Audited.{IsAuditOf}
use Rattle.audit_command.specs.declared.end.AuditEnd.{AuditEnd}
use Rattle.feed_maker.specs.Drill.{drill_bundle, drill_shelf}
use Rattle.command_words.specs.Command as asked
use Rattle.command_words.specs.Words.{command_of, run_of}
use Rattle.bundle_bringing.specs.Brought.{Brings, Names}
use Rattle.bundle_bringing.specs.declared.bringing.Unbrought.{Unbrought}
use Rattle.pipeline_top.specs.Convert.{conversion, convert_bot, end_of, IsOutside, Wrote}
use Rattle.pipeline_top.specs.Outside.{Seen}
use Rattle.pipeline_top.specs.Statuses.{audit_status, behind_store, drain_status, is_said, store_status, unbrought_status, IsRunEnd}
use Rattle.status_texts.specs.declared.status.FeedWhy.TheVariants.{Absent}
use Rattle.status_texts.specs.declared.status.Status.{Status}
use Rattle.status_texts.specs.declared.status.Status.TheVariants as status

-- ---- commands without a store

-- a feed is converted: where it is told, how that ends, and what is written; or the shelf lacks it
pub record IsConverted (name : List ℕ) (seen : Seen) (end : Status) : Type 0 where
  pub absent : (other : List ℕ) → end ≡ status.Feed other Absent → (other ≡ name) × (lacks seen.shelf name ≡ true)
  pub lacking : lacks seen.shelf name ≡ true → ((end ≡ status.Feed name Absent) ⊎ (end ≡ status.Memory)) × Took seen.sink seen.sink_now []
  pub long_line : (bot : List ℕ) (at : ℕ) → end ≡ status.LongLine bot at → bot ≡ convert_bot
  pub long_feed : (bot : List ℕ) → end ≡ status.LongFeed bot → bot ≡ convert_bot
  pub ends : (content : List ℕ) → content_of seen.shelf name ≡ Some content → IsOutside end ⊎ (end ≡ end_of content)
  pub written : (content : List ℕ) → content_of seen.shelf name ≡ Some content → Wrote end seen.sink seen.sink_now (conversion content)

-- how many bots a bundle has
abbrev pub bots_text : ℕ → List ℕ
bots_text bots = codes "ok " ++ decimal bots ++ codes " bots\n"

abbrev pub IsCounted : Seen → Status → Bundle × Plan → Type 0
IsCounted seen end found = (done : StoreEnd) × (end ≡ store_status done) × IsPrinted (bots_text (length found.1.bots)) done seen.sink seen.sink_now

abbrev pub IsUnbrought : Seen → Status → Unbrought → Type 0
IsUnbrought seen end why = (end ≡ unbrought_status why) × Took seen.sink seen.sink_now []

-- a bundle is brought, and the number of its bots is printed; or it isn't brought
pub record IsChecked (name : List ℕ) (seen : Seen) (end : Status) : Type 0 where
  pub brought : Result (Bundle × Plan) Unbrought
  pub brings : Brings seen.shelf name brought
  pub done : MatchResult brought (IsCounted seen end) (IsUnbrought seen end)

-- ---- commands on a store, on a disk as it was and as it comes back

-- nothing of a history changes, at any moment of the call and after it
abbrev pub IsStill : DiskView → DiskView → Type 0
IsStill old new = (origin : Origin) (steps more : List Step) → StandsNow intel origin steps more old → StandsOn intel origin steps more old new

-- where the disk tells what it holds
abbrev pub WhereTold : DiskView → (Image → Type 0) → Type 0
WhereTold old passes = (files : Image) → old.told ≡ Some files → passes files

-- after a command that ended so, each output's file is all lines of the history that the disk stands for, where that began with
-- nothing sealed
abbrev pub HasOutputsAt : DiskView → StoreEnd → Type 0
HasOutputsAt new done =
    (origin : Origin) (history : List Step) → StandsNow intel origin history [] new → AreWrittenAt done (AreWritten intel origin.first history new)

-- a store of this bundle was made, or one was there, which is left alone
pub record IsMadeOf (seen : Seen) (end : Status) (old new : DiskView) (found : Bundle × Plan) : Type 0 where
  pub done : StoreEnd
  pub end_is : end ≡ store_status done
  pub made : WhereTold old (λ files. IsMade intel files (bundle_code found.0) done seen.sink seen.sink_now)
  pub begun : WhereTold old (λ files. IsMadeWhole done → IsBegun intel (bundle_code found.0) new)
  pub left_alone : IsStill old new
  pub others : WhereTold old (λ files. LeavesAlone old new (IsBesideNew files))

-- the bundle wasn't brought: that is told where there is no store
abbrev pub IsUnmadeEnd : DiskView → Unbrought → Status → Type 0
IsUnmadeEnd old why end =
    (end ≡ status.Disk) ⊎ ((have : ℕ) × (0 < have) × (end ≡ status.Store have) × WhereTold old (λ files. have ≡ length (files root_file)))
    ⊎ ((end ≡ unbrought_status why) × WhereTold old (λ files. files root_file ≡ []))

pub record IsUnmade (seen : Seen) (end : Status) (old new : DiskView) (why : Unbrought) : Type 0 where
  pub ends : IsUnmadeEnd old why end
  pub nothing : Took seen.sink seen.sink_now []
  pub still : IsStill old new
  pub others : LeavesAlone old new (λ file. ⊤)

pub record IsInit (name : List ℕ) (seen : Seen) (old new : DiskView) (end : Status) : Type 0 where
  pub brought : Result (Bundle × Plan) Unbrought
  pub brings : Brings seen.shelf name brought
  pub done : MatchResult brought (IsMadeOf seen end old new) (IsUnmade seen end old new)

-- the store was drained, its steps made one by one as they were due, on one thread: with the bundle of this code put in force, if one is
-- named. What was fetched of the bundle may have raised the shelf's counts before the turns
pub record IsDrainedBy {D : Type 0} (disk : D → DiskView) (ask : asked.Ask) (seen : Seen) (end : Status) (old new : DiskView) (bundle : Option (List ℕ)) : Type 0 where
  pub done : Result TurnsEnd StoreEnd
  pub ends : IfErr done MayEndDrain
  pub end_is : end ≡ drain_status ask.steps done
  pub shelf : ShelfView
  pub same_shelf : shelf.told ≡ seen.shelf.told
  pub counts : (name : List ℕ) → count_on seen.shelf name ≤ count_on shelf name
  pub drained : WhereTold old (λ files. IsDrainCall disk (outside intel shelf seen.clock most_step_bytes) seen.shelf_now files (record { opening = record { bundle = bundle; rounds = ask.round }; left = ask.steps }) old new done seen.sink seen.sink_now)
  pub others : WhereTold old (λ files. LeavesAlone old new (IsEarlierIn files))

-- its bots ran on threads, and control was followed: with the bundle of this code put in force, if one is named
pub record IsRunBy {D : Type 0} (disk : D → DiskView) (control : Option (List ℕ)) (ask : asked.Run) (seen : Seen) (end : Status) (old new : DiskView) (bundle : Option (List ℕ)) : Type 0 where
  pub steps : ℕ
  pub by : OrdersEnd
  pub done : Result TurnsEnd StoreEnd
  pub ends : IfErr done MayEndDrain
  pub end_is : IsRunEnd steps by done end
  pub stays : ask.stay ≡ true → done ≢ Ok turns.Idle
  pub shelf : ShelfView
  pub same_shelf : shelf.told ≡ seen.shelf.told
  pub counts : (name : List ℕ) → count_on seen.shelf name ≤ count_on shelf name
  pub ran : run.IsRun disk control (outside intel shelf seen.clock most_step_bytes) seen.shelf_now (record { opening = record { bundle = bundle; rounds = ask.ask.round }; left = ask.ask.steps }) steps by old new done seen.sink seen.sink_now
  pub others : WhereTold old (λ files. LeavesAlone old new (IsEarlierIn files))

-- the bundle wasn't brought: that is told after what opening the store comes to, and no step is made
pub record IsUndrained (seen : Seen) (end : Status) (old new : DiskView) (why : Unbrought) : Type 0 where
  pub done : StoreEnd
  pub end_is : end ≡ behind_store done (unbrought_status why)
  pub completed : WhereTold old (λ files. IsCompleted intel files (is_said why) done seen.sink seen.sink_now)
  pub written : HasOutputsAt new done
  pub still : IsStill old new
  pub others : WhereTold old (λ files. LeavesAlone old new (IsEarlierIn files))

-- the bundle is brought that is named, if one is, and then bots work
pub record IsAtWork (Works : Option (List ℕ) → Type 0) (reload : Option (List ℕ)) (seen : Seen) (old new : DiskView) (end : Status) : Type 0 where
  pub named : Result (Option (List ℕ)) Unbrought
  pub names : Names seen.shelf reload named
  pub done : MatchResult named Works (IsUndrained seen end old new)

abbrev pub IsDrained : {D : Type 0} → (D → DiskView) → asked.Ask → Seen → DiskView → DiskView → Status → Type 0
IsDrained disk ask seen old new end = IsAtWork (IsDrainedBy disk ask seen end old new) ask.reload seen old new end

abbrev pub IsRun : {D : Type 0} → (D → DiskView) → Option (List ℕ) → asked.Run → Seen → DiskView → DiskView → Status → Type 0
IsRun disk control ask seen old new end = IsAtWork (IsRunBy disk control ask seen end old new) ask.ask.reload seen old new end

-- a drill is a drain of all turns
abbrev pub no_ask : asked.Ask
no_ask = record { steps = None; reload = None; round = false }

-- no store was made: nothing more is done, and nothing is printed
abbrev pub IsUndrilled : {D : Type 0} → Seen → D → D → Status → StoreEnd → Type 0
IsUndrilled seen mid new end making = (end ≡ store_status making) × (new ≡ mid) × Took seen.sink seen.sink_now []

-- what comes after the making of the drill's store, which ended so: its feed is drained, or no store was made
abbrev pub IsDrillEnd : {D : Type 0} → (D → DiskView) → (lines number : ℕ) → Seen → D → D → Status → StoreEnd → Type 0
IsDrillEnd disk lines number seen mid new end ended.Done = IsDrainedBy disk no_ask (record seen { shelf = drill_shelf lines number; shelf_now = drill_shelf lines number }) end (disk mid) (disk new) None
IsDrillEnd disk lines number seen mid new end ended.Memory = IsUndrilled seen mid new end ended.Memory
IsDrillEnd disk lines number seen mid new end ended.Disk = IsUndrilled seen mid new end ended.Disk
IsDrillEnd disk lines number seen mid new end ended.Sink = IsUndrilled seen mid new end ended.Sink
IsDrillEnd disk lines number seen mid new end (ended.Store have) = IsUndrilled seen mid new end (ended.Store have)
IsDrillEnd disk lines number seen mid new end ended.Refused = IsUndrilled seen mid new end ended.Refused
IsDrillEnd disk lines number seen mid new end (ended.Damaged file at) = IsUndrilled seen mid new end (ended.Damaged file at)
IsDrillEnd disk lines number seen mid new end (ended.NoDump n) = IsUndrilled seen mid new end (ended.NoDump n)
IsDrillEnd disk lines number seen mid new end (ended.Spent next) = IsUndrilled seen mid new end (ended.Spent next)
IsDrillEnd disk lines number seen mid new end (ended.Full bytes) = IsUndrilled seen mid new end (ended.Full bytes)

-- a store of the drill's bundle was made, on a disk as it was then, and the feed of so many lines that the number gives was
-- drained into it; or a store was there, which is left alone
pub record IsDrilled {D : Type 0} (disk : D → DiskView) (lines number : ℕ) (seen : Seen) (old new : D) (end : Status) : Type 0 where
  pub mid : D
  pub making : StoreEnd
  pub made : WhereTold (disk old) (λ files. IsNewStore intel files (bundle_code drill_bundle) making)
  pub begun : WhereTold (disk old) (λ files. making ≡ ended.Done → IsBegun intel (bundle_code drill_bundle) (disk mid))
  pub left_alone : IsStill (disk old) (disk mid)
  pub others : WhereTold (disk old) (λ files. LeavesAlone (disk old) (disk mid) (IsBesideNew files))
  pub done : IsDrillEnd disk lines number seen mid new end making

-- what is asked for of a store's state is printed
pub record IsShownBy (what : Shown) (seen : Seen) (old new : DiskView) (end : Status) : Type 0 where
  pub done : StoreEnd
  pub end_is : end ≡ store_status done
  pub shown : WhereTold old (λ files. IsShown intel files what done seen.sink seen.sink_now)
  pub still : IsStill old new
  pub others : WhereTold old (λ files. LeavesAlone old new (IsBeside files))

-- what all generations of a store come to is told
pub record IsAuditedBy (seen : Seen) (old new : DiskView) (end : Status) : Type 0 where
  pub done : AuditEnd
  pub end_is : end ≡ audit_status done
  pub audited : WhereTold old (λ files. IsAuditOf intel files done seen.sink seen.sink_now)
  pub still : IsStill old new
  pub others : WhereTold old (λ files. LeavesAlone old new (IsBeside files))

-- a dump is redone, when the clock may show this moment
pub record IsRedoneBy {D : Type 0} (disk : D → DiskView) (dump : ℕ) (seen : Seen) (old new : DiskView) (end : Status) : Type 0 where
  pub done : StoreEnd
  pub end_is : end ≡ store_status done
  pub now : ℕ
  pub shows : (told : ℕ) → seen.clock ≡ Some told → now ≡ told
  pub redone : WhereTold old (λ files. IsRedone intel files dump now done seen.sink seen.sink_now)
  pub others : WhereTold old (λ files. LeavesAlone old new (IsEarlierIn files))
  pub written : HasOutputsAt new done
  pub stands : (origin : Origin) (steps more : List Step) → StandsNow intel origin steps more old
      → IsRedoCall done (StandsOn intel origin steps more old new) (RedoesStep disk intel origin steps more old new dump now)

-- ---- all

-- the command is done; words that are none do nothing
abbrev pub IsTool : {D : Type 0} → (D → DiskView) → Option asked.Command → Seen → D → D → Status → Type 0
IsTool disk None seen old new end = (end ≡ status.Words) × (seen.sink_now ≡ seen.sink) × (new ≡ old)
IsTool disk (Some (asked.Convert feed)) seen old new end = IsConverted feed seen end × (new ≡ old)
IsTool disk (Some (asked.Check bundle)) seen old new end = IsChecked bundle seen end × (new ≡ old)
IsTool disk (Some (asked.Init bundle)) seen old new end = IsInit bundle seen (disk old) (disk new) end
IsTool disk (Some (asked.Drain ask)) seen old new end = IsDrained disk ask seen (disk old) (disk new) end
IsTool disk (Some asked.Status) seen old new end = IsShownBy shown.State seen (disk old) (disk new) end
IsTool disk (Some asked.Dumps) seen old new end = IsShownBy shown.Dumps seen (disk old) (disk new) end
IsTool disk (Some asked.Audit) seen old new end = IsAuditedBy seen (disk old) (disk new) end
IsTool disk (Some (asked.Redo dump)) seen old new end = IsRedoneBy disk dump seen (disk old) (disk new) end
IsTool disk (Some (asked.Drill lines number)) seen old new end = IsDrilled disk lines number seen old new end

-- words that ask for bots on threads have them run, with what control tells; other words are a command, or none
abbrev pub IsPipeline : {D : Type 0} → (D → DiskView) → List (List ℕ) → Option (List ℕ) → Seen → D → D → Status → Type 0
IsPipeline disk words control seen old new end = MatchOption (run_of words) (IsTool disk (command_of words) seen old new end) (λ ask. IsRun disk control ask seen (disk old) (disk new) end)

-- the words are a command, or ask for bots on threads
abbrev pub is_pipeline : List (List ℕ) → Bool
is_pipeline words = is_some (run_of words) || is_some (command_of words)
