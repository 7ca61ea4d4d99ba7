-- What is shown of a store's state is shown of the replay of its history.
use Rattle.std.proofs.Common.{◌≡◌, ◌++◌, ℕ, List, take, Some, refl, ap, subst, ◌∙◌}
use Rattle.edge_traits.specs.Disk.{DiskView, Image, IsImage}
use Rattle.edge_traits.specs.Sink.{SinkView, Took}
use Rattle.bot_rules.specs.Intel.{intel}
use Rattle.step_code.specs.declared.step.Step.{Step}
use Rattle.step_code.specs.Rules.{Meaning}
use Rattle.store_image.specs.Stands.{Origin, StandsFor}
use Rattle.book_runs.proofs.Replayed.{replayed}
use Rattle.store_commands.specs.Ends.{shown_text, IsShown}
use Rattle.store_commands.specs.declared.end.StoreEnd.{StoreEnd}
use Rattle.store_commands.specs.declared.end.StoreEnd.TheVariants as ended
use Rattle.store_commands.specs.declared.printing.Shown.{Shown}
use Rattle.store_commands.proofs.SameTexts.{same_shown}
use Rattle.status_texts.specs.declared.status.Status.{Status}
use Rattle.status_texts.specs.declared.status.Status.TheVariants as status
use Rattle.pipeline_top.specs.Commands.{IsShownBy}
use Rattle.pipeline_top.specs.History.{IsReplayShown, ShowsReplay}
use Rattle.pipeline_top.specs.Outside.{Seen}
use Rattle.pipeline_top.specs.Statuses.{store_status}

-- the command was done only where the command on the store says so
ends_done : (e : StoreEnd) (s : Status) → s ≡ store_status e → s ≡ status.Done → e ≡ ended.Done
ends_done ended.Done s is done = refl
ends_done ended.Memory s is done = absurd (cc (is, done))
ends_done ended.Disk s is done = absurd (cc (is, done))
ends_done ended.Sink s is done = absurd (cc (is, done))
ends_done (ended.Store have) s is done = absurd (cc (is, done))
ends_done (ended.Damaged file at) s is done = absurd (cc (is, done))
ends_done ended.Refused s is done = absurd (cc (is, done))
ends_done (ended.NoDump n) s is done = absurd (cc (is, done))
ends_done (ended.Spent next) s is done = absurd (cc (is, done))
ends_done (ended.Full bytes) s is done = absurd (cc (is, done))

-- the state in which a store opens is shown as that after its history
replay_shown : (m : Meaning) (origin : Origin) (steps more : List Step) (files : Image) (what : Shown) (old new : SinkView) → StandsFor m origin steps more files → IsShown m files what ended.Done old new → IsReplayShown m origin steps more what old new
replay_shown m origin steps more files what old new stands is =
    let here = is.1 in
    let history = steps ++ take stands.count more in
    let seal = replayed m files history here.generation here.base here.steps here.opens origin stands.stands in
    record {
      count = stands.count;
      within = stands.within;
      printed = subst (λ (text : List ℕ). Took old new text) (ap (shown_text what) here.state ∙ same_shown what _ _ seal) is.2;
    }

pub shows_replay : (what : Shown) (seen : Seen) (old new : DiskView) (end : Status) → ((files : Image) → old.told ≡ Some files → IsImage old.may_leave files) → IsShownBy what seen old new end → ShowsReplay what old end seen.sink seen.sink_now
shows_replay what seen old new end honest is = λ done origin steps more was.
    replay_shown intel origin steps more was.files what seen.sink seen.sink_now (was.each was.files (honest was.files was.tells))
    (subst (λ (e : StoreEnd). IsShown intel was.files what e seen.sink seen.sink_now) (ends_done is.done end is.end_is done) (is.shown was.files was.tells))
