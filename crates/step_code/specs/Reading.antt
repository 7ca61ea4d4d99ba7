-- Reading codes of steps and states from left to right.
use Rattle.std.specs.Prelude.{◌==◌, ℕ, List, Some, None, if◌then◌else◌}
use Rattle.std.specs.Int.{w32, w64}
use Rattle.base_types.specs.declared.message.FaultNote.{FaultNote}
use Rattle.stored_types.specs.declared.hand.Hand.{Hand}
use Rattle.stored_types.specs.declared.message.Dump.{Dump}
use Rattle.stored_types.specs.declared.queue.Queue.{Queue}
use Rattle.stored_types.specs.Code.{bot_at, byte_at, flag_at, framed_at, list_at, moment_at, number_at, optional_at, queue_at}
use Rattle.stored_types.specs.Coded.{◌>>=◌, Reader, both, made}
use Rattle.stored_types.specs.Hand.{hand_at}
use Rattle.stored_types.specs.Mark.{mark_at}
use Rattle.stored_types.specs.Message.{dump_at, note_at}
use Rattle.stored_types.specs.Queue.{waiting_at}
use Rattle.step_code.specs.declared.base.Base.{Base}
use Rattle.step_code.specs.declared.base.Heads.{Heads}
use Rattle.step_code.specs.declared.cache.BotCache.{BotCache}
use Rattle.step_code.specs.declared.feed.Feed.{Feed}
use Rattle.step_code.specs.declared.output.Output.{Output}
use Rattle.step_code.specs.declared.step.Step.{Step}
use Rattle.step_code.specs.declared.step.StepKind.{StepKind}
use Rattle.step_code.specs.declared.step.StepKind.TheVariants as kind

abbrev pub send_at : Reader (List ℕ × List ℕ)
send_at bytes = both queue_at (framed_at w32) bytes

abbrev pub bad_part_at : Reader (List ℕ × FaultNote)
bad_part_at bytes = both (framed_at w32) note_at bytes

unfoldable pub collect_at : Reader StepKind
collect_at bytes = made (λ (((bot, from), upto), piece). kind.Collect bot from upto piece) (both (both (both bot_at (number_at w64)) (number_at w64)) (framed_at w32)) bytes

unfoldable pub feed_end_at : Reader StepKind
feed_end_at bytes = made (λ (bot, position). kind.FeedEnd bot position) (both bot_at (number_at w64)) bytes

unfoldable pub take_at : Reader StepKind
take_at bytes = made (λ ((bot, instance), message). kind.Take bot instance message) (both (both bot_at byte_at) (number_at w64)) bytes

unfoldable pub done_at : Reader StepKind
done_at bytes =
    made (λ (((((((bot, instance), message), bundle), sends), dumps), key), line). kind.Done bot instance message bundle sends dumps key line)
    (both (both (both (both (both (both (both bot_at byte_at) (number_at w64)) (number_at w64)) (list_at send_at)) (list_at bad_part_at)) optional_at) flag_at) bytes

unfoldable pub retry_at : Reader StepKind
retry_at bytes =
    made (λ ((((bot, instance), message), bundle), fault). kind.Retry bot instance message bundle fault) (both (both (both (both bot_at byte_at) (number_at w64)) (number_at w64)) note_at) bytes

unfoldable pub fail_at : Reader StepKind
fail_at bytes =
    made (λ ((((((bot, instance), message), bundle), fault), queues), halts). kind.Fail bot instance message bundle fault queues halts)
    (both (both (both (both (both (both bot_at byte_at) (number_at w64)) (number_at w64)) note_at) (list_at queue_at)) flag_at) bytes

unfoldable pub reload_at : Reader StepKind
reload_at bytes = made (λ bundle. kind.Reload bundle) (framed_at w32) bytes

unfoldable pub redo_at : Reader StepKind
redo_at bytes = made (λ dump. kind.Redo dump) (number_at w64) bytes

unfoldable pub round_at : Reader StepKind
round_at bytes = made (λ bot. kind.Round bot) bot_at bytes

-- the fields behind the byte of a kind
unfoldable pub kind_at : ℕ → Reader StepKind
kind_at byte bytes =
    if byte == 1 then Some (kind.Start, bytes)
    else (if byte == 2 then collect_at bytes
    else (if byte == 3 then feed_end_at bytes
    else (if byte == 4 then take_at bytes
    else (if byte == 5 then done_at bytes
    else (if byte == 6 then retry_at bytes
    else (if byte == 7 then fail_at bytes
    else (if byte == 8 then reload_at bytes
    else (if byte == 9 then redo_at bytes
    else (if byte == 10 then round_at bytes else None)))))))))

unfoldable pub step_at : Reader Step
step_at bytes = do
  byte ← byte_at bytes
  moment ← moment_at byte.1
  what ← kind_at byte.0 moment.1
  Some (record { moment = moment.0; what = what.0 }, what.1)

unfoldable pub cache_at : Reader BotCache
cache_at bytes = made (λ (bot, marks). record { bot = bot; marks = marks }) (both bot_at (list_at mark_at)) bytes

unfoldable pub output_at : Reader Output
output_at bytes =
    made (λ (((bot, sealed_bytes), sealed_lines), lines). record { bot = bot; sealed_bytes = sealed_bytes; sealed_lines = sealed_lines; lines = lines })
    (both (both (both bot_at (number_at w64)) (number_at w64)) (list_at (framed_at w32))) bytes

unfoldable pub feed_at : Reader Feed
feed_at bytes =
    made (λ (((bot, round), position), finished). record { bot = bot; round = round; position = position; finished = finished })
    (both (both (both bot_at (number_at w64)) (number_at w64)) flag_at) bytes

-- what stands before the lists
unfoldable pub heads_at : Reader Heads
heads_at bytes =
    made (λ (((((steps, next_message), next_dump), latest), bundle_no), bundle).
    record { steps = steps; next_message = next_message; next_dump = next_dump; latest = latest; bundle_no = bundle_no; bundle = bundle })
    (both (both (both (both (both (number_at w64) (number_at w64)) (number_at w64)) moment_at) (number_at w64)) (framed_at w32)) bytes

-- the heads and the lists of a state, as they are read
abbrev pub BaseFields : Type 0
BaseFields = ((((((Heads × List Queue) × List Hand) × List BotCache) × List Dump) × List Output) × List Feed) × List (List ℕ)

-- the state that they are
abbrev pub base_of : BaseFields → Base
base_of = λ (((((((head, queues), hands), caches), dumps), outs), feeds), halted). record {
  steps = head.steps;
  next_message = head.next_message;
  next_dump = head.next_dump;
  discarded = 0;
  latest = head.latest;
  bundle_no = head.bundle_no;
  bundle = head.bundle;
  queues = queues;
  hands = hands;
  caches = caches;
  dumps = dumps;
  outs = outs;
  feeds = feeds;
  halted = halted;
}

-- a state in the first format
unfoldable pub base_at : Reader Base
base_at bytes =
    made base_of
    (both (both (both (both (both (both (both heads_at (list_at waiting_at)) (list_at hand_at)) (list_at cache_at)) (list_at dump_at)) (list_at output_at)) (list_at feed_at)) (list_at bot_at)) bytes
