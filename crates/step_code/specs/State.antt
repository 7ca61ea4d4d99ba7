-- The parts of a state, as steps look at them.
use Rattle.std.specs.Prelude.{◌&&◌, ◌==◌, ℕ, Bool, false, not, List, [], Option, option_map, unwrap_or, find, filter, sum_by, nat_le}
use Rattle.std.specs.List.{list_any}
use Rattle.std.specs.Str.{bytes_eq}
use Rattle.stored_types.specs.declared.message.Dump.{Dump}
use Rattle.base_types.specs.declared.message.Msg.{Msg}
use Rattle.step_code.specs.declared.base.Base.{Base}
use Rattle.stored_types.specs.declared.queue.Queue.{Queue}
use Rattle.stored_types.specs.declared.hand.Hand.{Hand}
use Rattle.step_code.specs.declared.feed.Feed.{Feed}
use Rattle.stored_types.specs.declared.mark.Mark.{Mark}
use Rattle.step_code.specs.declared.cache.BotCache.{BotCache}
use Rattle.step_code.specs.declared.output.Output.{Output}
use Rattle.step_code.specs.declared.rules.Facts.{Facts}
use Rattle.stored_types.specs.Hand.{is_hand}
use Rattle.base_types.specs.Name.{queue_name}
use Rattle.stored_types.specs.Queue.{bytes_in, queued}
use Rattle.step_code.specs.Rules.{Meaning, bot_named, collects, passes}

-- the bots of a bundle, and none where it is no bundle
abbrev pub bots_of : Meaning → List ℕ → List Facts
bots_of m bundle = unwrap_or (m.facts bundle) []

-- the bots of the bundle in force
abbrev pub bots_in_force : Meaning → Base → List Facts
bots_in_force m s = bots_of m s.bundle

abbrev pub is_feed : List ℕ → Feed → Bool
is_feed bot f = bytes_eq f.bot bot

abbrev pub is_cache : List ℕ → BotCache → Bool
is_cache bot c = bytes_eq c.bot bot

abbrev pub is_out : List ℕ → Output → Bool
is_out bot o = bytes_eq o.bot bot

abbrev pub is_dump : ℕ → Dump → Bool
is_dump number d = d.no == number

-- the feed of a collector, and the output of a bot that writes, as they begin
abbrev pub new_feed : Facts → Feed
new_feed f = record { bot = f.bot; round = 1; position = 0; finished = false }

abbrev pub new_out : Facts → Output
new_out f = record { bot = f.bot; sealed_bytes = 0; sealed_lines = 0; lines = [] }

-- the messages that wait in the queue of this name
abbrev pub waiting : List ℕ → Base → List Msg
waiting name s = queued name s.queues

-- what an instance holds
abbrev pub hand_of : List ℕ → ℕ → Base → Option Hand
hand_of bot instance s = find (is_hand bot instance) s.hands

-- the number of the message that an instance holds
abbrev pub held : List ℕ → ℕ → Base → Option ℕ
held bot instance s = option_map (λ h. h.message.no) (hand_of bot instance s)

-- how often the message that an instance holds was tried again
abbrev pub tries_of : List ℕ → ℕ → Base → ℕ
tries_of bot instance s = unwrap_or (option_map (λ h. h.tries) (hand_of bot instance s)) 0

-- how far a collector has come
abbrev pub position_of : List ℕ → Base → ℕ
position_of bot s = unwrap_or (option_map (λ f. f.position) (find (is_feed bot) s.feeds)) 0

abbrev pub has_finished : List ℕ → Base → Bool
has_finished bot s = passes (λ f. f.finished) (find (is_feed bot) s.feeds)

abbrev pub is_halted : List ℕ → Base → Bool
is_halted bot s = list_any (λ name. bytes_eq name bot) s.halted

-- an instance of a bot that is no collector: they are numbered from 1
abbrev pub is_instance : List Facts → List ℕ → ℕ → Bool
is_instance bots bot instance = passes (λ f. not (collects f) && nat_le 1 instance && nat_le instance f.instances) (bot_named bot bots)

-- the queue of a bot that is no collector
abbrev pub is_live_queue : List Facts → List ℕ → Bool
is_live_queue bots name = list_any (λ f. not (collects f) && bytes_eq (queue_name f.bot) name) bots

-- the lengths of the bodies in the queues that are live, together
abbrev pub live_bytes : List Facts → List Queue → ℕ
live_bytes bots queues = sum_by bytes_in (filter (λ q. is_live_queue bots q.name) queues)

abbrev pub backlog : List Facts → Base → ℕ
backlog bots s = live_bytes bots s.queues

-- a bot's marks, the oldest first
abbrev pub marks_of : List ℕ → List BotCache → List Mark
marks_of bot caches = unwrap_or (option_map (λ c. c.marks) (find (is_cache bot) caches)) []
