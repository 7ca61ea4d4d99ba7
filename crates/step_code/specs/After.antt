-- What a step leaves.
use Rattle.std.specs.Prelude.{◌+◌, ◌&&◌, ℕ, zero, suc, Bool, true, false, not, List, [], ◌∷◌, ◌++◌, length, map, filter, flat_map, drop, find, Option, Some, None, option_map, option_and_then, unwrap_or, if◌then◌else◌}
use Rattle.std.specs.List.{list_any}
use Rattle.std.specs.Str.{bytes_eq}
use Rattle.base_types.specs.declared.message.Moment.{Moment}
use Rattle.base_types.specs.declared.message.Msg.{Msg}
use Rattle.stored_types.specs.declared.message.Dump.{Dump}
use Rattle.base_types.specs.declared.message.FaultNote.{FaultNote}
use Rattle.step_code.specs.declared.base.Base.{Base}
use Rattle.stored_types.specs.declared.hand.Hand.{Hand}
use Rattle.stored_types.specs.declared.mark.Mark.{Mark}
use Rattle.step_code.specs.declared.cache.BotCache.{BotCache}
use Rattle.step_code.specs.declared.feed.Feed.{Feed}
use Rattle.step_code.specs.declared.output.Output.{Output}
use Rattle.step_code.specs.declared.rules.CacheRule.{CacheRule}
use Rattle.step_code.specs.declared.rules.Facts.{Facts}
use Rattle.step_code.specs.declared.step.Step.{Step}
use Rattle.step_code.specs.declared.step.StepKind.{StepKind}
use Rattle.step_code.specs.declared.step.StepKind.TheVariants as kind
use Rattle.base_types.specs.Lists.{changed, changed_or_added, without}
use Rattle.stored_types.specs.Queue.{put, put_all, put_first}
use Rattle.stored_types.specs.Mark.{trimmed}
use Rattle.step_code.specs.Rules.{Meaning, bot_named, collects, is_collector, passes, writes}
use Rattle.step_code.specs.State.{bots_in_force, bots_of, is_feed, is_cache, is_dump, is_instance, is_out, new_feed, new_out, waiting, hand_of}
use Rattle.base_types.specs.Name.{queue_name}
use Rattle.stored_types.specs.Queue.{is_queue}
use Rattle.stored_types.specs.Hand.{is_hand}
use Rattle.stored_types.specs.Mark.{fresh}

-- bodies and their faults as dumps, with the numbers of messages and of dumps from these on
abbrev pub numbered : ℕ → ℕ → List ℕ → Moment → List (List ℕ × FaultNote) → List Dump
numbered next dump bot moment [] = []
numbered next dump bot moment (item ∷ items) =
    record { no = dump; bot = bot; message = record { no = next; body = item.0 }; note = item.1; moment = moment } ∷ numbered (suc next) (suc dump) bot moment items

-- bodies are put on queues as new messages
abbrev pub sent : List (List ℕ × List ℕ) → Base → Base
sent sends s = record s { queues = put_all s.next_message sends s.queues; next_message = s.next_message + length sends }

-- bodies are put aside as new messages
abbrev pub dumped : List ℕ → Moment → List (List ℕ × FaultNote) → Base → Base
dumped bot moment items s = record s {
  dumps = s.dumps ++ numbered s.next_message s.next_dump bot moment items;
  next_message = s.next_message + length items;
  next_dump = s.next_dump + length items;
}

-- old marks leave, and the key is marked
abbrev pub marked : CacheRule → Moment → List ℕ → List Mark → List Mark
marked rule now key marks = trimmed rule.cache_max (fresh rule.ttl now.0 marks) ++ record { key = key; moment = now } ∷ []

-- a bot's cache after one of its messages: it is made with its first mark, and stays
abbrev pub cached : Option CacheRule → List ℕ → Moment → Option (List ℕ) → List BotCache → List BotCache
cached None bot now key caches = caches
cached (Some rule) bot now None caches = changed (is_cache bot) (λ c. record c { marks = fresh rule.ttl now.0 c.marks }) caches
cached (Some rule) bot now (Some key) caches =
    changed_or_added (is_cache bot) (λ c. record c { marks = marked rule now key c.marks }) (record { bot = bot; marks = record { key = key; moment = now } ∷ [] }) caches

-- a line at the end of a bot's output
abbrev pub written : Bool → List ℕ → List ℕ → List Output → List Output
written line bot body outs = if line then changed (is_out bot) (λ o. record o { lines = o.lines ++ body ∷ [] }) outs else outs

-- the reports of a collector: the same body for each queue of its path `_default`
abbrev pub reports : Meaning → Base → List ℕ → List ℕ → Moment → List (List ℕ × List ℕ)
reports m s bot piece now = map (λ queue. (queue, m.report (record { bundle = s.bundle; bot = bot }) piece now.0)) (defaults (bot_named bot (bots_in_force m s)))
  where
    defaults : Option Facts → List (List ℕ)
    defaults None = []
    defaults (Some f) = f.defaults

-- the rule of a bot that drops duplicates
abbrev pub cache_rule : Meaning → Base → List ℕ → Option CacheRule
cache_rule m s bot = option_and_then (λ f. f.cache) (bot_named bot (bots_in_force m s))

-- the body that an instance holds
abbrev pub body_in_hand : List ℕ → ℕ → Base → List ℕ
body_in_hand bot instance s = unwrap_or (option_map (λ h. h.message.body) (hand_of bot instance s)) []

-- a message is in an instance's hand, taken at this moment and not yet tried
abbrev pub taken : List ℕ → ℕ → Moment → Msg → Base → Base
taken bot instance now message s = record s {
  queues = changed (is_queue (queue_name bot)) (λ q. record q { messages = drop 1 q.messages }) s.queues;
  hands = s.hands ++ record { bot = bot; instance = instance; message = message; tries = 0; since = now } ∷ [];
}

abbrev pub taken_first : List ℕ → ℕ → Moment → List Msg → Base → Base
taken_first bot instance now [] s = s
taken_first bot instance now (message ∷ others) s = taken bot instance now message s

-- the message in an instance's hand is put aside as the next dump
abbrev pub put_aside : List ℕ → ℕ → ℕ → FaultNote → Moment → Base → Base
put_aside bot instance message fault now s = record s {
  dumps = s.dumps ++ record { no = s.next_dump; bot = bot; message = record { no = message; body = body_in_hand bot instance s }; note = fault; moment = now } ∷ [];
  next_dump = s.next_dump + 1;
  hands = without (is_hand bot instance) s.hands;
}

-- the bot stands among the halted ones where that is asked, and at most once
abbrev pub halted_by : Bool → List ℕ → List (List ℕ) → List (List ℕ)
halted_by halts bot halted = if halts && not (list_any (λ name. bytes_eq name bot) halted) then halted ++ bot ∷ [] else halted

-- the message of a hand stands at the front of its bot's queue, and the hand is empty
abbrev pub returned : List ℕ → ℕ → Option Hand → Base → Base
returned bot instance None s = s
returned bot instance (Some h) s = record s { queues = put_first (queue_name bot) h.message s.queues; hands = without (is_hand bot instance) s.hands }

abbrev pub given_back : List ℕ → ℕ → Base → Base
given_back bot instance s = returned bot instance (hand_of bot instance s) s

-- n, and each number below it down to 1
abbrev pub falling : ℕ → List ℕ
falling zero = []
falling (suc n) = suc n ∷ falling n

-- the instances of these bots: bot by bot, and of each bot the last instance first
abbrev pub instances_of : List Facts → List (List ℕ × ℕ)
instances_of bots = flat_map (λ f. map (λ instance. (f.bot, instance)) (falling f.instances)) (filter (λ f. not (collects f)) bots)

-- those of these instances that the bots don't have give back what they hold
abbrev pub all_given_back : List Facts → List (List ℕ × ℕ) → Base → Base
all_given_back bots [] s = s
all_given_back bots (x ∷ xs) s = all_given_back bots xs (if is_instance bots x.0 x.1 then s else given_back x.0 x.1 s)

-- the file that a bot reads
abbrev pub file_of : List Facts → List ℕ → Option (List ℕ)
file_of bots bot = option_map (λ feed. feed.file) (option_and_then (λ f. f.feed) (bot_named bot bots))

-- both give the bot the same file
abbrev pub keeps_file : List Facts → List Facts → List ℕ → Bool
keeps_file old new bot = passes (λ file. passes (bytes_eq file) (file_of old bot)) (file_of new bot)

-- a feed is read anew from its beginning
abbrev pub next_round : Feed → Feed
next_round f = record f { round = f.round + 1; position = 0; finished = false }

-- a collector whose file isn't the one that it had begins anew
abbrev pub renewed : List Facts → List Facts → Feed → Feed
renewed old new f = if is_collector new f.bot && not (keeps_file old new f.bot) then next_round f else f

-- entries at the end for the collectors that have none, and for the bots that write
abbrev pub with_feeds : List Facts → List Feed → List Feed
with_feeds bots feeds = feeds ++ map new_feed (filter (λ f. collects f && not (list_any (is_feed f.bot) feeds)) bots)

abbrev pub with_outs : List Facts → List Output → List Output
with_outs bots outs = outs ++ map new_out (filter (λ f. writes f && not (list_any (is_out f.bot) outs)) bots)

-- another bundle is in force: no bot is halted, each collector and each bot that writes has its entry, and what is in a
-- hand that is none of the new bots' goes back to the front of its queue
abbrev pub reloaded : List Facts → List Facts → List ℕ → Base → Base
reloaded old new bundle s =
    all_given_back new (instances_of old)
    (record s { bundle = bundle; bundle_no = s.bundle_no + 1; halted = []; feeds = with_feeds new (map (renewed old new) s.feeds); outs = with_outs new s.outs })

-- a dumped message is at the end of its bot's queue again, under its own number
abbrev pub redone : ℕ → Option Dump → Base → Base
redone dump None s = s
redone dump (Some d) s = record s { queues = put (queue_name d.bot) d.message s.queues; dumps = without (is_dump dump) s.dumps }

-- what each kind of step does
abbrev pub acted : Meaning → Moment → Base → StepKind → Base
acted m now s kind.Start = record s { halted = [] }
acted m now s (kind.Collect bot from upto piece) =
    sent (reports m s bot piece now) (record s { feeds = changed (is_feed bot) (λ f. record f { position = upto }) s.feeds })
acted m now s (kind.FeedEnd bot position) = record s { feeds = changed (is_feed bot) (λ f. record f { finished = true }) s.feeds }
acted m now s (kind.Take bot instance message) = taken_first bot instance now (waiting (queue_name bot) s) s
acted m now s (kind.Done bot instance message bundle sends dumps key line) =
    dumped bot now dumps (sent sends (record s {
      caches = cached (cache_rule m s bot) bot now key s.caches;
      outs = written line bot (body_in_hand bot instance s) s.outs;
      hands = without (is_hand bot instance) s.hands;
    }))
acted m now s (kind.Retry bot instance message bundle fault) = record s { hands = changed (is_hand bot instance) (λ h. record h { tries = h.tries + 1 }) s.hands }
acted m now s (kind.Fail bot instance message bundle fault queues halts) =
    sent (map (λ queue. (queue, body_in_hand bot instance s)) queues)
    (put_aside bot instance message fault now (record s { halted = halted_by halts bot s.halted }))
acted m now s (kind.Reload bundle) = reloaded (bots_in_force m s) (bots_of m bundle) bundle s
acted m now s (kind.Redo dump) = redone dump (find (is_dump dump) s.dumps) s
acted m now s (kind.Round bot) = record s { feeds = changed (is_feed bot) next_round s.feeds }

-- a step is counted, and its moment is the latest
abbrev pub after : Meaning → Base → Step → Base
after m s step = acted m step.moment (record s { steps = s.steps + 1; latest = step.moment }) step.what
