-- What the program prints of a state.
use Rattle.std.specs.Prelude.{ℕ, suc, ◌+◌, ◌-◌, Bool, List, [], ◌∷◌, ◌++◌, length, sum_by, codes, decimal, if◌then◌else◌}
use Rattle.std.specs.List.{flat_map}
use Rattle.stored_types.specs.declared.hand.Hand.{Hand}
use Rattle.stored_types.specs.declared.queue.Queue.{Queue}
use Rattle.queue_broker.specs.Broker.{total}
use Rattle.step_code.specs.declared.base.Base.{Base}
use Rattle.step_code.specs.declared.feed.Feed.{Feed}
use Rattle.step_code.specs.declared.output.Output.{Output}

-- a word, and others each behind a blank, with a newline at the end
abbrev pub line : List ℕ → List (List ℕ) → List ℕ
line word others = word ++ flat_map (λ other. 32 ∷ other) others ++ 10 ∷ []

-- a word and a number
abbrev pub count_line : List ℕ → ℕ → List ℕ
count_line word n = line word (decimal n ∷ [])

-- ---- the summary

-- the messages that were made
abbrev pub messages_in : Base → ℕ
messages_in s = s.next_message - 1

-- the messages that were made and are in no queue, in no hand and in no dump
abbrev pub processed_in : Base → ℕ
processed_in s = messages_in s - total s.queues - length s.hands - length s.dumps

-- the lines of an output: those that are sealed in its file, and those behind them
abbrev pub lines_of : Output → ℕ
lines_of o = o.sealed_lines + length o.lines

abbrev pub summary : Base → List ℕ
summary s =
    count_line (codes "steps") s.steps
    ++ count_line (codes "bundle") s.bundle_no
    ++ count_line (codes "messages") (messages_in s)
    ++ count_line (codes "waiting") (total s.queues)
    ++ count_line (codes "in hand") (length s.hands)
    ++ count_line (codes "dumped") (length s.dumps)
    ++ count_line (codes "processed") (processed_in s)
    ++ count_line (codes "lines") (sum_by lines_of s.outs)

-- ---- the whole state

-- a queue with the number of messages that wait in it
abbrev pub queue_line : Queue → List ℕ
queue_line q = line (codes "queue") (q.name ∷ decimal (length q.messages) ∷ [])

-- a full hand with the number of its message
abbrev pub hand_line : Hand → List ℕ
hand_line h = line (codes "hand") (h.bot ∷ decimal h.instance ∷ decimal h.message.no ∷ [])

abbrev pub finished_word : Bool → List ℕ
finished_word finished = if finished then codes "finished" else codes "going"

-- a collector with the round and the position of its feed
abbrev pub feed_line : Feed → List ℕ
feed_line f = line (codes "feed") (f.bot ∷ decimal f.round ∷ decimal f.position ∷ finished_word f.finished ∷ [])

-- an output with its slot and the number of its lines
abbrev pub out_line : ℕ → Output → List ℕ
out_line slot o = line (codes "out") (o.bot ∷ decimal slot ∷ decimal (lines_of o) ∷ [])

-- the outputs, of which the first has this slot
abbrev pub out_lines : ℕ → List Output → List ℕ
out_lines slot [] = []
out_lines slot (o ∷ outs) = out_line slot o ++ out_lines (suc slot) outs

abbrev pub halted_line : List ℕ → List ℕ
halted_line bot = line (codes "halted") (bot ∷ [])

-- the summary, and a line for each queue, full hand, collector, output and halted bot, in the state's order
abbrev pub state_text : Base → List ℕ
state_text s =
    summary s ++ flat_map queue_line s.queues ++ flat_map hand_line s.hands ++ flat_map feed_line s.feeds ++ out_lines 0 s.outs
    ++ flat_map halted_line s.halted
