-- What `convert` writes, and how it ends.
use Rattle.std.specs.Prelude.{◌≡◌, ℕ, ◌+◌, List, [], ◌∷◌, ◌++◌, ◌==◌, nat_lt, length, take, codes, Result, Ok, Err, if◌then◌else◌}
use Rattle.base_types.specs.Lines.{lines_of}
use Rattle.edge_traits.specs.Sink.{SinkView, Took}
use Rattle.event_model.specs.declared.fault.ReadFault.{ReadFault}
use Rattle.event_model.specs.declared.message.Message.{Message}
use Rattle.event_text.specs.Lenient.{lenient}
use Rattle.event_text.specs.Text.{message_text}
use Rattle.report_cut.specs.Line.{without_newline}
use Rattle.report_cut.specs.Pieces.{longest_line}
use Rattle.pipeline_top.specs.declared.line.Place.{Place}
use Rattle.status_texts.specs.declared.status.Status.{Status}
use Rattle.step_code.specs.Content.{longest_feed}
use Rattle.status_texts.specs.declared.status.Status.TheVariants as status

-- the bot for which the feed of `convert` counts
abbrev pub convert_bot : List ℕ
convert_bot = codes "convert"

-- what one line comes to
pub data Line : Type 0 where
  empty : Line
  text : List ℕ → Line
  refused : Status → Line

abbrev pub line_of_reading : ℕ → Result Message ReadFault → Line
line_of_reading number (Ok message) = text (message_text message)
line_of_reading number (Err _) = refused (status.BadLine number)

-- a line without its newline is empty, or has the text of its message, or is refused
unfoldable pub read_line : ℕ → List ℕ → Line
read_line number line = if length line == 0 then empty else line_of_reading number (lenient line)

-- a line that isn't too long is refused where it ends too far behind
unfoldable pub short_line : Place → List ℕ → Line
short_line place line =
    if nat_lt longest_feed (place.at + length line) then refused (status.LongFeed convert_bot)
    else read_line place.number (without_newline line)

-- a line with its newline, by its number and the feed offset where it begins
unfoldable pub line_of : Place → List ℕ → Line
line_of place line = if nat_lt longest_line (length line) then refused (status.LongLine convert_bot place.at) else short_line place line

-- where the feed's first line stands
abbrev pub first_place : Place
first_place = record { number = 1; at = 0 }

-- where the line behind this one stands
abbrev pub behind_line : Place → List ℕ → Place
behind_line place line = record { number = place.number + 1; at = place.at + length line }

-- ---- what is written

abbrev pub put_line : Line → List ℕ → List ℕ
put_line empty later = later
put_line (text t) later = t ++ 10 ∷ later
put_line (refused end) later = []

-- the text of each line that isn't empty, with a newline, up to the first that is refused
abbrev pub conversion_from : Place → List (List ℕ) → List ℕ
conversion_from place [] = []
conversion_from place (line ∷ later) = put_line (line_of place line) (conversion_from (behind_line place line) later)

-- the conversion of a feed
abbrev pub conversion : List ℕ → List ℕ
conversion feed = conversion_from first_place (lines_of feed)

-- ---- how it ends

abbrev pub end_at : Line → Status → Status
end_at empty later = later
end_at (text t) later = later
end_at (refused end) later = end

-- the cause of the first of these lines that is refused
abbrev pub end_from : Place → List (List ℕ) → Status
end_from place [] = status.Done
end_from place (line ∷ later) = end_at (line_of place line) (end_from (behind_line place line) later)

-- how the conversion of a feed ends: at the first refused line, or at the feed's end
abbrev pub end_of : List ℕ → Status
end_of feed = end_from first_place (lines_of feed)

-- ---- the contract's words

-- an end that the lines of a feed may cause
abbrev pub IsLineEnd : Status → Type 0
IsLineEnd status.Done = Unit {0}
IsLineEnd (status.LongLine bot at) = bot ≡ convert_bot
IsLineEnd (status.LongFeed bot) = bot ≡ convert_bot
IsLineEnd (status.BadLine number) = Unit {0}
IsLineEnd _ = ⊥

-- an end that no feed causes: it has a cause of its own
abbrev pub IsOutside : Status → Type 0
IsOutside status.Memory = Unit {0}
IsOutside (status.Feed name why) = Unit {0}
IsOutside status.Sink = Unit {0}
IsOutside _ = ⊥

-- what a sink has got at this end, of what was to be written: all of it, nothing, or a front
abbrev pub Wrote : Status → SinkView → SinkView → List ℕ → Type 0
Wrote status.Done old new whole = Took old new whole
Wrote (status.LongLine bot at) old new whole = Took old new whole
Wrote (status.LongFeed bot) old new whole = Took old new whole
Wrote (status.BadLine number) old new whole = Took old new whole
Wrote status.Words old new whole = Took old new []
Wrote _ old new whole = (n : ℕ) × Took old new (take n whole)
