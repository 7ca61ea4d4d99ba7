-- The bytes of steps and of states.
use Rattle.std.specs.Prelude.{◌≡◌, ◌==◌, ℕ, Bool, true, false, List, [], ◌++◌, Option}
use Rattle.base_types.specs.declared.message.FaultNote.{FaultNote}
use Rattle.stored_types.specs.Code.{blob, byte, flag, list, moment, name, number, optional, IsBlob, IsBot, IsByte, IsList, IsMoment, IsNumber, IsOptional}
use Rattle.stored_types.specs.Hand.{hand, IsHand}
use Rattle.stored_types.specs.Mark.{mark, IsMark}
use Rattle.stored_types.specs.Message.{dump, note, IsDump, IsNote}
use Rattle.base_types.specs.Name.{IsQueueName}
use Rattle.stored_types.specs.Queue.{queue, IsQueue}
use Rattle.step_code.specs.declared.base.Base.{Base}
use Rattle.step_code.specs.declared.cache.BotCache.{BotCache}
use Rattle.step_code.specs.declared.feed.Feed.{Feed}
use Rattle.step_code.specs.declared.output.Output.{Output}
use Rattle.step_code.specs.declared.step.Step.{Step}
use Rattle.step_code.specs.declared.step.StepKind.{StepKind}
use Rattle.step_code.specs.declared.step.StepKind.TheVariants as kind

-- a body for a queue
abbrev pub send : List ℕ × List ℕ → List ℕ
send s = name s.0 ++ blob s.1

abbrev pub IsSend : List ℕ × List ℕ → Type 0
IsSend s = IsQueueName s.0 × IsBlob s.1

-- a body and why it could not be processed
abbrev pub bad_part : List ℕ × FaultNote → List ℕ
bad_part d = blob d.0 ++ note d.1

abbrev pub IsBadPart : List ℕ × FaultNote → Type 0
IsBadPart d = IsBlob d.0 × IsNote d.1

-- the byte of a kind of step
abbrev pub kind_byte : StepKind → ℕ
kind_byte kind.Start = 1
kind_byte (kind.Collect bot from upto piece) = 2
kind_byte (kind.FeedEnd bot position) = 3
kind_byte (kind.Take bot instance message) = 4
kind_byte (kind.Done bot instance message bundle sends dumps key line) = 5
kind_byte (kind.Retry bot instance message bundle fault) = 6
kind_byte (kind.Fail bot instance message bundle fault queues halts) = 7
kind_byte (kind.Reload bundle) = 8
kind_byte (kind.Redo dump) = 9
kind_byte (kind.Round bot) = 10

abbrev pub kind_fields : StepKind → List ℕ
kind_fields kind.Start = []
kind_fields (kind.Collect bot from upto piece) = name bot ++ number from ++ number upto ++ blob piece
kind_fields (kind.FeedEnd bot position) = name bot ++ number position
kind_fields (kind.Take bot instance message) = name bot ++ byte instance ++ number message
kind_fields (kind.Done bot instance message bundle sends dumps key line) =
    name bot ++ byte instance ++ number message ++ number bundle ++ list send sends ++ list bad_part dumps ++ optional key ++ flag line
kind_fields (kind.Retry bot instance message bundle fault) = name bot ++ byte instance ++ number message ++ number bundle ++ note fault
kind_fields (kind.Fail bot instance message bundle fault queues halts) =
    name bot ++ byte instance ++ number message ++ number bundle ++ note fault ++ list name queues ++ flag halts
kind_fields (kind.Reload bundle) = blob bundle
kind_fields (kind.Redo dump) = number dump
kind_fields (kind.Round bot) = name bot

-- the code of a step: its kind, its moment, and the fields of its kind
abbrev pub code_of_step : Step → List ℕ
code_of_step step = byte (kind_byte step.what) ++ moment step.moment ++ kind_fields step.what

abbrev pub cache : BotCache → List ℕ
cache c = name c.bot ++ list mark c.marks

abbrev pub output : Output → List ℕ
output o = name o.bot ++ number o.sealed_bytes ++ number o.sealed_lines ++ list blob o.lines

abbrev pub feed : Feed → List ℕ
feed f = name f.bot ++ number f.round ++ number f.position ++ flag f.finished

-- states have two formats; the first, which alone is in use, has no number of discarded messages
abbrev pub first_format : ℕ
first_format = 1

-- what stands before the lists in the first format
abbrev pub heads : Base → List ℕ
heads b = number b.steps ++ number b.next_message ++ number b.next_dump ++ moment b.latest ++ number b.bundle_no ++ blob b.bundle

-- and in the other
abbrev pub later_heads : Base → List ℕ
later_heads b = number b.steps ++ number b.next_message ++ number b.next_dump ++ number b.discarded ++ moment b.latest ++ number b.bundle_no ++ blob b.bundle

abbrev pub heads_in : Bool → Base → List ℕ
heads_in true b = heads b
heads_in false b = later_heads b

-- the code of a state in a format
abbrev pub code_of_base : ℕ → Base → List ℕ
code_of_base format b =
    heads_in (format == first_format) b ++ list queue b.queues ++ list hand b.hands ++ list cache b.caches ++ list dump b.dumps ++ list output b.outs ++ list feed b.feeds
    ++ list name b.halted

-- What can be written so that it is read again.

pub record IsDone (bot : List ℕ) (instance message bundle : ℕ) (sends : List (List ℕ × List ℕ)) (dumps : List (List ℕ × FaultNote)) (key : Option (List ℕ)) : Type 0 where
  pub bot_name : IsBot bot
  pub instance_byte : IsByte instance
  pub message_number : IsNumber message
  pub bundle_number : IsNumber bundle
  pub send_list : IsList IsSend sends
  pub dump_list : IsList IsBadPart dumps
  pub key_blob : IsOptional key

-- what a step carries of a message that could not be processed
pub record IsTried (bot : List ℕ) (instance message bundle : ℕ) (fault : FaultNote) : Type 0 where
  pub bot_name : IsBot bot
  pub instance_byte : IsByte instance
  pub message_number : IsNumber message
  pub bundle_number : IsNumber bundle
  pub fault_note : IsNote fault

abbrev pub IsWritableKind : StepKind → Type 0
IsWritableKind kind.Start = Unit {0}
IsWritableKind (kind.Collect bot from upto piece) = IsBot bot × IsNumber from × IsNumber upto × IsBlob piece
IsWritableKind (kind.FeedEnd bot position) = IsBot bot × IsNumber position
IsWritableKind (kind.Take bot instance message) = IsBot bot × IsByte instance × IsNumber message
IsWritableKind (kind.Done bot instance message bundle sends dumps key line) = IsDone bot instance message bundle sends dumps key
IsWritableKind (kind.Retry bot instance message bundle fault) = IsTried bot instance message bundle fault
IsWritableKind (kind.Fail bot instance message bundle fault queues halts) = IsTried bot instance message bundle fault × IsList IsQueueName queues
IsWritableKind (kind.Reload bundle) = IsBlob bundle
IsWritableKind (kind.Redo dump) = IsNumber dump
IsWritableKind (kind.Round bot) = IsBot bot

-- a step that has a code
pub record IsWritable (step : Step) : Type 0 where
  pub moment : IsMoment step.moment
  pub what : IsWritableKind step.what

pub record IsCache (c : BotCache) : Type 0 where
  pub bot : IsBot c.bot
  pub marks : IsList IsMark c.marks

pub record IsOutput (o : Output) : Type 0 where
  pub bot : IsBot o.bot
  pub sealed_bytes : IsNumber o.sealed_bytes
  pub sealed_lines : IsNumber o.sealed_lines
  pub lines : IsList IsBlob o.lines

pub record IsFeed (f : Feed) : Type 0 where
  pub bot : IsBot f.bot
  pub round : IsNumber f.round
  pub position : IsNumber f.position

-- the number of discarded messages: none in the first format
abbrev pub IsDiscarded : Bool → ℕ → Type 0
IsDiscarded true n = n ≡ 0
IsDiscarded false n = IsNumber n

-- a state that has a code in a format
pub record IsWritableBase (format : ℕ) (b : Base) : Type 0 where
  pub steps : IsNumber b.steps
  pub next_message : IsNumber b.next_message
  pub next_dump : IsNumber b.next_dump
  pub discarded : IsDiscarded (format == first_format) b.discarded
  pub latest : IsMoment b.latest
  pub bundle_no : IsNumber b.bundle_no
  pub bundle : IsBlob b.bundle
  pub queues : IsList IsQueue b.queues
  pub hands : IsList IsHand b.hands
  pub caches : IsList IsCache b.caches
  pub dumps : IsList IsDump b.dumps
  pub outs : IsList IsOutput b.outs
  pub feeds : IsList IsFeed b.feeds
  pub halted : IsList IsBot b.halted
