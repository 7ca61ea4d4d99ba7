-- What is put together of a message.
use Rattle.event_json.specs.Direct.{Written}
use Rattle.event_json.specs.declared.line.Pairs.{Pairs}
use Rattle.event_json.specs.declared.line.Pairs.TheVariants.{Text, Whole}

-- its text, or the message itself
abbrev pub line_written : Pairs → Written
line_written (Text line) = line
line_written (Whole line) = line
