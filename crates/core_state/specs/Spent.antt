-- What a step brings, by its kind.
use Rattle.std.specs.Prelude.{◌+◌, ◌&&◌, ◌++◌, ℕ, true, not, List, [], length, map, filter, min, Option, Some, None, option_map, if◌then◌else◌}
use Rattle.std.specs.List.{list_any}
use Rattle.step_code.specs.declared.base.Base.{Base}
use Rattle.step_code.specs.declared.output.Output.{Output}
use Rattle.base_types.specs.declared.message.Moment.{Moment}
use Rattle.step_code.specs.declared.step.StepKind.{StepKind}
use Rattle.step_code.specs.declared.step.StepKind.TheVariants as kind
use Rattle.step_code.specs.After.{body_in_hand, reports, written}
use Rattle.base_types.specs.Lists.{changed}
use Rattle.step_code.specs.declared.rules.Facts.{Facts}
use Rattle.step_code.specs.Rules.{Meaning, writes}
use Rattle.step_code.specs.State.{bots_of, is_out, new_out}
use Rattle.base_types.specs.Number.{last_u64}
use Rattle.core_state.specs.declared.outputs.Written.{Written}
use Rattle.core_state.specs.Outputs.{is_written_by}

-- how many messages a step makes
abbrev pub messages_by : Meaning → Base → Moment → StepKind → ℕ
messages_by m s now kind.Start = 0
messages_by m s now (kind.Collect bot from upto piece) = length (reports m s bot piece now)
messages_by m s now (kind.FeedEnd bot position) = 0
messages_by m s now (kind.Take bot instance message) = 0
messages_by m s now (kind.Done bot instance message bundle sends dumps key line) = length sends + length dumps
messages_by m s now (kind.Retry bot instance message bundle fault) = 0
messages_by m s now (kind.Fail bot instance message bundle fault queues halts) = length queues
messages_by m s now (kind.Reload bundle) = 0
messages_by m s now (kind.Redo dump) = 0
messages_by m s now (kind.Round bot) = 0

-- how many dumps it makes
abbrev pub dumps_by : StepKind → ℕ
dumps_by kind.Start = 0
dumps_by (kind.Collect bot from upto piece) = 0
dumps_by (kind.FeedEnd bot position) = 0
dumps_by (kind.Take bot instance message) = 0
dumps_by (kind.Done bot instance message bundle sends dumps key line) = length dumps
dumps_by (kind.Retry bot instance message bundle fault) = 0
dumps_by (kind.Fail bot instance message bundle fault queues halts) = 1
dumps_by (kind.Reload bundle) = 0
dumps_by (kind.Redo dump) = 0
dumps_by (kind.Round bot) = 0

-- how many bundles it puts in force
abbrev pub bundles_by : StepKind → ℕ
bundles_by kind.Start = 0
bundles_by (kind.Collect bot from upto piece) = 0
bundles_by (kind.FeedEnd bot position) = 0
bundles_by (kind.Take bot instance message) = 0
bundles_by (kind.Done bot instance message bundle sends dumps key line) = 0
bundles_by (kind.Retry bot instance message bundle fault) = 0
bundles_by (kind.Fail bot instance message bundle fault queues halts) = 0
bundles_by (kind.Reload bundle) = 1
bundles_by (kind.Redo dump) = 0
bundles_by (kind.Round bot) = 0

-- the bots of the bundle that it puts in force
abbrev pub bots_coming : Meaning → StepKind → List Facts
bots_coming m kind.Start = []
bots_coming m (kind.Collect bot from upto piece) = []
bots_coming m (kind.FeedEnd bot position) = []
bots_coming m (kind.Take bot instance message) = []
bots_coming m (kind.Done bot instance message bundle sends dumps key line) = []
bots_coming m (kind.Retry bot instance message bundle fault) = []
bots_coming m (kind.Fail bot instance message bundle fault queues halts) = []
bots_coming m (kind.Reload bundle) = bots_of m bundle
bots_coming m (kind.Redo dump) = []
bots_coming m (kind.Round bot) = []

-- of these bots, those that write and have no output
abbrev pub new_writers : List Facts → List Output → List Facts
new_writers bots outs = filter (λ f. writes f && not (list_any (is_out f.bot) outs)) bots

-- the outputs behind a step that writes this line and puts a bundle of these bots in force
abbrev pub outs_by : List Facts → Option (List ℕ × List ℕ) → List Output → List Output
outs_by coming None outs = outs ++ map new_out (new_writers coming outs)
outs_by coming (Some line) outs = written true line.0 line.1 outs

-- the lengths of outputs, of which one may get a line of so many bytes
abbrev pub with_line : Option (List ℕ × ℕ) → List Written → List Written
with_line None ws = ws
with_line (Some line) ws = changed (is_written_by line.0) (λ w. record w { length = min (w.length + (line.1 + 1)) last_u64 }) ws

-- the bot that writes a line, and its body
abbrev pub line_of : Base → StepKind → Option (List ℕ × List ℕ)
line_of s kind.Start = None
line_of s (kind.Collect bot from upto piece) = None
line_of s (kind.FeedEnd bot position) = None
line_of s (kind.Take bot instance message) = None
line_of s (kind.Done bot instance message bundle sends dumps key line) = if line then Some (bot, body_in_hand bot instance s) else None
line_of s (kind.Retry bot instance message bundle fault) = None
line_of s (kind.Fail bot instance message bundle fault queues halts) = None
line_of s (kind.Reload bundle) = None
line_of s (kind.Redo dump) = None
line_of s (kind.Round bot) = None

-- the bot that writes a line, and the length of its body
abbrev pub line_by : Base → StepKind → Option (List ℕ × ℕ)
line_by s what = option_map (λ line. (line.0, length line.1)) (line_of s what)
