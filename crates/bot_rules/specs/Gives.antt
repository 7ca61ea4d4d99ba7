-- What a bot makes of a message, module by module.
use Rattle.std.specs.Prelude.{ℕ, Bool, true, false, ◌&&◌, List, [], map, is_some, Option, Some, None, Result, Ok, Err, if◌then◌else◌}
use Rattle.std.specs.List.{flat_map, list_all}
use Rattle.base_types.specs.declared.message.FaultNote.{FaultNote}
use Rattle.event_model.specs.Fields.{FieldMap}
use Rattle.event_model.specs.declared.message.Kind.{Kind}
use Rattle.event_model.specs.declared.message.Kind.TheVariants.{Report, Event}
use Rattle.event_model.specs.declared.message.Message.{Message}
use Rattle.event_text.specs.Exact.{strict}
use Rattle.event_text.specs.Text.{message_text}
use Rattle.feed_rows.specs.Notes.{kind_note, sieve_note}
use Rattle.feed_rows.specs.declared.parsed.Bad.{Bad}
use Rattle.feed_rows.specs.declared.parsed.Parsed.{Parsed}
use Rattle.feed_csv.specs.Rows.{csv_parsed}
use Rattle.feed_json.specs.Rows.{json_parsed}
use Rattle.expert_rules.specs.Chosen.{chosen}
use Rattle.runtime_config.specs.declared.plan.Route.{Route}
use Rattle.sieve_eval.specs.Verdicts.{verdict}
use Rattle.sieve_eval.specs.declared.verdict.Fate.{Fate}
use Rattle.sieve_eval.specs.declared.verdict.Fate.TheVariants as fate
use Rattle.sieve_eval.specs.declared.verdict.Verdict.{Verdict}
use Rattle.step_code.specs.declared.rules.Given.{Given}
use Rattle.step_code.specs.declared.rules.Given.TheVariants as given
use Rattle.step_code.specs.declared.rules.Role.{Role}
use Rattle.step_code.specs.declared.rules.Role.TheVariants as role
use Rattle.bot_rules.specs.Facts.{queues_on}
use Rattle.bot_rules.specs.Jobs.{changed, role_for}
use Rattle.bot_rules.specs.declared.job.Job.{Job}
use Rattle.bot_rules.specs.declared.job.Job.TheVariants as job

-- ---- bodies

-- the text of a message
abbrev pub body_of : Kind → FieldMap → List ℕ
body_of kind fields = message_text (record { kind = kind; fields = fields })

-- a body that is the text of a message
abbrev pub is_lawful : List ℕ → Bool
is_lawful body = is_some (strict body)

-- a body goes to each of the queues, in their order
abbrev pub to_each : List (List ℕ) → List ℕ → List (List ℕ × List ℕ)
to_each queues body = map (λ queue. (queue, body)) queues

-- event by event, each to each of the queues
abbrev pub to_all : List (List ℕ) → List FieldMap → List (List ℕ × List ℕ)
to_all queues events = flat_map (λ event. to_each queues (body_of Event event)) events

-- a bad part of a report, as a report of its own, with its note
abbrev pub dump_of : Bad → List ℕ × FaultNote
dump_of bad = (body_of Report bad.report, bad.note)

-- ---- module by module

-- a parser sends the events of a report, and puts its bad parts aside; or the report as a whole has a fault
abbrev pub parser_gives : List (List ℕ) → Result Parsed FaultNote → Given
parser_gives queues (Ok all) = given.Pass (to_all queues all.events) (map dump_of all.bad) None false
parser_gives queues (Err note) = given.Fault note

-- an expert that makes one event of one sends that
abbrev pub expert_gives : List (List ℕ) → FieldMap → Given
expert_gives queues fields = given.Pass (to_each queues (body_of Event fields)) [] None false

-- a deduplicator sends the event as it came, with the fields by which it is told from its duplicates as the key
abbrev pub dedup_gives : List (List ℕ) → (key fields : FieldMap) → Given
dedup_gives queues key fields = given.Pass (to_each queues (body_of Event fields)) [] (Some (body_of Event key)) false

-- path by path, a body goes to each queue of the path
abbrev pub to_paths : List Route → List (List ℕ) → List ℕ → List (List ℕ × List ℕ)
to_paths routes paths body = flat_map (λ path. to_each (queues_on path routes) body) paths

-- an event that a sieve has made goes on these paths, or nowhere
abbrev pub fate_gives : List Route → FieldMap → Fate → Given
fate_gives routes fields (fate.Forward paths) = given.Pass (to_paths routes paths (body_of Event fields)) [] None false
fate_gives routes fields fate.Dropped = given.Pass [] [] None false

-- a sieve sends what it makes of the event; or a value that it copies has no form that the field takes
abbrev pub sieve_gives : List Route → Result Verdict ℕ → Given
sieve_gives routes (Ok v) = fate_gives routes v.fields v.fate
sieve_gives routes (Err at) = given.Fault (sieve_note at)

-- What is made of the fields of a message of the right kind that was taken at a moment. A sieve alone looks at the moment.
unfoldable pub job_gives : Job → List (List ℕ) → (since : ℕ) → FieldMap → Given
job_gives (job.Csv rule) queues since fields = parser_gives queues (csv_parsed rule fields)
job_gives (job.Json rule) queues since fields = parser_gives queues (json_parsed rule fields)
job_gives (job.Sieve work) queues since fields = sieve_gives work.routes (verdict work.sieve fields since)
job_gives (job.Dedup rule) queues since fields = dedup_gives queues (chosen rule fields) fields
job_gives (job.Change change) queues since fields = expert_gives queues (changed change fields)
job_gives job.Output queues since fields = given.Pass [] [] None true

-- ---- a message

-- parsers take reports, experts events, and outputs both
abbrev pub takes : Role → Kind → Bool
takes role.Collector kind = false
takes role.Parser Report = true
takes role.Parser Event = false
takes role.Expert Report = false
takes role.Expert Event = true
takes role.Output kind = true

-- each body that is sent or put aside is a message's
abbrev pub are_lawful : Given → Bool
are_lawful (given.Pass sends dumps key line) = list_all (λ send. is_lawful send.1) sends && list_all (λ dump. is_lawful dump.0) dumps
are_lawful (given.Fault note) = true

-- What is made of a message is messages: values are canonical, and the texts of a plan and of a message are UTF-8. It is
-- tested here as long as no law says it of all plans and messages.
abbrev pub of_messages : Given → Given
of_messages made = if are_lawful made then made else given.Fault kind_note

-- a message of a kind that the bot doesn't take is a fault, and so is a body that is no message's
abbrev pub message_gives : Job → List (List ℕ) → (since : ℕ) → Option Message → Given
message_gives work queues since None = given.Fault kind_note
message_gives work queues since (Some m) = if takes (role_for work) m.kind then of_messages (job_gives work queues since m.fields) else given.Fault kind_note

-- what is made of a body
unfoldable pub body_gives : Job → List (List ℕ) → (since : ℕ) → List ℕ → Given
body_gives work queues since body = message_gives work queues since (strict body)
