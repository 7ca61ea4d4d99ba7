-- What a collector reports of a piece of its feed.
use Rattle.std.specs.Prelude.{ℕ, ◌+◌, List, codes, Option, Some, None}
use Rattle.std.specs.FinMap.{empty, insert}
use Rattle.scalar_text.specs.Time.{time_text}
use Rattle.field_types.specs.declared.value.Value.TheVariants.{Text}
use Rattle.event_model.specs.Fields.{FieldMap}
use Rattle.event_model.specs.declared.message.Kind.TheVariants.{Report}
use Rattle.event_text.specs.Text.{message_text}
use Rattle.feed_rows.specs.Reports.{with_raw}

-- from 0001-01-01T00:00:00 UTC to 1970-01-01T00:00:00 UTC, in seconds
abbrev pub seconds_to_1970 : ℕ
seconds_to_1970 = 62135596800

-- the text of a moment
abbrev pub moment_text : ℕ → List ℕ
moment_text now = time_text (seconds_to_1970 + now)

-- these fields, and `feed.provider` where the collector has one
abbrev pub with_provider : Option (List ℕ) → FieldMap → FieldMap
with_provider None fields = fields
with_provider (Some provider) fields = insert fields (codes "feed.provider") (Text provider)

-- the moment at which a piece was collected, and the piece in base64
abbrev pub piece_fields : List ℕ → ℕ → FieldMap
piece_fields piece now = with_raw (insert empty (codes "time.observation") (Text (moment_text now))) piece

-- the fields of a report: these, and the name and the provider of the feed
abbrev pub report_fields : List ℕ → Option (List ℕ) → List ℕ → ℕ → FieldMap
report_fields name provider piece now = insert (with_provider provider (piece_fields piece now)) (codes "feed.name") (Text name)

-- the body of the report of a piece that was collected at a moment
unfoldable pub report_text : List ℕ → Option (List ℕ) → List ℕ → ℕ → List ℕ
report_text name provider piece now = message_text (record { kind = Report; fields = report_fields name provider piece now })
