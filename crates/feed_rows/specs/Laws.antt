-- What holds of every report and all fields.
use Rattle.std.specs.Prelude.{◌≡◌, ℕ, List, Some}
use Rattle.std.specs.Option.{option_or}
use Rattle.std.specs.FinMap.{get}
use Rattle.base_types.specs.Lists.{AreBytes}
use Rattle.event_model.specs.Fields.{FieldMap}
use Rattle.feed_rows.specs.Reports.{content_in, with_raw, filled}

-- a field that is there stays; one that is absent is that of the others
abbrev pub DefaultsFillGaps : Type 0
DefaultsFillGaps = (others fields : FieldMap) (key : List ℕ) → get (filled others fields) key ≡ option_or (get fields key) (get others key)

-- the content that a report is given is the content that it has
abbrev pub ContentReadsBack : Type 0
ContentReadsBack = (fields : FieldMap) (content : List ℕ) → AreBytes content → content_in (with_raw fields content) ≡ Some content
