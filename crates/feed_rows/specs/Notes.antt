-- The note of each cause for which a message or a part of it isn't processed: a code, and a text.
use Rattle.std.specs.Prelude.{ℕ, List, ◌++◌, codes, decimal}
use Rattle.std.specs.List.{join_with_byte}
use Rattle.base_types.specs.declared.message.FaultNote.{FaultNote}
use Rattle.feed_rows.specs.declared.notes.RowFault.{RowFault}
use Rattle.feed_rows.specs.declared.notes.RowFault.TheVariants.{Utf8, Quotes, Records}

-- a message of the wrong kind
abbrev pub kind_note : FaultNote
kind_note = record { code = 1; text = codes "kind" }

-- no JSON text, no object or array, or a report
abbrev pub json_note : FaultNote
json_note = record { code = 2; text = codes "json" }

abbrev pub row_word : RowFault → List ℕ
row_word Utf8 = codes "row: utf-8"
row_word Quotes = codes "row: quotes"
row_word Records = codes "row: records"

-- a line that is no row
abbrev pub row_note : RowFault → FaultNote
row_note fault = record { code = 3; text = row_word fault }

-- the byte between the names of a column
abbrev pub bar : ℕ
bar = 124

-- a cell of the column with this number, from 1, that no name of the column takes
abbrev pub column_note : ℕ → List (List ℕ) → FaultNote
column_note number names = record { code = 4; text = codes "column " ++ decimal number ++ codes ": " ++ join_with_byte bar names }

-- a field that doesn't take its value, or a name that is no field
abbrev pub key_note : List ℕ → FaultNote
key_note key = record { code = 4; text = codes "key " ++ key }

-- a value that a sieve sets at this offset and its field doesn't take
abbrev pub sieve_note : ℕ → FaultNote
sieve_note at = record { code = 5; text = codes "sieve " ++ decimal at }

-- a report without content
abbrev pub raw_note : FaultNote
raw_note = record { code = 6; text = codes "raw" }
