-- What the conversion of one line, and of the lines of a piece, does.
use Rattle.std.specs.Prelude.{◌≡◌, ℕ, List, [], ◌∷◌, ◌++◌, false, Option, Some, None}
use Rattle.report_cut.specs.declared.piece.CutRule.{CutRule}
use Rattle.pipeline_top.specs.Convert.{Line, empty, text, refused, conversion_from, end_from}
use Rattle.pipeline_top.specs.declared.line.Place.{Place}
use Rattle.status_texts.specs.declared.status.Status.{Status}

-- the buffer gains what the line comes to, or the line is refused
abbrev pub PutLine : Line → List ℕ → List ℕ → Option Status → Type 0
PutLine empty old new None = new ≡ old
PutLine (text t) old new None = new ≡ old ++ t ++ 10 ∷ []
PutLine (refused cause) old new (Some end) = (end ≡ cause) × (new ≡ old)
PutLine _ old new _ = ⊥

-- pieces of whole lines, some 64 KiB or one line each, and no header
abbrev pub whole_lines : CutRule
whole_lines = record { chunk_size = 65536; replicate = false }

-- what these later lines come to after lines of which one was refused, or none
abbrev pub conversion_unless : Option Status → Place → List (List ℕ) → List ℕ
conversion_unless None place later = conversion_from place later
conversion_unless (Some end) place later = []

abbrev pub end_unless : Option Status → Place → List (List ℕ) → Status
end_unless None place later = end_from place later
end_unless (Some end) place later = end
