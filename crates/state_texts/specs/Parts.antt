-- What a line is put together from.
use Rattle.std.specs.Prelude.{ℕ, List, decimal}
use Rattle.state_texts.specs.declared.line.Part.{Part}
use Rattle.state_texts.specs.declared.line.Part.TheVariants as part

-- the bytes of a part
abbrev pub part_text : Part → List ℕ
part_text (part.Word bytes) = bytes.now
part_text (part.Number n) = decimal n
