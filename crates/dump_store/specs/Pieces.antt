-- The text of a dump in pieces.
use Rattle.std.specs.Prelude.{ℕ, List, decimal}
use Rattle.std.specs.List.{flat_map}
use Rattle.base_types.specs.JsonText.{escaped}
use Rattle.dump_store.specs.declared.export.Piece.{Piece}
use Rattle.dump_store.specs.declared.export.Piece.TheVariants as piece

-- the bytes of a piece
abbrev pub piece_text : Piece → List ℕ
piece_text (piece.Plain bytes) = bytes.now
piece_text (piece.Number n) = decimal n
piece_text (piece.Escaped text) = flat_map escaped text.now
