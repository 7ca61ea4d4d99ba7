-- The text of dumps, for other programs.
use Rattle.std.specs.Prelude.{ℕ, List, [], ◌∷◌, codes, decimal}
use Rattle.std.specs.List.{flat_map}
use Rattle.stored_types.specs.declared.message.Dump.{Dump}
use Rattle.base_types.specs.JsonText.{quoted}

-- a dump as a line of JSON (RFC 8259), in its parts: the body of its message is JSON already and stands as it is
abbrev pub dump_parts : Dump → List (List ℕ)
dump_parts d =
    codes "{\"bot\":" ∷ quoted d.bot
    ∷ codes ",\"code\":" ∷ decimal d.note.code
    ∷ codes ",\"message\":" ∷ d.message.body
    ∷ codes ",\"moment\":" ∷ decimal d.moment.0
    ∷ codes ",\"no\":" ∷ decimal d.no
    ∷ codes ",\"note\":" ∷ quoted d.note.text
    ∷ codes "}\n" ∷ []

abbrev pub dump_line : Dump → List ℕ
dump_line d = flat_map (λ part. part) (dump_parts d)

-- a line for each dump
abbrev pub export_text : List Dump → List ℕ
export_text dumps = flat_map dump_line dumps
