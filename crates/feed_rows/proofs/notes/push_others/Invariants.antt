use Rattle.std.proofs.Common.{◌≡◌, ◌∷◌, take, string_bytes}
use Rattle.std.specs.List.{join_with_byte}
use Rattle.feed_rows.specs.Notes.{bar}
use Rattle.feed_rows.proofs.notes.push_others.Given as goal

abbrev pub invariant-names : goal.invariant-names
invariant-names l = string_bytes l.text ≡ join_with_byte bar (l.fn.first ∷ take l.name-index l.others)
