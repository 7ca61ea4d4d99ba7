-- What stands between tokens.
use Rattle.std.specs.Prelude.{◌≡◌, ◌⊎◌, ℕ, Bool, true, false, ◌||◌, nat_eq, List, [], ◌∷◌, ◌++◌, codes}
use Rattle.std.specs.List.{list_all, starts_with}
use Rattle.sieve_tokens.specs.Bytes.{begins, is_blank_byte, is_in_line}

-- `*/` stands somewhere in these bytes
abbrev pub has_end : List ℕ → Bool
has_end [] = false
has_end (b ∷ bs) = starts_with nat_eq (b ∷ bs) (codes "*/") || has_end bs

-- `//` up to the end of the line
abbrev pub IsLineComment : List ℕ → List ℕ → Type 0
IsLineComment piece rest = (inner : List ℕ) × (piece ≡ codes "//" ++ inner) × (list_all is_in_line inner ≡ true) × (begins is_in_line rest ≡ false)

-- `/*` up to the first `*/` behind it
abbrev pub IsBlockComment : List ℕ → Type 0
IsBlockComment piece = (inner : List ℕ) × (piece ≡ codes "/*" ++ (inner ++ codes "*/")) × (has_end (inner ++ codes "*") ≡ false)

abbrev pub IsBlankByte : List ℕ → Type 0
IsBlankByte piece = (b : ℕ) × (piece ≡ b ∷ []) × (is_blank_byte b ≡ true)

-- a space, a tab, the byte of an end of line, or a comment
abbrev pub IsBlank : List ℕ → List ℕ → Type 0
IsBlank piece rest = IsBlankByte piece ⊎ IsLineComment piece rest ⊎ IsBlockComment piece
