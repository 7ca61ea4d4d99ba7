-- Quoted texts.
use Rattle.std.specs.Prelude.{◌≡◌, ℕ, Bool, true, false, not, ◌&&◌, ◌-◌, ◌==◌, if◌then◌else◌, List, [], ◌∷◌, ◌++◌, length, take, drop, map, flat_map, IsUtf8}
use Rattle.std.specs.List.{list_all}
use Rattle.sieve_tokens.specs.Bytes.{backslash, is_escape, is_quote}

-- a byte of a quoted text that stands for itself, or one behind a backslash
pub data Quotable : Type 0 where
  plain : ℕ → Quotable
  escaped : ℕ → Quotable

-- neither the quote nor a backslash; behind a backslash one of the escapes
abbrev pub may_stand : ℕ → Quotable → Bool
may_stand quote (plain b) = not (b == quote) && not (b == backslash)
may_stand quote (escaped b) = is_escape b

abbrev pub written : Quotable → List ℕ
written (plain b) = b ∷ []
written (escaped b) = backslash ∷ b ∷ []

-- what a byte behind a backslash stands for: `n` for a newline, `t` for a tab, another for itself
abbrev pub meaning_of : ℕ → ℕ
meaning_of b = if b == 110 then 10 else if b == 116 then 9 else b

abbrev pub meant : Quotable → ℕ
meant (plain b) = b
meant (escaped b) = meaning_of b

-- quotes of one kind around what stands for text in UTF-8
abbrev pub IsQuoted : List ℕ → Type 0
IsQuoted piece = (quote : ℕ) × (inner : List Quotable) × (piece ≡ quote ∷ (flat_map written inner ++ quote ∷ [])) × (is_quote quote ≡ true) × (list_all (may_stand quote) inner ≡ true) × IsUtf8 (map meant inner)

-- the bytes with each backslash and what stands behind it made to what they stand for; the flag: a backslash stands before
abbrev pub unescaped : Bool → List ℕ → List ℕ
unescaped true [] = []
unescaped true (b ∷ bs) = meaning_of b ∷ unescaped false bs
unescaped false [] = []
unescaped false (b ∷ bs) = if b == backslash then unescaped true bs else b ∷ unescaped false bs

-- the text that a quoted text stands for
abbrev pub content_of : List ℕ → List ℕ
content_of piece = unescaped false (take (length piece - 2) (drop 1 piece))

-- which is what its bytes and escapes stand for
abbrev pub ContentIsMeant : Type 0
ContentIsMeant = (quote : ℕ) (inner : List Quotable) → (list_all (may_stand quote) inner ≡ true) → content_of (quote ∷ (flat_map written inner ++ quote ∷ [])) ≡ map meant inner
