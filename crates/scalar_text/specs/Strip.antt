-- Blanks at the ends of texts.
use Rattle.std.specs.Prelude.{ℕ, List, [], ◌∷◌, Bool, ◌||◌, ◌==◌, reverse, if◌then◌else◌}

-- a space or a tab
abbrev pub is_blank : ℕ → Bool
is_blank b = (b == 32) || (b == 9)

-- the text from its first byte on that is no blank
abbrev pub strip_front : List ℕ → List ℕ
strip_front [] = []
strip_front (b ∷ bs) = if is_blank b then strip_front bs else b ∷ bs

-- the text up to its last byte that is no blank
abbrev pub strip_back : List ℕ → List ℕ
strip_back text = reverse (strip_front (reverse text))

-- the text without the blanks at both ends
unfoldable pub strip : List ℕ → List ℕ
strip text = strip_back (strip_front text)
