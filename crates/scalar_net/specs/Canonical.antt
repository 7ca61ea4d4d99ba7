-- The canonical text of eight groups, in the words of RFC 5952, 4.
use Rattle.std.specs.Prelude.{◌≡◌, ℕ, ◌+◌, ◌<◌, ◌≤◌, List, ◌++◌, length, take, drop, replicate, codes}
use Rattle.std.specs.Net.Text.{groups_text}

-- zero groups stand at that place, so many of them
abbrev pub IsZeroRun : List ℕ → ℕ → ℕ → Type 0
IsZeroRun groups start len = (start + len ≤ length groups) × (take len (drop start groups) ≡ replicate len 0)

-- The longest run of zero groups, and the first of such, is `::` where it has two groups at least (RFC 5952, 4.2). The
-- other groups are lower-case hex digits with no leading zeros and with colons between them (4.1, 4.3).
pub record IsCanonicalText (groups text : List ℕ) : Type 0 where
  pub start : ℕ
  pub len : ℕ
  pub run : IsZeroRun groups start len
  pub longest : (s l : ℕ) → IsZeroRun groups s l → l ≤ len
  pub first : (s : ℕ) → IsZeroRun groups s len → start ≤ s
  pub compressed : 1 < len → text ≡ groups_text (take start groups) ++ codes "::" ++ groups_text (drop (start + len) groups)
  pub plain : len ≤ 1 → text ≡ groups_text groups
