-- Bundles, and their code.
use Rattle.std.specs.Prelude.{◌≡◌, ◌<◌, ◌^◌, ◌++◌, ◌==◌, ℕ, true, Bool, List, length, Option, Some, None, option_and_then, IsUtf8, if◌then◌else◌}
use Rattle.std.specs.FinMap.{is_sorted}
use Rattle.std.specs.Int.{w16, w32}
use Rattle.std.specs.Ordering.{nat_cmp}
use Rattle.std.specs.Cmp.Lexicographic.{slice_cmp}
use Rattle.std.specs.Str.{is_utf8}
use Rattle.stored_types.specs.Code.{blob, list, name, framed_at, list_at, IsBlob, IsList}
use Rattle.stored_types.specs.Coded.{Reader, both, made, tested}
use Rattle.config_bundle.specs.declared.bundle.Bundle.{Bundle}

-- ---- writing

-- the code of a file: its name behind its length in two bytes, and its bytes behind theirs in four
abbrev pub file_code : List ℕ × List ℕ → List ℕ
file_code file = name file.0 ++ blob file.1

-- the code of a bundle: its runtime text, and its files behind their number
abbrev pub bundle_code : Bundle → List ℕ
bundle_code b = blob b.runtime ++ list file_code b.files

-- a file's name has fewer than 65,536 bytes, and is UTF-8
abbrev pub IsFileName : List ℕ → Type 0
IsFileName bytes = (length bytes < 2 ^ 16) × IsUtf8 bytes

abbrev pub IsFile : List ℕ × List ℕ → Type 0
IsFile file = IsFileName file.0 × IsBlob file.1

-- each name is above those before it, in byte order
abbrev pub names_rise : List (List ℕ × List ℕ) → Bool
names_rise files = is_sorted (slice_cmp nat_cmp) files

-- the lengths fit their bytes, each name is a file's, and the names rise, so that each stands once
pub record IsBundle (b : Bundle) : Type 0 where
  pub runtime : IsBlob b.runtime
  pub files : IsList IsFile b.files
  pub order : names_rise b.files ≡ true

-- ---- reading

unfoldable pub file_name_at : Reader (List ℕ)
file_name_at bytes = tested is_utf8 (framed_at w16) bytes

abbrev pub file_at : Reader (List ℕ × List ℕ)
file_at = both file_name_at (framed_at w32)

-- the bundle whose code stands in front of the bytes, and the bytes behind it
unfoldable pub bundle_at : Reader Bundle
bundle_at bytes =
    tested (λ b. names_rise b.files)
    (made (λ (runtime, files). record { runtime = runtime; files = files }) (both (framed_at w32) (list_at file_at))) bytes

-- what was read, where nothing is left
abbrev pub whole : {A : Type 0} → A × List ℕ → Option A
whole read = if length read.1 == 0 then Some read.0 else None

-- the bundle whose code the bytes are, if they are one
unfoldable pub bundle_in : List ℕ → Option Bundle
bundle_in bytes = option_and_then whole (bundle_at bytes)
