-- A short name in an array of fixed length, with zeros behind it.
use Rattle.std.specs.Prelude.{◌≡◌, ◌≤◌, ℕ, ◌-◌, List, ◌++◌, length, take, replicate}
use Rattle.std.proofs.Common.{sym}

-- the name, and zeros up to seventy bytes
abbrev pub padded : List ℕ → List ℕ
padded name = name ++ replicate (70 - length name) 0

-- the array is its first `len` bytes, padded
pub record IsPadded (bytes : List ℕ) (len : ℕ) : Type 0 where
  pub zeros : bytes ≡ padded (take len bytes)
  pub whole : length (take len bytes) ≡ len
  pub short : len ≤ 70

pub padded_back : (bytes : List ℕ) (len : ℕ) → IsPadded bytes len → (padded (take len bytes) ≡ bytes) × (length (take len bytes) ≡ len)
padded_back bytes len is = (sym is.zeros, is.whole)
