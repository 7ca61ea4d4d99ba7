-- What calls do that write one file only, from a sealed length on.
use Rattle.std.specs.Prelude.{◌≡◌, ◌≢◌, ◌<◌, ◌≤◌, ◌+◌, ℕ, List, ◌++◌, length, take, get_or, Some, None}
use Rattle.edge_traits.specs.Disk.{DiskView, Image, ChangesOnly, Adds, Leaves, LeavesOthers}
use Rattle.out_files.specs.Output.{KeepsFront}

-- what a crash may leave begins with these bytes, as far as it is sealed
abbrev pub EachBegins : ℕ → List ℕ → (List ℕ → Type 0) → Type 0
EachBegins sealed front may_leave = (c : List ℕ) → may_leave c → take sealed c ≡ front

-- no other file changed, and a crash at any moment keeps the sealed bytes that each content had at the front
pub record RunsAbove (old new : DiskView) (file sealed : ℕ) : Type 0 where
  pub elsewhere : (files : Image) → old.told ≡ Some files → ChangesOnly files new.told file
  pub untold : old.told ≡ None → new.told ≡ None
  pub crash_elsewhere : Adds old new (λ other. other ≢ file)
  pub crash : (front : List ℕ) → length front ≡ sealed → EachBegins sealed front (old.may_leave file) → EachBegins sealed front (new.may_leave file)
  pub any_moment : (front : List ℕ) → length front ≡ sealed → EachBegins sealed front (old.may_leave file)
      → Leaves old new (KeepsFront old file front)
  pub others_any_moment : Leaves old new (LeavesOthers old file)
  pub count : old.faults ≤ new.faults

-- how many bytes are gathered at least before they are written out
abbrev pub piece_length : ℕ
piece_length = 65_536

-- so much room is enough for a piece, and for any one of the lines behind it
abbrev pub HasRoom : ℕ → List (List ℕ) → Type 0
HasRoom capacity lines = (i : ℕ) (line : List ℕ) → i < length lines → line ≡ get_or lines i line → piece_length + length line ≤ capacity

-- the file up to an offset, and then the gathered bytes, are this text
pub record IsSoFar (content : List ℕ) (at : ℕ) (gathered text : List ℕ) : Type 0 where
  pub within : at ≤ length content
  pub so_far : take at content ++ gathered ≡ text
