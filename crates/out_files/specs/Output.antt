-- An output file: a sealed front, and lines behind it.
use Rattle.std.specs.Prelude.{◌≡◌, ◌<◌, ℕ, List, [], ◌∷◌, ◌++◌, length, take, flat_map}
use Rattle.edge_traits.specs.Disk.{DiskView, Image, LeavesOthers}
use Rattle.out_files.specs.declared.out_files.OutFault.{OutFault}
use Rattle.out_files.specs.declared.out_files.OutFault.TheVariants as fault

-- each line with a newline behind it
abbrev pub lines_text : List (List ℕ) → List ℕ
lines_text lines = flat_map (λ line. line ++ 10 ∷ []) lines

-- the sealed front of a file, and then the lines
abbrev pub completed : List ℕ → ℕ → List (List ℕ) → List ℕ
completed file sealed lines = take sealed file ++ lines_text lines

-- a crash leaves these bytes at the file's front, and in each other file what it might have left before
pub record KeepsFront (old : DiskView) (file : ℕ) (front : List ℕ) (image : Image) : Type 0 where
  pub front_stays : take (length front) (image file) ≡ front
  pub others : LeavesOthers old file image

-- a file that is too short is told with its length; the other faults say nothing of the file
abbrev pub IsFaultOf : List ℕ → ℕ → OutFault → Type 0
IsFaultOf file sealed (fault.Short have) = (have ≡ length file) × (have < sealed)
IsFaultOf file sealed fault.Disk = Unit {0}
IsFaultOf file sealed fault.OutOfMemory = Unit {0}
