-- What calls do that complete outputs.
use Rattle.std.specs.Prelude.{◌≡◌, ◌≢◌, ◌≤◌, ◌<◌, ℕ, zero, suc, List, [], ◌∷◌, length, take, Option, Some, None}
use Rattle.edge_traits.specs.Disk.{DiskView, Image, Adds, ChangesOnly, Leaves, LeavesOthers}
use Rattle.out_files.specs.Output.{KeepsFront}
use Rattle.step_code.specs.declared.output.Output.{Output}
use Rattle.store_image.specs.Files.{out_file}
use Rattle.journal_book.specs.Alone.{ChangesBut, IsNoOut}
use Rattle.journal_book.specs.declared.book_fault.BookFault.{BookFault}
use Rattle.journal_book.specs.declared.book_fault.BookFault.TheVariants as fault

-- how many bytes of output k are sealed, 0 where there is no such output
abbrev pub sealed_of : List Output → ℕ → ℕ
sealed_of [] k = 0
sealed_of (out ∷ outs) zero = out.sealed_bytes
sealed_of (out ∷ outs) (suc k) = sealed_of outs k

-- a front for each output, as long as what is sealed of it
abbrev pub AreFronts : List Output → (ℕ → List ℕ) → Type 0
AreFronts outs fronts = (k : ℕ) → length (fronts k) ≡ sealed_of outs k

-- what may be left of each output's file begins with its front
abbrev pub Begin : (ℕ → List ℕ → Type 0) → (ℕ → List ℕ) → Type 0
Begin may_leave fronts = (k : ℕ) (c : List ℕ) → may_leave (out_file k) c → take (length (fronts k)) c ≡ fronts k

-- none of the first so many outputs' files
abbrev pub IsNoneOf : ℕ → ℕ → Type 0
IsNoneOf n file = (k : ℕ) → k < n → file ≢ out_file k

-- a crash leaves the front of each output's file, and in the files of no output what it might have left before
pub record KeepsFronts (old : DiskView) (fronts : ℕ → List ℕ) (image : Image) : Type 0 where
  pub begins : (k : ℕ) → take (length (fronts k)) (image (out_file k)) ≡ fronts k
  pub others : (other : ℕ) → IsNoOut other → old.may_leave other (image other)

-- calls that write one file only, from a sealed length on
pub record RunsIn (old new : DiskView) (file sealed : ℕ) : Type 0 where
  pub elsewhere : (files : Image) → old.told ≡ Some files → ChangesOnly files new.told file
  pub untold : old.told ≡ None → new.told ≡ None
  pub crash_elsewhere : Adds old new (λ other. other ≢ file)
  pub any_moment : (front : List ℕ) → length front ≡ sealed → ((c : List ℕ) → old.may_leave file c → take sealed c ≡ front) → Leaves old new (KeepsFront old file front)
  pub others_any_moment : Leaves old new (LeavesOthers old file)
  pub count : old.faults ≤ new.faults

-- calls that write files of these outputs only, each behind what is sealed of it
pub record RunsOut (old new : DiskView) (outs : List Output) (rests : ℕ → Type 0) : Type 0 where
  pub elsewhere : (files : Image) → old.told ≡ Some files → ChangesBut rests files new.told
  pub untold : old.told ≡ None → new.told ≡ None
  pub crash_elsewhere : Adds old new rests
  pub crash : (files : Image) (fronts : ℕ → List ℕ) → old.told ≡ Some files → AreFronts outs fronts → Begin old.may_leave fronts → Begin new.may_leave fronts
  pub any_moment : (files : Image) (fronts : ℕ → List ℕ) → old.told ≡ Some files → AreFronts outs fronts → Begin old.may_leave fronts → Leaves old new (KeepsFronts old fronts)
  pub others_any_moment : Leaves old new (λ image. (other : ℕ) → rests other → old.may_leave other (image other))
  pub count : old.faults ≤ new.faults

-- one output is not completed: its file is too short, or another cause that says nothing of it
abbrev pub IsFaultAt : ℕ → ℕ → Option Image → BookFault → Type 0
IsFaultAt file sealed told fault.Disk = Unit {0}
IsFaultAt file sealed told (fault.Damaged other at) = (other ≡ file) × ((files : Image) → told ≡ Some files → (at ≡ length (files file)) × (at < sealed))
IsFaultAt file sealed told (fault.Store have) = ⊥
IsFaultAt file sealed told fault.Refused = ⊥
IsFaultAt file sealed told fault.OutOfMemory = Unit {0}
