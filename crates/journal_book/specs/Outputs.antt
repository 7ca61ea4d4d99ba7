-- What becomes of the files of outputs.
use Rattle.std.specs.Prelude.{◌≡◌, ◌≤◌, ◌<◌, ℕ, List, length, Option, Some, slice_get}
use Rattle.edge_traits.specs.Disk.{DiskView, Image, Only}
use Rattle.out_files.specs.Output.{completed, lines_text}
use Rattle.step_code.specs.declared.base.Base.{Base}
use Rattle.step_code.specs.declared.output.Output.{Output}
use Rattle.step_code.specs.declared.step.Step.{Step}
use Rattle.step_code.specs.History.{replay}
use Rattle.step_code.specs.Rules.{Meaning}
use Rattle.store_image.specs.Files.{out_file}
use Rattle.journal_book.specs.declared.book_fault.BookFault.{BookFault}
use Rattle.journal_book.specs.declared.book_fault.BookFault.TheVariants as fault

-- an output's file is its sealed front, as it was, and each line behind it, and a crash leaves just that
pub record IsCompleted (may_leave : ℕ → List ℕ → Type 0) (file : ℕ) (out : Output) (before after : Image) : Type 0 where
  pub long : out.sealed_bytes ≤ length (before file)
  pub content : after file ≡ completed (before file) out.sealed_bytes out.lines
  pub durable : Only (after file) (may_leave file)

-- so is the file of each of these outputs
abbrev pub AreCompleted : (ℕ → List ℕ → Type 0) → List Output → Image → Image → Type 0
AreCompleted may_leave outs before after = (k : ℕ) (out : Output) → slice_get outs k ≡ Some out → IsCompleted may_leave (out_file k) out before after

-- an output's file is all of its lines, each with a newline, and a crash leaves just that
pub record IsWhole (may_leave : ℕ → List ℕ → Type 0) (file : ℕ) (out : Output) (after : Image) : Type 0 where
  pub content : after file ≡ lines_text out.lines
  pub durable : Only (after file) (may_leave file)

-- so is the file of each of these outputs
abbrev pub AreWhole : (ℕ → List ℕ → Type 0) → List Output → Image → Type 0
AreWhole may_leave outs after = (k : ℕ) (out : Output) → slice_get outs k ≡ Some out → IsWhole may_leave (out_file k) out after

-- the disk tells what it holds, and the file of each output is all lines that this history of a store has written
abbrev pub AreWritten : Meaning → Base → List Step → DiskView → Type 0
AreWritten m first history now = (files : Image) × (now.told ≡ Some files) × AreWhole now.may_leave (replay m first history).outs files

-- the first of these outputs whose file is shorter than what is sealed of it has this file, of this length
pub record IsFirstShort (outs : List Output) (files : Image) (file at : ℕ) : Type 0 where
  pub place : ℕ
  pub out : Output
  pub here : slice_get outs place ≡ Some out
  pub file_is : file ≡ out_file place
  pub length_is : at ≡ length (files file)
  pub short : at < out.sealed_bytes
  pub before : (k : ℕ) (earlier : Output) → k < place → slice_get outs k ≡ Some earlier → earlier.sealed_bytes ≤ length (files (out_file k))

-- outputs are not completed: a file is damaged where it is the first that is too short; no other file is looked at
abbrev pub IsBringUpFault : List Output → Option Image → BookFault → Type 0
IsBringUpFault outs told fault.Disk = Unit {0}
IsBringUpFault outs told (fault.Damaged file at) = (files : Image) → told ≡ Some files → IsFirstShort outs files file at
IsBringUpFault outs told (fault.Store have) = ⊥
IsBringUpFault outs told fault.Refused = ⊥
IsBringUpFault outs told fault.OutOfMemory = Unit {0}

-- another fault than damage
abbrev pub IsNoDamage : BookFault → Type 0
IsNoDamage fault.Disk = Unit {0}
IsNoDamage (fault.Damaged file at) = ⊥
IsNoDamage (fault.Store have) = Unit {0}
IsNoDamage fault.Refused = Unit {0}
IsNoDamage fault.OutOfMemory = Unit {0}

-- in each output's file a crash leaves what it might have left before
abbrev pub LeavesOuts : DiskView → Image → Type 0
LeavesOuts old image = (k : ℕ) → old.may_leave (out_file k) (image (out_file k))
