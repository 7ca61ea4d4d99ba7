-- The next generation of a store, and what refuses it.
use Rattle.std.specs.Prelude.{◌≡◌, ◌≢◌, ◌⊎◌, ◌+◌, ℕ, suc, Bool, true, false, List, [], ◌∷◌, ◌++◌, length, min, nat_lt, Option, Some, None, find, if◌then◌else◌}
use Rattle.base_types.specs.Number.{last_u64}
use Rattle.edge_traits.specs.Disk.{DiskView, Image}
use Rattle.disk_journal.specs.GateFile.{HasBodies}
use Rattle.stored_types.specs.Code.{number}
use Rattle.core_state.specs.Sealing.{sealed_whole}
use Rattle.step_code.specs.declared.base.Base.{Base}
use Rattle.step_code.specs.declared.output.Output.{Output}
use Rattle.step_code.specs.Code.{code_of_base, first_format}
use Rattle.step_code.specs.Sound.{longest_base}
use Rattle.step_code.specs.Spent.{is_past}
use Rattle.store_image.specs.Files.{generation_file, root_file, heading_of, root_heading, written_format}
use Rattle.journal_book.specs.Alone.{IsNoOut}
use Rattle.journal_book.specs.Book.{root_entry, BookView}
use Rattle.journal_book.specs.Outputs.{IsFirstShort}
use Rattle.journal_book.specs.declared.book_fault.BookFault.{BookFault}
use Rattle.journal_book.specs.declared.book_fault.BookFault.TheVariants as fault
use Rattle.journal_book.specs.declared.renew_fault.RenewFault.{RenewFault}
use Rattle.journal_book.specs.declared.renew_fault.RenewFault.TheVariants as refusal

-- ---- what public contracts cite

-- the book whose generation is the next one, in the format that is written: it begins with the state in which all lines of outputs are sealed, and has no steps
abbrev pub renewed : {D R : Type 0} → BookView D R → BookView D R
renewed book =
    record book { format = written_format; generation = suc book.generation; root = book.root + root_entry; base = sealed_whole book.state; steps = []; kept = 0; state = sealed_whole book.state }

-- the length of the code of a state in which all lines of outputs are sealed; where 64 bits don't hold it, their greatest number
abbrev pub sealed_length : Base → ℕ
sealed_length s = min (length (code_of_base first_format (sealed_whole s))) last_u64

-- the first number that a renewal would bring past the last one, if it brings one: that of the generation, or the length of the
-- root's file; one that 64 bits don't hold counts as the greatest that they do
abbrev pub spent_by_renewal : ℕ → ℕ → Option ℕ
spent_by_renewal generation root = find is_past (min (suc generation) last_u64 ∷ min (root + root_entry) last_u64 ∷ [])

-- the sealed state has a code of this length, which is too long
abbrev pub full_cause : ℕ → Option RenewFault
full_cause bytes = if nat_lt longest_base bytes then Some (refusal.Full bytes) else None

abbrev pub spent_or_full : Option ℕ → ℕ → Option RenewFault
spent_or_full (Some next) bytes = Some (refusal.Spent next)
spent_or_full None bytes = full_cause bytes

-- what refuses the next generation of a book that is whole: a number past the last one, then the code of its state
abbrev pub renewal_cause : ℕ → ℕ → Base → Option RenewFault
renewal_cause generation root s = spent_or_full (spent_by_renewal generation root) (sealed_length s)

-- a book that is broken refuses before all
abbrev pub broken_or : Bool → Option RenewFault → Option RenewFault
broken_or true cause = Some refusal.Broken
broken_or false cause = cause

abbrev pub renew_cause : {D R : Type 0} → BookView D R → Option RenewFault
renew_cause book = broken_or book.broken (renewal_cause book.generation book.root book.state)

-- the answer is this refusal, or, where there is none, a fault of the disk, or the first output file that is shorter than what is
-- sealed of it; memory may run out in each case
abbrev pub IsRenewFault : Option RenewFault → List Output → Option Image → RenewFault → Type 0
IsRenewFault cause outs told refusal.Broken = cause ≡ Some refusal.Broken
IsRenewFault cause outs told (refusal.Spent next) = cause ≡ Some (refusal.Spent next)
IsRenewFault cause outs told (refusal.Full bytes) = cause ≡ Some (refusal.Full bytes)
IsRenewFault cause outs told refusal.Disk = cause ≡ None
IsRenewFault cause outs told (refusal.Damaged file at) = (cause ≡ None) × ((files : Image) → told ≡ Some files → IsFirstShort outs files file at)
IsRenewFault cause outs told refusal.OutOfMemory = Unit {0}

-- nothing was written
abbrev pub IsRefused : RenewFault → Type 0
IsRefused refusal.Broken = Unit {0}
IsRefused (refusal.Spent next) = Unit {0}
IsRefused (refusal.Full bytes) = Unit {0}
IsRefused refusal.Disk = ⊥
IsRefused (refusal.Damaged file at) = ⊥
IsRefused refusal.OutOfMemory = ⊥

-- another fault than damage
abbrev pub IsUndamaged : RenewFault → Type 0
IsUndamaged refusal.Broken = Unit {0}
IsUndamaged (refusal.Spent next) = Unit {0}
IsUndamaged (refusal.Full bytes) = Unit {0}
IsUndamaged refusal.Disk = Unit {0}
IsUndamaged (refusal.Damaged file at) = ⊥
IsUndamaged refusal.OutOfMemory = Unit {0}

-- neither the root, nor this generation's file, nor an output's
abbrev pub IsBesideNext : ℕ → ℕ → Type 0
IsBesideNext generation file = (file ≢ root_file) × (file ≢ generation_file generation) × IsNoOut file

-- ---- what private contracts cite

-- what completing the outputs' files says of a renewal
abbrev pub renew_fault : BookFault → RenewFault
renew_fault fault.Disk = refusal.Disk
renew_fault (fault.Damaged file at) = refusal.Damaged file at
renew_fault (fault.Store have) = refusal.OutOfMemory
renew_fault fault.Refused = refusal.OutOfMemory
renew_fault fault.OutOfMemory = refusal.OutOfMemory

-- the disk failed, or memory ran out
abbrev pub IsBeginFault : RenewFault → Type 0
IsBeginFault refusal.Broken = ⊥
IsBeginFault (refusal.Spent next) = ⊥
IsBeginFault (refusal.Full bytes) = ⊥
IsBeginFault refusal.Disk = Unit {0}
IsBeginFault (refusal.Damaged file at) = ⊥
IsBeginFault refusal.OutOfMemory = Unit {0}

-- no file but the root and this generation's is another than might have been left before; and the root has these bodies, or names
-- the generation behind them, whose file has this body
pub record IsBeginning (old : DiskView) (bodies : List (List ℕ)) (code : List ℕ) (generation : ℕ) (image : Image) : Type 0 where
  pub others : (other : ℕ) → (other ≢ root_file) × (other ≢ generation_file generation) → old.may_leave other (image other)
  pub named : HasBodies root_heading bodies (image root_file)
      ⊎ (HasBodies root_heading (bodies ++ number generation ∷ []) (image root_file) × HasBodies (heading_of written_format generation) (code ∷ []) (image (generation_file generation)))
