-- What refuses a step that fits.
use Rattle.std.proofs.Common.{◌≡◌, ℕ, Bool, true, false, nat_lt, List, [], Option, Some, None, sym, ap, subst, ◌∙◌, if◌then◌else◌}
use Rattle.step_code.specs.declared.base.Base.{Base}
use Rattle.step_code.specs.declared.step.Step.{Step}
use Rattle.step_code.specs.declared.step.StepKind.{StepKind}
use Rattle.step_code.specs.Fits.{first_failing, parts}
use Rattle.step_code.specs.Rules.{Meaning}
use Rattle.step_code.specs.Spent.{spent}
use Rattle.journal_book.specs.Staged.{bytes_with, first_cause, staged, stamp, step_cause}
use Rattle.journal_book.specs.declared.stage_refusal.StageRefusal.{StageRefusal}
use Rattle.journal_book.specs.declared.stage_refusal.StageRefusal.TheVariants as refusal
use Rattle.drain_turns.proofs.Screened.{parts_screened}
use Rattle.locked_book.specs.Locked.{mark_of, IsHoldFault}
use Rattle.locked_book.specs.declared.entry.EndMark.{EndMark}
use Rattle.locked_book.specs.declared.hold_fault.HoldFault.{HoldFault}
use Rattle.locked_book.specs.declared.hold_fault.HoldFault.TheVariants as fault
use Rattle.worker_turns.specs.Holds.{end_of, IsFaultEnd, IsLateFault}
use Rattle.worker_turns.specs.declared.turned.HoldEnd.{HoldEnd}

-- a number or a length, or nothing
abbrev IsLate : Option StageRefusal → Type 0
IsLate None = Unit {0}
IsLate (Some refusal.Broken) = ⊥
IsLate (Some (refusal.Step step)) = ⊥
IsLate (Some (refusal.Spent next)) = Unit {0}
IsLate (Some (refusal.Full bytes)) = Unit {0}
IsLate (Some refusal.OutOfMemory) = Unit {0}

late_cause : (number : Option ℕ) (bytes limit : ℕ) → IsLate (first_cause None number bytes limit)
late_cause (Some next) bytes limit = tt
late_cause None bytes limit = go (nat_lt limit bytes)
  where
    go : (b : Bool) → IsLate (if b then Some (refusal.Full bytes) else None)
    go true = tt
    go false = tt

late_fault : (cause : Option StageRefusal) (f : HoldFault) → IsLate cause → IsHoldFault cause f → IsLateFault f
late_fault cause fault.Half only is = tt
late_fault cause fault.Disk only is = tt
late_fault cause (fault.Refused refusal.Broken) only is = subst IsLate is only
late_fault cause (fault.Refused (refusal.Step step)) only is = subst IsLate is only
late_fault cause (fault.Refused (refusal.Spent next)) only is = tt
late_fault cause (fault.Refused (refusal.Full bytes)) only is = tt
late_fault cause (fault.Refused refusal.OutOfMemory) only is = tt

pub refuses_late : (m : Meaning) (s : Base) (steps : List Step) (limit now : ℕ) (what : StepKind) (f : HoldFault) → first_failing (parts m s what) ≡ None → IsHoldFault (step_cause m s steps limit (staged m s now what)) f → IsLateFault f
refuses_late m s steps limit now what f fits is =
    let step = staged m s now what in
    let none : first_failing (parts m s step.what) ≡ None = ap first_failing (parts_screened m s (stamp s now).0 what) ∙ fits in
    late_fault (step_cause m s steps limit step) f
    (subst (λ o. IsLate (first_cause o (spent m s step) (bytes_with steps step) limit)) (sym none) (late_cause (spent m s step) (bytes_with steps step) limit)) is

-- why a worker's part ends whose step isn't made
pub fault_end : (left : Option ℕ) (made : ℕ) (marked : Option EndMark) (f : HoldFault) (e : HoldEnd) → IsLateFault f → marked ≡ mark_of f → e ≡ end_of f → IsFaultEnd left made marked e
fault_end left made marked f e late mark is = subst (IsFaultEnd left made marked) (sym is) (go f late mark)
  where
    go : (f : HoldFault) → IsLateFault f → marked ≡ mark_of f → IsFaultEnd left made marked (end_of f)
    go fault.Half late mark = mark
    go fault.Disk late mark = mark
    go (fault.Refused refusal.Broken) late mark = absurd late
    go (fault.Refused (refusal.Step step)) late mark = absurd late
    go (fault.Refused (refusal.Spent next)) late mark = (tt, mark)
    go (fault.Refused (refusal.Full bytes)) late mark = (tt, mark)
    go (fault.Refused refusal.OutOfMemory) late mark = mark
