-- What is printed of a store whose outputs are completed, or what it is refused for.
use Rattle.std.proofs.Common.{◌≡◌, ◌≢◌, ℕ, Bool, true, List, Option, Some, refl, sym, subst}
use Rattle.edge_traits.specs.Disk.{Image}
use Rattle.edge_traits.specs.Output.{TookFront}
use Rattle.edge_traits.specs.Sink.{SinkView}
use Rattle.edge_traits.proofs.Outputs.{Took-nothing}
use Rattle.step_code.specs.declared.base.Base.{Base}
use Rattle.step_code.specs.Rules.{Meaning}
use Rattle.state_texts.specs.Texts.{summary}
use Rattle.journal_book.specs.Opening.{IsReopenFault}
use Rattle.journal_book.specs.Outputs.{IsBringUpFault, IsNoDamage}
use Rattle.journal_book.specs.declared.book_fault.BookFault.{BookFault}
use Rattle.journal_book.specs.declared.book_fault.BookFault.TheVariants as fault
use Rattle.store_commands.specs.Completed.{said, IsCompleted, IsFinished}
use Rattle.store_commands.specs.Ends.{end_of, AreWrittenAt, IsOpenIn, IsPrinted}
use Rattle.store_commands.specs.declared.end.StoreEnd.{StoreEnd}
use Rattle.store_commands.specs.declared.end.StoreEnd.TheVariants as end

-- ---- a book that is finished

-- its summary was asked for
pub finished_said : (s : Base) (e : StoreEnd) (old new : SinkView) → IsPrinted (summary s) e old new → IsFinished true s e old new
finished_said s end.Done old new printed = printed
finished_said s end.Sink old new printed = (refl, printed.0)
finished_said s end.Memory old new printed = printed
finished_said s end.Disk old new printed = absurd printed
finished_said s (end.Store have) old new printed = absurd printed
finished_said s (end.Damaged file at) old new printed = absurd printed
finished_said s end.Refused old new printed = absurd printed
finished_said s (end.NoDump n) old new printed = absurd printed
finished_said s (end.Spent next) old new printed = absurd printed
finished_said s (end.Full bytes) old new printed = absurd printed

-- its outputs couldn't be completed
pub not_finished : (is_said : Bool) (s : Base) (told : Option Image) (f : BookFault) (sink : SinkView) → IsBringUpFault s.outs told f → IsFinished is_said s (end_of f) sink sink
not_finished is_said s told fault.Disk sink bad = Took-nothing sink
not_finished is_said s told (fault.Damaged file at) sink bad = Took-nothing sink
not_finished is_said s told (fault.Store have) sink bad = absurd bad
not_finished is_said s told fault.Refused sink bad = absurd bad
not_finished is_said s told fault.OutOfMemory sink bad = Took-nothing sink

-- no output is told to be too short
pub undamaged_end : (f : BookFault) (e : StoreEnd) (file at : ℕ) → IsNoDamage f → e ≡ end_of f → e ≢ end.Damaged file at
undamaged_end fault.Disk e file at none is = λ same. cc (is, same)
undamaged_end (fault.Damaged other place) e file at none is = absurd none
undamaged_end (fault.Store have) e file at none is = λ same. cc (is, same)
undamaged_end fault.Refused e file at none is = λ same. cc (is, same)
undamaged_end fault.OutOfMemory e file at none is = λ same. cc (is, same)

pub undamaged_print : (text : List ℕ) (e : StoreEnd) (old new : SinkView) (file at : ℕ) → IsPrinted text e old new → e ≢ end.Damaged file at
undamaged_print text e old new file at printed = λ same. subst (λ (x : StoreEnd). IsPrinted text x old new) same printed

-- ---- a store that is completed

-- an output that is too short was found when the store was opened
pub completed_open : (m : Meaning) (files : Image) (is_said : Bool) (s : Base) (e : StoreEnd) (old new : SinkView) → IsOpenIn m files s → IsFinished is_said s e old new → ((file at : ℕ) → e ≢ end.Damaged file at)
    → IsCompleted m files is_said e old new
completed_open m files is_said s end.Done old new open_in finished undamaged = (s, open_in, finished)
completed_open m files is_said s end.Sink old new open_in finished undamaged = (s, open_in, subst (λ (b : Bool). TookFront old new (said b s)) (sym finished.0) finished.1)
completed_open m files is_said s end.Memory old new open_in finished undamaged = finished
completed_open m files is_said s end.Disk old new open_in finished undamaged = finished
completed_open m files is_said s (end.Store have) old new open_in finished undamaged = absurd finished
completed_open m files is_said s (end.Damaged file at) old new open_in finished undamaged = absurd (undamaged file at refl)
completed_open m files is_said s end.Refused old new open_in finished undamaged = absurd finished
completed_open m files is_said s (end.NoDump n) old new open_in finished undamaged = absurd finished
completed_open m files is_said s (end.Spent next) old new open_in finished undamaged = absurd finished
completed_open m files is_said s (end.Full bytes) old new open_in finished undamaged = absurd finished

pub completed_closed : (m : Meaning) (files : Image) (is_said : Bool) (told : Option Image) (f : BookFault) (sink : SinkView) → told ≡ Some files → IsReopenFault m told f → IsCompleted m files is_said (end_of f) sink sink
completed_closed m files is_said told fault.Disk sink is bad = Took-nothing sink
completed_closed m files is_said told (fault.Damaged file at) sink is bad = ((bad files is).0, (bad files is).1, Took-nothing sink)
completed_closed m files is_said told (fault.Store have) sink is bad = (bad.0, bad.1 files is, Took-nothing sink)
completed_closed m files is_said told fault.Refused sink is bad = absurd bad
completed_closed m files is_said told fault.OutOfMemory sink is bad = Took-nothing sink

-- ---- outputs that are written

pub written_at : (e : StoreEnd) (written : Type 0) → written → AreWrittenAt e written
written_at end.Done written is = is
written_at end.Sink written is = is
written_at end.Memory written is = tt
written_at end.Disk written is = tt
written_at (end.Store have) written is = tt
written_at (end.Damaged file at) written is = tt
written_at end.Refused written is = tt
written_at (end.NoDump n) written is = is
written_at (end.Spent next) written is = is
written_at (end.Full bytes) written is = is

-- nothing is said where they can't be completed
unwritten_at : (f : BookFault) (written : Type 0) → AreWrittenAt (end_of f) written
unwritten_at fault.Disk written = tt
unwritten_at (fault.Damaged file at) written = tt
unwritten_at (fault.Store have) written = tt
unwritten_at fault.Refused written = tt
unwritten_at fault.OutOfMemory written = tt

pub unwritten_end : (f : BookFault) (e : StoreEnd) (written : Type 0) → e ≡ end_of f → AreWrittenAt e written
unwritten_end f e written is = subst (λ (x : StoreEnd). AreWrittenAt x written) (sym is) (unwritten_at f written)
