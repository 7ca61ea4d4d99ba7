-- What is shown of a store that was opened, or what it is refused for.
use Rattle.std.proofs.Common.{◌≡◌, Option, Some}
use Rattle.edge_traits.specs.Disk.{Image}
use Rattle.edge_traits.specs.Sink.{SinkView}
use Rattle.edge_traits.proofs.Outputs.{Took-nothing}
use Rattle.step_code.specs.declared.base.Base.{Base}
use Rattle.step_code.specs.Rules.{Meaning}
use Rattle.journal_book.specs.Opening.{IsReopenFault}
use Rattle.journal_book.specs.declared.book_fault.BookFault.{BookFault}
use Rattle.journal_book.specs.declared.book_fault.BookFault.TheVariants as fault
use Rattle.store_commands.specs.Ends.{end_of, shown_text, IsOpenIn, IsPrinted, IsShown}
use Rattle.store_commands.specs.declared.end.StoreEnd.{StoreEnd}
use Rattle.store_commands.specs.declared.end.StoreEnd.TheVariants as end
use Rattle.store_commands.specs.declared.printing.Shown.{Shown}

pub shown_open : (m : Meaning) (files : Image) (what : Shown) (s : Base) (e : StoreEnd) (old new : SinkView) → IsOpenIn m files s → IsPrinted (shown_text what s) e old new → IsShown m files what e old new
shown_open m files what s end.Done old new open_in printed = (s, open_in, printed)
shown_open m files what s end.Sink old new open_in printed = (s, open_in, printed.0)
shown_open m files what s end.Memory old new open_in printed = printed
shown_open m files what s end.Disk old new open_in printed = absurd printed
shown_open m files what s (end.Store have) old new open_in printed = absurd printed
shown_open m files what s (end.Damaged file at) old new open_in printed = absurd printed
shown_open m files what s end.Refused old new open_in printed = absurd printed
shown_open m files what s (end.NoDump n) old new open_in printed = absurd printed
shown_open m files what s (end.Spent next) old new open_in printed = absurd printed
shown_open m files what s (end.Full bytes) old new open_in printed = absurd printed

pub shown_fault : (m : Meaning) (files : Image) (what : Shown) (told : Option Image) (f : BookFault) (sink : SinkView) → told ≡ Some files → IsReopenFault m told f → IsShown m files what (end_of f) sink sink
shown_fault m files what told fault.Disk sink is bad = Took-nothing sink
shown_fault m files what told (fault.Damaged file at) sink is bad = ((bad files is).0, (bad files is).1, Took-nothing sink)
shown_fault m files what told (fault.Store have) sink is bad = (bad.0, bad.1 files is, Took-nothing sink)
shown_fault m files what told fault.Refused sink is bad = absurd bad
shown_fault m files what told fault.OutOfMemory sink is bad = Took-nothing sink
