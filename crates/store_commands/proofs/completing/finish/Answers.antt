use Rattle.std.proofs.Common.{◌≡◌, Bool, sym, ap, subst, ◌∙◌}
use Rattle.edge_traits.proofs.Outputs.{Took-nothing}
use Rattle.step_code.specs.declared.base.Base.{Base}
use Rattle.state_texts.specs.Texts.{summary}
use Rattle.journal_book.specs.Book.{BookView}
use Rattle.store_commands.specs.Completed.{IsFinished}
use Rattle.store_commands.specs.Ends.{IsPrinted}
use Rattle.store_commands.specs.declared.end.StoreEnd.{StoreEnd}
use Rattle.store_commands.specs.declared.end.StoreEnd.TheVariants as end
use Rattle.store_commands.proofs.Completed.{finished_said, not_finished, undamaged_end, undamaged_print, unwritten_end, written_at}
use Rattle.store_commands.proofs.completing.finish.Goals as goal

pub returns-then-is_said-clause-finished : goal.returns-then-is_said-clause-finished
returns-then-is_said-clause-finished g c =
    let s = c.args.book.now.state in
    let before = g.S.Sink.sink c.args.out.now in let after = g.S.Sink.sink c.print_summary.new.out in
    let core : c.state.result.now.state ≡ s = (λ i. (c.state.ensures.core i).state) ∙ ap (λ (b : BookView _ _). b.state) c.complete_outputs.ensures.same in
    subst (λ (said : Bool). IsFinished said s c.print_summary.result before after) (sym c.if-is_said.true)
    (finished_said s c.print_summary.result before after (subst (λ (b : Base). IsPrinted (summary b) c.print_summary.result before after) core c.print_summary.ensures.printed))

pub returns-then-is_said-clause-completed : goal.returns-then-is_said-clause-completed
returns-then-is_said-clause-completed g c = λ files after was now. written_at c.print_summary.result _ (c.in-Ok.ensures.completed files after was now)

pub returns-then-is_said-clause-written : goal.returns-then-is_said-clause-written
returns-then-is_said-clause-written g c = λ origin history now. written_at c.print_summary.result _ (c.in-Ok.ensures.written origin history now)

pub returns-then-is_said-clause-undamaged : goal.returns-then-is_said-clause-undamaged
returns-then-is_said-clause-undamaged g c = λ files file at told. undamaged_print _ c.print_summary.result _ _ file at c.print_summary.ensures.printed

pub returns-else-is_said-clause-finished : goal.returns-else-is_said-clause-finished
returns-else-is_said-clause-finished g c =
    let sink = g.S.Sink.sink c.args.out.now in subst (λ (said : Bool). IsFinished said c.args.book.now.state end.Done sink sink) (sym c.if-is_said.false) (Took-nothing sink)

pub returns-in-Err-clause-finished : goal.returns-in-Err-clause-finished
returns-in-Err-clause-finished g c =
    let s = c.args.book.now.state in
    let sink = g.S.Sink.sink c.args.out.now in
    subst (λ (e : StoreEnd). IsFinished c.args.is_said s e sink sink) (sym c.end_of.ensures) (not_finished c.args.is_said s (g.D.Disk.disk c.args.book.now.disk).told c.in-Err.fault sink c.in-Err.ensures.fault)

pub returns-in-Err-clause-completed : goal.returns-in-Err-clause-completed
returns-in-Err-clause-completed g c = λ files after was now. unwritten_end c.in-Err.fault c.end_of.result _ c.end_of.ensures

pub returns-in-Err-clause-written : goal.returns-in-Err-clause-written
returns-in-Err-clause-written g c = λ origin history now. unwritten_end c.in-Err.fault c.end_of.result _ c.end_of.ensures

pub returns-in-Err-clause-undamaged : goal.returns-in-Err-clause-undamaged
returns-in-Err-clause-undamaged g c = λ files file at told. undamaged_end c.in-Err.fault c.end_of.result file at (c.in-Err.ensures.undamaged files told) c.end_of.ensures
