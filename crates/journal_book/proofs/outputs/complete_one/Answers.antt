use Rattle.journal_book.proofs.Completing.{completed_one, fits_in_file, looked}
use Rattle.journal_book.proofs.outputs.complete_one.Goals as goal

pub bring_up-requires : goal.bring_up-requires
bring_up-requires g c = fits_in_file c.args.core.now.state.outs c.args.k c.out_at-out.result.sealed_bytes c.out_at-out.result.lines.now _ _ c.requires.short c.out_at-out.ensures

pub returns-in-Ok-clause-completed : goal.returns-in-Ok-clause-completed
returns-in-Ok-clause-completed g c = λ out files after is told now.
    let look = looked _ _ out is c.out_at-out.ensures in
    completed_one (g.D.Disk.disk c.bring_up.new.disk).may_leave c.out_file-file.result _ c.out_at-out.result.sealed_bytes c.out_at-out.result.lines.now out files after c.out_file-file.ensures look.1 look.3
    (c.in-Ok.ensures.long files told) (c.in-Ok.ensures.completed files after told now) (c.in-Ok.ensures.durable after now)
