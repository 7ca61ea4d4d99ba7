use Rattle.std.proofs.Common.{inl, inr, ◌++◌, length, sym, ap, subst, ◌∙◌, arith}
use Rattle.edge_traits.specs.Disk.{Leaves}
use Rattle.edge_traits.proofs.Moments.{run_on, widened}
use Rattle.store_image.specs.Files.{out_file}
use Rattle.store_image.specs.Stands.{StandsFor}
use Rattle.journal_book.specs.Book.{BookView, durable_steps, waiting_steps}
use Rattle.journal_book.proofs.Alone.{alone_narrower, alone_on}
use Rattle.journal_book.proofs.Completing.{completed_before, fault_before, outs_rest}
use Rattle.journal_book.proofs.Sealing.{all_durable, all_or_fewer}
use Rattle.journal_book.proofs.book.Book.bring_up.Goals as goal

pub returns-in-Ok-clause-durable : goal.returns-in-Ok-clause-durable
returns-in-Ok-clause-durable g c = λ is. inr (ap (λ b. b.kept) (c.complete_outputs.ensures.disk is) ∙ ap (λ b. b.kept) c.in-Ok.ensures.ok)

pub returns-in-Ok-clause-fault : goal.returns-in-Ok-clause-fault
returns-in-Ok-clause-fault g c =
    fault_before c.complete_outputs.result c.args.self.now.state.outs c.flush.new.self.state.outs (g.D.Disk.disk c.args.self.now.disk).told (g.D.Disk.disk c.flush.new.self.disk).told (ap (λ b. b.state.outs) c.in-Ok.ensures.ok)
    (outs_rest c.args.self.now.generation _ _ (λ files told. (c.flush.ensures.others files told).told files told)) c.complete_outputs.ensures.fault

pub returns-in-Ok-clause-completed : goal.returns-in-Ok-clause-completed
returns-in-Ok-clause-completed g c = λ files after told now.
    completed_before c.complete_outputs.result (g.D.Disk.disk c.complete_outputs.new.self.disk).may_leave c.args.self.now.state.outs c.flush.new.self.state.outs (g.D.Disk.disk c.args.self.now.disk).told (g.D.Disk.disk c.flush.new.self.disk).told
    files after (ap (λ b. b.state.outs) c.in-Ok.ensures.ok) (outs_rest c.args.self.now.generation _ _ (λ files told. (c.flush.ensures.others files told).told files told)) told (λ before was. c.complete_outputs.ensures.completed before after was now)

pub returns-in-Ok-clause-undamaged : goal.returns-in-Ok-clause-undamaged
returns-in-Ok-clause-undamaged g c = λ files told.
    let mid = (c.flush.ensures.others files told).told files told in
    c.complete_outputs.ensures.undamaged mid.0 mid.1

pub returns-in-Ok-clause-others : goal.returns-in-Ok-clause-others
returns-in-Ok-clause-others g c = λ files told. alone_on (alone_narrower (λ file apart. apart.0) (c.flush.ensures.others files told)) (alone_narrower (λ file apart. apart.1) c.complete_outputs.ensures.others)

pub returns-in-Err-Disk-clause-others : goal.returns-in-Err-Disk-clause-others
returns-in-Err-Disk-clause-others g c = λ files told. alone_narrower (λ file apart. apart.0) (c.flush.ensures.others files told)

pub returns-in-Ok-clause-written : goal.returns-in-Ok-clause-written
returns-in-Ok-clause-written g c = λ origin history now.
    c.complete_outputs.ensures.written origin history (ap (λ b. b.kept) c.in-Ok.ensures.ok ∙ ap (λ b. length b.steps) (sym c.in-Ok.ensures.ok)) now

pub returns-in-Ok-clause-any_moment : goal.returns-in-Ok-clause-any_moment
returns-in-Ok-clause-any_moment g c = λ origin past kept.
    let old = c.args.self.now in
    let rest = c.complete_outputs.ensures.any_moment origin past (c.flush.ensures.kept origin past kept) in
    let behind = subst (λ (b : BookView g.row.D.Denot g.row.R.Denot). Leaves (g.D.Disk.disk c.flush.new.self.disk) (g.D.Disk.disk c.complete_outputs.new.self.disk) (StandsFor g.R.Rules.meaning origin (past ++ durable_steps b) (waiting_steps b)))
    c.in-Ok.ensures.ok rest in
    run_on (c.flush.ensures.any_moment origin past kept) (widened (λ image. all_or_fewer g.R.Rules.meaning origin past old.kept old.steps image) behind)

pub returns-in-Ok-clause-lines_last : goal.returns-in-Ok-clause-lines_last
returns-in-Ok-clause-lines_last g c = λ origin past kept.
    let old = c.args.self.now in
    let rest = c.complete_outputs.ensures.any_moment origin past (c.flush.ensures.kept origin past kept) in
    let behind = subst (λ (b : BookView g.row.D.Denot g.row.R.Denot). Leaves (g.D.Disk.disk c.flush.new.self.disk) (g.D.Disk.disk c.complete_outputs.new.self.disk) (StandsFor g.R.Rules.meaning origin (past ++ durable_steps b) (waiting_steps b)))
    c.in-Ok.ensures.ok rest in
    run_on (widened (λ image left. inl (λ k. left (out_file k) (λ same. omega (arith, same)))) (c.flush.ensures.others kept.files kept.tells).any_moment) (widened (λ image stands. inr (all_durable g.R.Rules.meaning origin past old.steps image stands)) behind)
