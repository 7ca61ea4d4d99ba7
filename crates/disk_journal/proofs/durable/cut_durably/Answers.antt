use Rattle.std.proofs.Common.{sym, ◌∙◌}
use Rattle.edge_traits.specs.Disk.{Cut}
use Rattle.edge_traits.proofs.Outcomes.{cut_itself}
use Rattle.disk_journal.proofs.Steps.{on_ok, changed, changed_synced}
use Rattle.disk_journal.proofs.durable.cut_durably.Goals as goal

pub returns-in_err-cut-clause-any_moment : goal.returns-in_err-cut-clause-any_moment
returns-in_err-cut-clause-any_moment g c =
    changed c.args.file (Cut c.args.len) (cut_itself c.args.len) c.cut.ensures.time (g.met.D.Disk.only_now c.args.disk.now) c.cut.ensures.crash c.cut.ensures.crash_elsewhere

pub returns-clause-any_moment : goal.returns-clause-any_moment
returns-clause-any_moment g c =
    changed_synced c.args.file (Cut c.args.len) c.cut.ensures.crash c.cut.ensures.crash_elsewhere
    (changed c.args.file (Cut c.args.len) (cut_itself c.args.len) c.cut.ensures.time (g.met.D.Disk.only_now c.args.disk.now) c.cut.ensures.crash c.cut.ensures.crash_elsewhere)
    c.sync.ensures.time c.sync.ensures.crash

pub returns-clause-shortened : goal.returns-clause-shortened
returns-clause-shortened g c = λ files after told now. on_ok c.sync.result (c.in_ok-cut.ensures.shortened files after told (sym c.sync.ensures.told ∙ now))
