use Rattle.std.proofs.Common.{length, sym, ◌∙◌}
use Rattle.edge_traits.specs.Disk.{Torn}
use Rattle.edge_traits.proofs.Outcomes.{torn_itself}
use Rattle.disk_journal.proofs.Steps.{on_ok, changed, changed_synced}
use Rattle.disk_journal.proofs.durable.write_durably.Goals as goal

pub returns-in_err-write_at-clause-any_moment : goal.returns-in_err-write_at-clause-any_moment
returns-in_err-write_at-clause-any_moment g c =
    let n = length c.args.bytes.now in
    changed c.args.file (Torn c.args.at n) (torn_itself c.args.at n) c.write_at.ensures.time (g.met.D.Disk.only_now c.args.disk.now) c.write_at.ensures.crash c.write_at.ensures.crash_elsewhere

pub returns-clause-any_moment : goal.returns-clause-any_moment
returns-clause-any_moment g c =
    let n = length c.args.bytes.now in
    changed_synced c.args.file (Torn c.args.at n) c.write_at.ensures.crash c.write_at.ensures.crash_elsewhere
    (changed c.args.file (Torn c.args.at n) (torn_itself c.args.at n) c.write_at.ensures.time (g.met.D.Disk.only_now c.args.disk.now) c.write_at.ensures.crash c.write_at.ensures.crash_elsewhere)
    c.sync.ensures.time c.sync.ensures.crash

pub returns-clause-written : goal.returns-clause-written
returns-clause-written g c = λ files after told now. on_ok c.sync.result (c.in_ok-write_at.ensures.written files after told (sym c.sync.ensures.told ∙ now))
