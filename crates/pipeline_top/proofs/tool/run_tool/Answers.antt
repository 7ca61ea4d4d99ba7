use Rattle.pipeline_top.proofs.Kept.{kept_by_audit, kept_by_drill, kept_by_init, kept_at_work, kept_by_redo, kept_by_show, kept_drained_by, kept_here}
use Rattle.pipeline_top.proofs.Replays.{shows_replay}
use Rattle.pipeline_top.proofs.tool.run_tool.Goals as goal

pub returns-in-None-clause-history : goal.returns-in-None-clause-history
returns-in-None-clause-history g c = kept_here (g.D.Disk.disk c.args.disk) (g.met.D.Disk.only_now c.args.disk)

pub returns-in-Some-Convert-clause-history : goal.returns-in-Some-Convert-clause-history
returns-in-Some-Convert-clause-history g c = kept_here (g.D.Disk.disk c.args.disk) (g.met.D.Disk.only_now c.args.disk)

pub returns-in-Some-Check-clause-history : goal.returns-in-Some-Check-clause-history
returns-in-Some-Check-clause-history g c = kept_here (g.D.Disk.disk c.args.disk) (g.met.D.Disk.only_now c.args.disk)

pub returns-in-Some-Init-clause-history : goal.returns-in-Some-Init-clause-history
returns-in-Some-Init-clause-history g c = kept_by_init _ _ _ _ _ (c.init.ensures.begun (g.C.Clock.told c.args.clock.now))

pub returns-in-Some-Drain-clause-history : goal.returns-in-Some-Drain-clause-history
returns-in-Some-Drain-clause-history g c = kept_at_work _ _ _ _ _ _ (λ bundle works. kept_drained_by _ _ _ _ _ _ bundle works) c.drain.ensures.drained

pub returns-in-Some-Status-clause-history : goal.returns-in-Some-Status-clause-history
returns-in-Some-Status-clause-history g c = kept_by_show _ _ _ _ _ (c.show.ensures.shown (g.H.Shelf.shelf c.args.shelf.now) (g.H.Shelf.shelf c.args.shelf.now) (g.C.Clock.told c.args.clock.now))

pub returns-in-Some-Status-clause-status_replayed : goal.returns-in-Some-Status-clause-status_replayed
returns-in-Some-Status-clause-status_replayed g c = λ asked. shows_replay _ _ _ _ _ (g.met.D.Disk.honest c.args.disk) (c.show.ensures.shown (g.H.Shelf.shelf c.args.shelf.now) (g.H.Shelf.shelf c.args.shelf.now) (g.C.Clock.told c.args.clock.now))

pub returns-in-Some-Dumps-clause-history : goal.returns-in-Some-Dumps-clause-history
returns-in-Some-Dumps-clause-history g c = kept_by_show _ _ _ _ _ (c.show-in-Some-Dumps.ensures.shown (g.H.Shelf.shelf c.args.shelf.now) (g.H.Shelf.shelf c.args.shelf.now) (g.C.Clock.told c.args.clock.now))

pub returns-in-Some-Dumps-clause-dumps_replayed : goal.returns-in-Some-Dumps-clause-dumps_replayed
returns-in-Some-Dumps-clause-dumps_replayed g c = λ asked. shows_replay _ _ _ _ _ (g.met.D.Disk.honest c.args.disk) (c.show-in-Some-Dumps.ensures.shown (g.H.Shelf.shelf c.args.shelf.now) (g.H.Shelf.shelf c.args.shelf.now) (g.C.Clock.told c.args.clock.now))

pub returns-in-Some-Audit-clause-history : goal.returns-in-Some-Audit-clause-history
returns-in-Some-Audit-clause-history g c = kept_by_audit _ _ _ _ (c.audit.ensures.audited (g.H.Shelf.shelf c.args.shelf.now) (g.H.Shelf.shelf c.args.shelf.now) (g.C.Clock.told c.args.clock.now))

pub returns-in-Some-Redo-clause-history : goal.returns-in-Some-Redo-clause-history
returns-in-Some-Redo-clause-history g c = kept_by_redo _ _ _ _ _ _ (c.redo.ensures.redone (g.H.Shelf.shelf c.args.shelf.now) (g.H.Shelf.shelf c.args.shelf.now))

pub returns-in-Some-Drill-clause-history : goal.returns-in-Some-Drill-clause-history
returns-in-Some-Drill-clause-history g c = kept_by_drill _ _ _ _ _ _ _ (c.drill.ensures.drilled (g.H.Shelf.shelf c.args.shelf.now) (g.H.Shelf.shelf c.args.shelf.now))
