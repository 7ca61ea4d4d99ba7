use Rattle.std.proofs.Common.{arith}
use Rattle.edge_traits.proofs.Moments.{widened}
use Rattle.journal_book.proofs.Histories.{gate_length}
use Rattle.journal_book.proofs.Recovering.{histories_kept}
use Rattle.journal_book.proofs.opening.open_journal.Goals as goal

pub returns-in-Ok-clause-short : goal.returns-in-Ok-clause-short
returns-in-Ok-clause-short g c = omega (arith, c.len.type_inv, c.len.ensures, c.in-Ok.ensures.length, gate_length c.args.heading c.in-Ok.bodies 0)

pub returns-in-Ok-clause-recovers : goal.returns-in-Ok-clause-recovers
returns-in-Ok-clause-recovers g c = record {
  elsewhere = c.reopen.ensures.elsewhere;
  untold = c.reopen.ensures.untold;
  crash_elsewhere = c.reopen.ensures.crash_elsewhere;
  others_any_moment = λ files told. widened (λ image left. left.1) (c.reopen.ensures.any_moment files told);
  histories = histories_kept (g.D.Disk.disk c.args.disk.now) (g.D.Disk.disk c.reopen.new.disk) c.args.file c.args.heading c.requires (g.met.D.Disk.honest c.args.disk.now) (g.met.D.Disk.counts_now c.reopen.new.disk)
      c.reopen.ensures.elsewhere c.reopen.ensures.any_moment;
  count = c.reopen.ensures.count;
}

pub returns-in-Err-clause-recovers : goal.returns-in-Err-clause-recovers
returns-in-Err-clause-recovers g c = record {
  elsewhere = c.reopen.ensures.elsewhere;
  untold = c.reopen.ensures.untold;
  crash_elsewhere = c.reopen.ensures.crash_elsewhere;
  others_any_moment = λ files told. widened (λ image left. left.1) (c.reopen.ensures.any_moment files told);
  histories = histories_kept (g.D.Disk.disk c.args.disk.now) (g.D.Disk.disk c.reopen.new.disk) c.args.file c.args.heading c.requires (g.met.D.Disk.honest c.args.disk.now) (g.met.D.Disk.counts_now c.reopen.new.disk)
      c.reopen.ensures.elsewhere c.reopen.ensures.any_moment;
  count = c.reopen.ensures.count;
}
