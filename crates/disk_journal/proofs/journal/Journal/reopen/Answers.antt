use Rattle.std.proofs.Common.{◌+◌, inr, refl, sym, ◌∙◌, ap, arith, length}
use Rattle.std.proofs.lemmas.List.{length-take-le}
use Rattle.edge_traits.proofs.Moments.{run_on, widened}
use Rattle.disk_journal.specs.GateFile.{HaveSameBodies}
use Rattle.disk_journal.proofs.Reopening.{read_bodies_of, gate_stands, front_is, same_bodies, before_cut}
use Rattle.disk_journal.proofs.journal.Journal.reopen.Goals as goal

pub cut_durably-requires : goal.cut_durably-requires
cut_durably-requires g c = λ files told.
    let found = c.in_ok-bodies.ensures.bodies files (sym c.in_ok-bodies.ensures.reads.told ∙ told) in
    gate_stands c.args.heading c.in_ok-bodies.bodies c.in_ok-bodies.gate (files c.args.file) found.0 found.1

pub returns-in_err-cut_durably-clause-any_moment : goal.returns-in_err-cut_durably-clause-any_moment
returns-in_err-cut_durably-clause-any_moment g c = λ files told.
    let found = c.in_ok-bodies.ensures.bodies files (c.in_ok-sync.ensures.told ∙ told) in
    let reads = c.in_ok-bodies.ensures.reads in
    run_on
    (before_cut c.args.file (HaveSameBodies c.args.heading (files c.args.file)) c.sync.ensures.time reads (g.met.D.Disk.only_now c.args.disk.now) (g.met.D.Disk.only_now c.sync.new.self) c.sync.ensures.crash)
    (widened (λ image left. (inr (same_bodies c.args.heading c.in_ok-bodies.bodies c.in_ok-bodies.gate (files c.args.file) found.0 found.1 _ (λ d may. c.in_ok-sync.ensures.durable files told d (reads.crash c.args.file tt d may)) (image c.args.file) left.0), λ other ne. c.sync.ensures.crash other tt (image other) (reads.crash other tt (image other) (left.1 other ne)))) c.cut_durably.ensures.any_moment)

pub returns-clause-any_moment : goal.returns-clause-any_moment
returns-clause-any_moment g c = λ files told.
    let found = c.in_ok-bodies.ensures.bodies files (c.in_ok-sync.ensures.told ∙ told) in
    let reads = c.in_ok-bodies.ensures.reads in
    run_on
    (before_cut c.args.file (HaveSameBodies c.args.heading (files c.args.file)) c.sync.ensures.time reads (g.met.D.Disk.only_now c.args.disk.now) (g.met.D.Disk.only_now c.sync.new.self) c.sync.ensures.crash)
    (widened (λ image left. (inr (same_bodies c.args.heading c.in_ok-bodies.bodies c.in_ok-bodies.gate (files c.args.file) found.0 found.1 _ (λ d may. c.in_ok-sync.ensures.durable files told d (reads.crash c.args.file tt d may)) (image c.args.file) left.0), λ other ne. c.sync.ensures.crash other tt (image other) (reads.crash other tt (image other) (left.1 other ne)))) c.cut_durably.ensures.any_moment)

pub returns-clause-bodies : goal.returns-clause-bodies
returns-clause-bodies g c = λ files told.
    let found = c.in_ok-bodies.ensures.bodies files (c.in_ok-sync.ensures.told ∙ told) in
    read_bodies_of c.args.heading c.in_ok-bodies.bodies c.in_ok-bodies.gate (files c.args.file) found.0 found.1

pub returns-clause-front : goal.returns-clause-front
returns-clause-front g c = λ files after told now.
    c.in_ok-cut_durably.ensures.shortened files after (c.in_ok-bodies.ensures.reads.told ∙ c.in_ok-sync.ensures.told ∙ told) now

pub returns-clause-at_rest : goal.returns-clause-at_rest
returns-clause-at_rest g c = λ files after told now.
    let found = c.in_ok-bodies.ensures.bodies files (c.in_ok-sync.ensures.told ∙ told) in
    let shortened = c.in_ok-cut_durably.ensures.shortened files after (c.in_ok-bodies.ensures.reads.told ∙ c.in_ok-sync.ensures.told ∙ told) now in
    let content = shortened ∙ front_is c.args.heading c.in_ok-bodies.bodies c.in_ok-bodies.gate (files c.args.file) found.0 found.1 in
    record {
      whole = refl;
      gate = found.1.gate;
      closed = found.1.closed;
      lengths = found.0.lengths;
      content = content;
      end = omega (arith, ap length shortened, length-take-le (c.in_ok-bodies.gate + 1) (files c.args.file) (gate_stands c.args.heading c.in_ok-bodies.bodies c.in_ok-bodies.gate (files c.args.file) found.0 found.1));
      durable = c.in_ok-cut_durably.ensures.durable after now;
    }
