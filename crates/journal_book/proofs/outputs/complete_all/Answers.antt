use Rattle.std.proofs.Common.{◌≡◌, ◌+◌, ◌==◌, refl, sym, ◌∙◌, subst, arith}
use Rattle.std.proofs.lemmas.Option.{slice_get_within}
use Rattle.edge_traits.proofs.Counts.{rose_later}
use Rattle.edge_traits.specs.Disk.{Image}
use Rattle.store_image.specs.Files.{out_file}
use Rattle.store_image.specs.Opens.{AreLong}
use Rattle.journal_book.proofs.Completing.{done_more, fault_of_all, one_output, output_at, over_all}
use Rattle.journal_book.proofs.Flushing.{told_is_one}
use Rattle.journal_book.proofs.Long.{long_so_far}
use Rattle.journal_book.proofs.outputs.complete_all.Goals as goal

pub returns-in-Err-clause-fault : goal.returns-in-Err-clause-fault
returns-in-Err-clause-fault g c =
    let outs = c.args.core.now.state.outs in
    let found = output_at outs c.outputs.k (omega (arith, c.outputs-test.true, c.outputs.invariant.end)) in
    fault_of_all outs c.outputs.k found.0 (g.D.Disk.disk c.args.disk.now).told (g.D.Disk.disk c.outputs.disk).told c.in-Err.fault found.1 (c.in-Err.ensures.fault found.0 found.1)
    (λ files told.
    let before = c.outputs.invariant.run.elsewhere files told in
    (before.0, before.1, before.2 (out_file c.outputs.k) (λ j below same. omega (arith, below, same))))
    (λ files told j earlier below is.
    let before = c.outputs.invariant.run.elsewhere files told in
    (c.outputs.invariant.done files before.0 told before.1 j earlier below is).long)

pub returns-in-Err-clause-run : goal.returns-in-Err-clause-run
returns-in-Err-clause-run g c =
    let outs = c.args.core.now.state.outs in
    let found = output_at outs c.outputs.k (omega (arith, c.outputs-test.true, c.outputs.invariant.end)) in
    over_all (c.outputs.k + 1)
    (one_output (g.D.Disk.disk c.args.disk.now) (g.D.Disk.disk c.outputs.disk) (g.D.Disk.disk c.complete_one.new.disk) outs c.outputs.k found.0 found.1
    (g.met.D.Disk.honest c.complete_one.new.disk) (λ image later left. g.met.D.Disk.counts_now c.complete_one.new.disk _ image later left)
    c.outputs.invariant.run (c.complete_one.ensures.run found.0 found.1))

pub returns-in-Err-clause-failed : goal.returns-in-Err-clause-failed
returns-in-Err-clause-failed g c = λ is.
    let found = output_at c.args.core.now.state.outs c.outputs.k (omega (arith, c.outputs-test.true, c.outputs.invariant.end)) in
    rose_later _ _ _ c.outputs.invariant.run.count (c.complete_one.ensures.run found.0 found.1).count (c.in-Err.ensures.failed is)

pub returns-in-Err-clause-long : goal.returns-in-Err-clause-long
returns-in-Err-clause-long g c = λ files after told now long apart.
    let outs = c.args.core.now.state.outs in
    let before = c.outputs.invariant.run.elsewhere files told in
    let same : after ≡ before.0 = told_is_one (g.D.Disk.disk c.outputs.disk).told after before.0 (sym (c.in-Err.ensures.still apart) ∙ now) before.1 in
    subst (λ (i : Image). AreLong 0 outs i) (sym same)
    (long_so_far (g.D.Disk.disk c.outputs.disk).may_leave outs c.outputs.k files before.0 (λ j out below is. c.outputs.invariant.done files before.0 told before.1 j out below is) before.2 long)

pub outputs-preserved : goal.outputs-preserved
outputs-preserved g c =
    let outs = c.args.core.now.state.outs in
    let found = output_at outs c.outputs.k (omega (arith, c.outputs-test.true, c.outputs.invariant.end)) in
    let honest = g.met.D.Disk.honest c.complete_one.new.disk in
    let run = c.complete_one.ensures.run found.0 found.1 in
    record {
      end = c.outputs.invariant.end;
      run = one_output (g.D.Disk.disk c.args.disk.now) (g.D.Disk.disk c.outputs.disk) (g.D.Disk.disk c.complete_one.new.disk) outs c.outputs.k found.0 found.1 honest
          (λ image later left. g.met.D.Disk.counts_now c.complete_one.new.disk _ image later left) c.outputs.invariant.run run;
      done = λ files after told now j out below is.
          done_more (g.D.Disk.disk c.args.disk.now) (g.D.Disk.disk c.outputs.disk) (g.D.Disk.disk c.complete_one.new.disk) outs c.outputs.k found.0 found.1 honest
          (λ image later left. g.met.D.Disk.counts_now c.complete_one.new.disk _ image later left) c.outputs.invariant.run run files after told now
          (λ done before here was. c.in-Ok.ensures.completed done before after here was now)
          (λ before was. c.outputs.invariant.done files before told was) j out below is (j == c.outputs.k) refl;
    }

pub returns-clause-completed : goal.returns-clause-completed
returns-clause-completed g c = λ files after told now k out is.
    c.outputs.invariant.done files after told now k out (omega (arith, slice_get_within c.args.core.now.state.outs k out is, c.outputs-test.false, c.outputs.invariant.end)) is

pub returns-clause-run : goal.returns-clause-run
returns-clause-run g c = over_all c.outputs.k c.outputs.invariant.run
