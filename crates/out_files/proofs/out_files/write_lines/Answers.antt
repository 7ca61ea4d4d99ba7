use Rattle.std.proofs.Common.{◌≡◌, ◌+◌, ℕ, List, length, take, true, refl, ap, ◌∙◌, arith}
use Rattle.std.proofs.lemmas.List.{take_all}
use Rattle.edge_traits.specs.Disk.{Image}
use Rattle.out_files.specs.Output.{lines_text, completed}
use Rattle.out_files.proofs.Contents.{lines_no_longer, pushed_same, gathered_more, size_more, nothing_gathered, all_written}
use Rattle.edge_traits.proofs.Counts.{rose_later}
use Rattle.out_files.proofs.Runs.{no_call, then_run, told_before}
use Rattle.out_files.proofs.out_files.write_lines.Goals as goal

pub lines-init : goal.lines-init
lines-init g c = record {
  above = omega arith;
  size = omega (arith, ap length c.requires.empty);
  text = λ files after told told_after.
      let same : files ≡ after = cc in
      nothing_gathered c.args.sealed _ (files c.args.file) (after c.args.file) c.requires.empty (c.requires.within files told) (ap (λ (f : Image). f c.args.file) same);
  less = omega (arith, ap length c.requires.empty);
  room = omega arith;
  run = no_call c.args.file c.args.sealed (g.met.D.Disk.only_now c.args.disk.now);
}

pub push_line-requires : goal.push_line-requires
push_line-requires g c =
    let enough = c.requires.room c.lines.line-index c.line-item.result c.lines-test.true c.line-item.is in
    omega (arith, enough, c.lines.invariant.room, c.lines.invariant.less, ap length c.bytes.ensures)

pub write_out-requires-clause-small : goal.write_out-requires-clause-small
write_out-requires-clause-small g c =
    let whole = lines_no_longer c.args.lines.now (c.lines.line-index + 1) in
    let pushed = pushed_same c.push_line.new.buffer.items c.lines.buffer.items c.bytes.result.now c.line-item.result c.push_line.ensures.items c.bytes.ensures in
    let size = size_more c.lines.at c.args.sealed c.lines.buffer.items c.push_line.new.buffer.items c.args.lines.now c.lines.line-index c.line-item.result c.lines-test.true c.line-item.is pushed c.lines.invariant.size in
    omega (arith, size, whole)

pub write_out-requires-clause-within : goal.write_out-requires-clause-within
write_out-requires-clause-within g c files told =
    let old = told_before _ _ c.lines.invariant.run.untold files told in
    (c.lines.invariant.text old.0 files old.1 told).within

pub returns-in_err-at-clause-run : goal.returns-in_err-at-clause-run
returns-in_err-at-clause-run g c = then_run c.lines.invariant.run (c.write_out.ensures.run c.args.sealed c.lines.invariant.above)

pub returns-in_err-at-clause-failed : goal.returns-in_err-at-clause-failed
returns-in_err-at-clause-failed g c _ =
    let run = c.write_out.ensures.run c.args.sealed c.lines.invariant.above in
    rose_later _ _ _ c.lines.invariant.run.count run.count (c.in_err-at.ensures.failed (refl {a = true}))

pub lines-preserved : goal.lines-preserved
lines-preserved g c =
    let items = c.args.lines.now in
    let pushed = pushed_same c.push_line.new.buffer.items c.lines.buffer.items c.bytes.result.now c.line-item.result c.push_line.ensures.items c.bytes.ensures in
    let size = size_more c.lines.at c.args.sealed c.lines.buffer.items c.push_line.new.buffer.items items c.lines.line-index c.line-item.result c.lines-test.true c.line-item.is pushed c.lines.invariant.size in
    record {
      above = omega (arith, c.in_ok-at.ensures.end.0, c.lines.invariant.above);
      size = c.in_ok-at.ensures.end.1 ∙ size;
      text = λ files after told told_after.
          let mid = c.lines.invariant.run.elsewhere files told in
          let before = c.lines.invariant.text files mid.0 told mid.1 in
          c.in_ok-at.ensures.written mid.0 after _ mid.1 told_after
          (gathered_more (mid.0 c.args.file) c.lines.at c.lines.buffer.items c.push_line.new.buffer.items (files c.args.file) c.args.sealed items c.lines.line-index c.line-item.result c.lines-test.true c.line-item.is pushed before);
      less = c.in_ok-at.ensures.less;
      room = omega (arith, c.push_line.ensures.capacity, c.in_ok-at.ensures.capacity, c.lines.invariant.room);
      run = then_run c.lines.invariant.run (c.write_out.ensures.run c.args.sealed c.lines.invariant.above);
    }

pub write_out-requires-2-clause-small : goal.write_out-requires-2-clause-small
write_out-requires-2-clause-small g c =
    let whole = lines_no_longer c.args.lines.now c.lines.line-index in
    omega (arith, c.lines.invariant.size, whole)

pub write_out-requires-2-clause-within : goal.write_out-requires-2-clause-within
write_out-requires-2-clause-within g c files told =
    let old = told_before _ _ c.lines.invariant.run.untold files told in
    (c.lines.invariant.text old.0 files old.1 told).within

pub returns-in_err-write_out-clause-run : goal.returns-in_err-write_out-clause-run
returns-in_err-write_out-clause-run g c = then_run c.lines.invariant.run (c.write_out-2.ensures.run c.args.sealed c.lines.invariant.above)

pub returns-in_err-write_out-clause-failed : goal.returns-in_err-write_out-clause-failed
returns-in_err-write_out-clause-failed g c _ =
    let run = c.write_out-2.ensures.run c.args.sealed c.lines.invariant.above in
    rose_later _ _ _ c.lines.invariant.run.count run.count (c.in_err-write_out.ensures.failed (refl {a = true}))

pub returns-clause-end : goal.returns-clause-end
returns-clause-end g c =
    let items = c.args.lines.now in
    let all : take c.lines.line-index items ≡ c.args.lines.now = take_all c.lines.line-index items c.lines-test.false ∙ refl in
    omega (arith, c.in_ok-write_out.ensures.less, c.in_ok-write_out.ensures.end.1, c.lines.invariant.size, ap (λ (ls : List (List ℕ)). length (lines_text ls)) all)

pub returns-clause-written : goal.returns-clause-written
returns-clause-written g c files after told told_after =
    let mid = c.lines.invariant.run.elsewhere files told in
    let before = c.lines.invariant.text files mid.0 told mid.1 in
    let items = c.args.lines.now in
    let all : take c.lines.line-index items ≡ c.args.lines.now = take_all c.lines.line-index items c.lines-test.false ∙ refl in
    all_written (after c.args.file) c.in_ok-write_out.field-0 c.write_out-2.new.buffer.items _ _ c.in_ok-write_out.ensures.less
    (ap (λ (ls : List (List ℕ)). completed (files c.args.file) c.args.sealed ls) all)
    (c.in_ok-write_out.ensures.written mid.0 after _ mid.1 told_after before)

pub returns-clause-run : goal.returns-clause-run
returns-clause-run g c = then_run c.lines.invariant.run (c.write_out-2.ensures.run c.args.sealed c.lines.invariant.above)
