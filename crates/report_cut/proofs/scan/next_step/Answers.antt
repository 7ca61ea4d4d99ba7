use Rattle.std.proofs.Common.{◌≡◌, ◌+◌, ◌≤◌, ◌⊎◌, inl, inr, arith, length}
use Rattle.report_cut.proofs.scan.next_step.Goals as goal
use Rattle.report_cut.proofs.scan.next_step.Goals.{else-whole-gt0-via-then-whole-gt0+else-end-room, else-whole-gt0-via-else-whole-gt0, else-whole-gt0-2-via-then-whole-gt0-2+else-len-room, else-whole-gt0-2-via-else-whole-gt0-2}
use Rattle.report_cut.proofs.Reading.{ends_behind, ends_nowhere_behind, due_at, long_at, read_more, due_at_end, long_at_end, open_at_end}

pub returns-then-end-room : goal.returns-then-end-room
returns-then-end-room c =
    due_at c.args.room c.args.bytes.now c.lines.whole c.lines.seen c.in-Some.i c.lines.invariant (ends_behind c.args.bytes.now c.lines.seen c.in-Some.i c.in-Some.ensures) c.if-whole-gt0.true c.if-end-room.true

pub returns-then-end-whole-gt-LONGEST_LINE : goal.returns-then-end-whole-gt-LONGEST_LINE
returns-then-end-whole-gt-LONGEST_LINE c =
    let none : c.lines.whole ≡ 0 = elim c.else-whole-gt0.branch [
      | else-whole-gt0-via-then-whole-gt0+else-end-room w ↦ omega arith
      | else-whole-gt0-via-else-whole-gt0 w ↦ omega arith
    ] in
    long_at c.args.room c.args.bytes.now c.lines.whole c.lines.seen c.in-Some.i c.lines.invariant (ends_behind c.args.bytes.now c.lines.seen c.in-Some.i c.in-Some.ensures) none (omega arith)

pub lines-preserved : goal.lines-preserved
lines-preserved c =
    let fits : (c.lines.whole ≡ 0) ⊎ (c.lines.seen + c.in-Some.i + 1 ≤ c.args.room) = elim c.else-whole-gt0.branch [
      | else-whole-gt0-via-then-whole-gt0+else-end-room w ↦ inr (omega arith)
      | else-whole-gt0-via-else-whole-gt0 w ↦ inl (omega arith)
    ] in
    read_more c.args.room c.args.bytes.now c.lines.whole c.lines.seen c.in-Some.i c.lines.invariant (ends_behind c.args.bytes.now c.lines.seen c.in-Some.i c.in-Some.ensures) fits (omega arith)

pub returns-then-len-room : goal.returns-then-len-room
returns-then-len-room c =
    due_at_end c.args.room c.args.bytes.now c.lines.whole c.lines.seen c.lines.invariant (ends_nowhere_behind c.args.bytes.now c.lines.seen c.in_default.ensures) c.if-whole-gt0-2.true c.if-len-room.true

pub returns-then-len-whole-gt-LONGEST_LINE : goal.returns-then-len-whole-gt-LONGEST_LINE
returns-then-len-whole-gt-LONGEST_LINE c =
    let none : c.lines.whole ≡ 0 = elim c.else-whole-gt0-2.branch [
      | else-whole-gt0-2-via-then-whole-gt0-2+else-len-room w ↦ omega arith
      | else-whole-gt0-2-via-else-whole-gt0-2 w ↦ omega arith
    ] in
    long_at_end c.args.room c.args.bytes.now c.lines.whole c.lines.seen c.lines.invariant (ends_nowhere_behind c.args.bytes.now c.lines.seen c.in_default.ensures) none (omega arith)

pub returns : goal.returns
returns c =
    let fits : (c.lines.whole ≡ 0) ⊎ (length c.args.bytes.now ≤ c.args.room) = elim c.else-whole-gt0-2.branch [
      | else-whole-gt0-2-via-then-whole-gt0-2+else-len-room w ↦ inr (omega arith)
      | else-whole-gt0-2-via-else-whole-gt0-2 w ↦ inl (omega arith)
    ] in
    open_at_end c.args.room c.args.bytes.now c.lines.whole c.lines.seen c.lines.invariant (ends_nowhere_behind c.args.bytes.now c.lines.seen c.in_default.ensures) fits (omega arith)
