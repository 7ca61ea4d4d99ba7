use Rattle.std.proofs.Common.{◌≤◌, ◌+◌, length, ap, arith}
use Rattle.std.proofs.lemmas.Result.{IfOk-weaker}
use Rattle.std.specs.Vec.{vec_capacity}
use Rattle.out_files.specs.Run.{piece_length, HasRoom}
use Rattle.out_files.proofs.Contents.{longest_more}
use Rattle.out_files.proofs.out_files.buffer_for.Goals as goal

pub lines-preserved : goal.lines-preserved
lines-preserved c = record {
  each = longest_more c.args.lines.now c.lines.line-index c.line-item.result c.lines.longest c.longer-longest.result c.lines-test.true c.line-item.is c.lines.invariant.each (omega (arith, c.longer-longest.ensures)) (omega (arith, c.longer-longest.ensures, ap length c.bytes.ensures));
  small = omega (arith, c.lines.invariant.small, c.longer-longest.ensures);
}

pub returns-clause-room : goal.returns-clause-room
returns-clause-room c =
    IfOk-weaker c.with_capacity.result (λ buffer. piece_length + c.lines.longest ≤ vec_capacity buffer) (λ buffer. HasRoom (vec_capacity buffer) c.args.lines.now) (λ buffer enough i line within here.
    let le = c.lines.invariant.each i line (omega (arith, within, c.lines-test.false)) here in
    omega (arith, enough, le)) c.with_capacity.ensures.capacity
