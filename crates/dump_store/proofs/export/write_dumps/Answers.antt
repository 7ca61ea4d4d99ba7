use Rattle.std.proofs.Common.{arith}
use Rattle.std.proofs.lemmas.Result.{MatchResult-from_err}
use Rattle.dump_store.specs.Export.{dump_line}
use Rattle.dump_store.proofs.Written.{item_stopped, item_written}
use Rattle.dump_store.proofs.export.write_dumps.Goals as goal

pub returns-in_err-write_dump-clause-err : goal.returns-in_err-write_dump-clause-err
returns-in_err-write_dump-clause-err g c =
    MatchResult-from_err c.from_residual.result _ _ c.from_residual.ensures.0
    (λ e. item_stopped dump_line c.args.dumps.now c.dumps.dump-index c.dump-item.result c.dump-item.is c.dumps-test.true c.dumps.invariant.moved c.in_err-write_dump.ensures.err)

pub dumps-preserved : goal.dumps-preserved
dumps-preserved g c =
    record {
      moved = item_written dump_line c.args.dumps.now c.dumps.dump-index c.dump-item.result c.dump-item.is c.dumps-test.true c.dumps.invariant.moved c.in_ok-write_dump.ensures.ok;
      count = omega arith;
    }
