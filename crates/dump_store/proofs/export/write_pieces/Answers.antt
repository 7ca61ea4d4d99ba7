use Rattle.std.proofs.Common.{arith}
use Rattle.std.proofs.lemmas.Result.{MatchResult-from_err}
use Rattle.dump_store.specs.Pieces.{piece_text}
use Rattle.dump_store.proofs.Written.{item_stopped_at, item_written_at}
use Rattle.dump_store.proofs.export.write_pieces.Goals as goal

pub returns-in_err-write_piece-clause-err : goal.returns-in_err-write_piece-clause-err
returns-in_err-write_piece-clause-err g c =
    MatchResult-from_err c.from_residual.result _ _ c.from_residual.ensures.0
    (λ e. item_stopped_at piece_text c.args.pieces.now c.pieces.piece-index c.pieces-test.true _ c.pieces.invariant.moved c.in_err-write_piece.ensures.err)

pub pieces-preserved : goal.pieces-preserved
pieces-preserved g c =
    record {
      moved = item_written_at piece_text c.args.pieces.now c.pieces.piece-index c.pieces-test.true _ c.pieces.invariant.moved c.in_ok-write_piece.ensures.ok;
      count = omega arith;
    }
