use Rattle.std.proofs.Common.{refl, sym, subst, arith}
use Rattle.std.proofs.lemmas.List.{take-append-drop, take_rest}
use Rattle.std.proofs.lemmas.Result.{MatchResult-from_err}
use Rattle.edge_traits.proofs.Outputs.{Moved-write, TookFront-none}
use Rattle.edge_traits.proofs.Writing.{Writes}
use Rattle.edge_traits.proofs.write.write_all.Goals as goal

pub returns-in_err-n-clause-err : goal.returns-in_err-n-clause-err
returns-in_err-n-clause-err g c =
    MatchResult-from_err c.from_residual.result _ _ c.from_residual.ensures.0
    (λ e. TookFront-none (Moved-write {more = c.pieces.rest.now} c.pieces.invariant.moved c.in_err-n.ensures.refused refl))

pub pieces-preserved : goal.pieces-preserved
pieces-preserved g c =
    let n = c.in_ok-n.n in let rest = c.pieces.rest.now in
    subst (λ more. Writes (g.S.Sink.sink c.args.out.now) (g.S.Sink.sink c.write.new.self) c.args.bytes.now more)
    (sym (take_rest rest n))
    (record {
      moved = Moved-write c.pieces.invariant.moved c.in_ok-n.ensures.taken (sym (take-append-drop n rest));
      count = omega arith;
    })
