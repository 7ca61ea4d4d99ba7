use Rattle.std.proofs.Common.{sym, subst, arith}
use Rattle.std.specs.List.{flat_map}
use Rattle.std.proofs.lemmas.List.{take_rest}
use Rattle.std.proofs.lemmas.Result.{MatchResult-from_err}
use Rattle.edge_traits.proofs.Outputs.{Moved-write, TookFront-rest}
use Rattle.edge_traits.proofs.Writing.{Writes}
use Rattle.base_types.specs.JsonText.{escaped}
use Rattle.dump_store.proofs.Plain.{split}
use Rattle.dump_store.proofs.escape.write_content.Goals as goal

pub returns-in_err-n-clause-err : goal.returns-in_err-n-clause-err
returns-in_err-n-clause-err g c =
    MatchResult-from_err c.from_residual.result _ _ c.from_residual.ensures.0 (λ e. TookFront-rest c.runs.invariant.moved c.in_err-n.ensures.err)

pub runs-preserved : goal.runs-preserved
runs-preserved g c =
    let n = c.in_ok-n.n in let rest = c.runs.rest.now in
    subst (λ more. Writes (g.S.Sink.sink c.args.out.now) (g.S.Sink.sink c.write_run.new.out) (flat_map escaped c.args.text.now) (flat_map escaped more))
    (sym (take_rest rest n))
    (record {
      moved = Moved-write c.runs.invariant.moved c.in_ok-n.ensures.ok (sym (split n rest));
      count = omega arith;
    })
