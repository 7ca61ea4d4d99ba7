use Rattle.std.proofs.Common.{◌∙◌, ◌++◌, drop, take, sym, ap, subst}
use Rattle.std.specs.List.{flat_map}
use Rattle.std.proofs.lemmas.Result.{MatchResult-from_err}
use Rattle.edge_traits.specs.Output.{TookFront}
use Rattle.edge_traits.specs.Sink.{Took}
use Rattle.edge_traits.proofs.Outputs.{TookFront-longer}
use Rattle.base_types.specs.JsonText.{escaped}
use Rattle.dump_store.proofs.Plain.{plain_front, plain_then}
use Rattle.dump_store.proofs.escape.write_run.Goals as goal

pub returns-in_err-write_all-clause-err : goal.returns-in_err-write_all-clause-err
returns-in_err-write_all-clause-err g c =
    let text = c.args.text.now in
    let n = c.plain_len-n.result in
    let whole = ap (λ k. take k text ++ flat_map escaped (drop k text)) c.plain_len-n.ensures ∙ plain_then text in
    MatchResult-from_err c.from_residual-in_err-write_all.result _ _ c.from_residual-in_err-write_all.ensures.0
    (λ e. subst (TookFront _ _) whole (TookFront-longer (flat_map escaped (drop n text)) c.in_err-write_all.ensures.err))

pub returns-in_ok-write_all-clause-ok : goal.returns-in_ok-write_all-clause-ok
returns-in_ok-write_all-clause-ok g c =
    let text = c.args.text.now in
    let same = ap (λ k. take k text) c.plain_len-n.ensures ∙ sym (plain_front text) ∙ ap (λ k. flat_map escaped (take k text)) (sym c.plain_len-n.ensures) in
    subst (Took _ _) same c.in_ok-write_all.ensures.ok
