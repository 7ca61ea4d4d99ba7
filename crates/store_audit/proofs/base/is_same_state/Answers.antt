use Rattle.std.proofs.Common.{[], sym, ap, ◌∙◌}
use Rattle.std.proofs.lemmas.List.{append-nil}
use Rattle.std.proofs.lemmas.Slice.Eq.{bytes_eq-Decides}
use Rattle.step_code.specs.Code.{code_of_base, first_format}
use Rattle.store_audit.proofs.base.is_same_state.Goals as goal

pub returns : goal.returns
returns c =
    let a_code = c.in_ok-a_code.ensures in
    let b_code = c.in_ok-b_code.ensures in
    let same = bytes_eq-Decides c.in_ok-a_code.a_code c.in_ok-b_code.b_code in (
      λ yes.
          let one = sym a_code.code ∙ same.0 (sym c.eq.ensures ∙ yes) ∙ b_code.code in
          (c.bases_have_one_code.ensures c.args.a.now c.args.b.now [] [] a_code.writable b_code.writable (append-nil _ ∙ one ∙ sym (append-nil _))).0,
      λ one. c.eq.ensures ∙ same.1 (a_code.code ∙ ap (code_of_base first_format) one ∙ sym b_code.code),
    )
