use Rattle.std.proofs.Common.{◌<◌, ◌+◌, ◌-◌, ◌++◌, ◌∷◌, [], length, sym, ap, ◌∙◌, subst, arith}
use Rattle.std.proofs.lemmas.Grind.{common_steps}
use Rattle.std.proofs.lemmas.List.{take_rest}
use Rattle.sieve_tokens.specs.Token.{spanned, Cover}
use Rattle.sieve_tokens.proofs.Covers.{cover_push, cover_size, spans_push}
use Rattle.sieve_tokens.proofs.Pieces.{size_of}
use Rattle.sieve_tokens.proofs.token.tokens.Goals as goal

pub overflow_sub-at : goal.overflow_sub-at
overflow_sub-at c = cover_size c.pieces.invariant.0 c.args.text.now c.pieces.rest.now c.pieces.invariant.1

pub returns-in_default-clause-bad : goal.returns-in_default-clause-bad
returns-in_default-clause-bad c =
    let le = cover_size c.pieces.invariant.0 c.args.text.now c.pieces.rest.now c.pieces.invariant.1 in
    let some : 0 < length c.pieces.rest.now = grind (arith, common_steps) in
    (c.pieces.invariant.0, c.pieces.rest.now, c.pieces.invariant.1, omega arith, some, c.in_default.ensures)

pub put_span-requires-clause-upto : goal.put_span-requires-clause-upto
put_span-requires-clause-upto c =
    let le = cover_size c.pieces.invariant.0 c.args.text.now c.pieces.rest.now c.pieces.invariant.1 in
    let size = size_of c.in-Some.piece c.pieces.rest.now c.in-Some.ensures.0 c.in-Some.ensures.1 in
    omega (arith, size.1)

pub pieces-preserved : goal.pieces-preserved
pieces-preserved c =
    let (pieces, covers, found) = c.pieces.invariant in
    let (behind, stands) = c.in-Some.ensures in
    let size = size_of c.in-Some.piece c.pieces.rest.now behind stands in
    let all = cover_push pieces c.in-Some.piece c.args.text.now c.pieces.rest.now behind covers stands in
    let at = length c.args.text.now - length c.pieces.rest.now in
    rw take_rest (
      pieces ++ c.in-Some.piece ∷ [],
      subst (Cover (pieces ++ c.in-Some.piece ∷ []) c.args.text.now) size.2 all,
      c.in_ok-put_span.ensures ∙ (ap (λ l. l ++ spanned c.in-Some.piece.kind at (at + c.in-Some.piece.len)) found ∙ sym (spans_push pieces c.in-Some.piece c.args.text.now c.pieces.rest.now covers)),
    )
