use Rattle.std.proofs.Common.{length, take, drop, ◌-◌, ◌∙◌, ◌&&◌, sym, ap, subst}
use Rattle.scalar_text.specs.Quote.{Keeps, is_number, is_decimal, quote, quote_string}
use Rattle.scalar_text.proofs.Quoted.{keeps_then, behind_at, keeps_start, keeps_outside, keeps_run}
use Rattle.scalar_text.proofs.quote.first_decimal.Goals as goal

pub pieces-preserved-then-b-eq34 : goal.pieces-preserved-then-b-eq34
pieces-preserved-then-b-eq34 c =
    let rest = c.pieces.rest.now in let behind = take (length rest - 1) (drop 1 rest) in
    keeps_then quote quote quote c.args.text.now rest c.behind_string-rest.result.now c.pieces.invariant
    (keeps_then quote quote_string quote rest behind c.behind_string-rest.result.now
    (behind_at quote quote_string rest rest 1 (keeps_start rest 0 c.in-len1-up.len_at_least c.if-b-eq34.true)) c.behind_string-rest.ensures.kept)

pub pieces-preserved-then-is_number_byte : goal.pieces-preserved-then-is_number_byte
pieces-preserved-then-is_number_byte c =
    let rest = c.pieces.rest.now in
    let n = c.run_len.result in
    let plain = ap (λ run. is_number run && is_decimal run) (sym c.split_at.ensures.front) ∙ sym c.is_quoted.ensures ∙ c.if-is_quoted.false in
    keeps_then quote quote quote c.args.text.now rest c.split_at.result.1.now c.pieces.invariant
    (subst (λ behind. Keeps quote quote rest behind) (sym c.split_at.ensures.back) (keeps_run rest n c.run_len.ensures.run plain))

pub pieces-preserved : goal.pieces-preserved
pieces-preserved c =
    let rest = c.pieces.rest.now in
    keeps_then quote quote quote c.args.text.now rest (take (length rest - 1) (drop 1 rest)) c.pieces.invariant
    (behind_at quote quote rest rest 1 (keeps_outside rest 0 c.in-len1-up.len_at_least (sym c.is_number_byte.ensures ∙ c.if-is_number_byte.false) c.if-b-eq34.false))
