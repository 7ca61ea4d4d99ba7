use Rattle.std.proofs.Common.{sym, ◌∙◌, eqb-true, arith}
use Rattle.base_types.proofs.PlainRuns.{all_plain, more_plain, last_plain}
use Rattle.base_types.proofs.plain_runs.is_short_plain.Goals as goal

pub returns-then-len-lt8 : goal.returns-then-len-lt8
returns-then-len-lt8 c whole = all_plain c.args.text.now (sym c.are_plain.ensures ∙ whole)

pub returns-then-specials_of_eight-eq0 : goal.returns-then-specials_of_eight-eq0
returns-then-specials_of_eight-eq0 c none =
    let text = c.args.text.now in
    let front = more_plain text 0 8 (omega arith) (λ k low high. absurd (omega arith)) (sym c.specials_of_eight.ensures ∙ c.if-specials_of_eight-eq0.true) in
    last_plain text 8 8 (omega arith) (omega arith) front (sym c.specials_of_eight-then-specials_of_eight-eq0.ensures ∙ eqb-true c.specials_of_eight-then-specials_of_eight-eq0.result 0 none)
