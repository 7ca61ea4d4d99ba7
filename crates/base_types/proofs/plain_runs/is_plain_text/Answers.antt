use Rattle.std.proofs.Common.{sym, ◌∙◌, eqb-true, arith}
use Rattle.base_types.proofs.PlainRuns.{more_plain, last_plain}
use Rattle.base_types.proofs.plain_runs.is_plain_text.Goals as goal

pub lanes-preserved : goal.lanes-preserved
lanes-preserved c =
    (more_plain c.args.text.now c.lanes.at 16 (omega arith) c.lanes.invariant.0 (sym c.specials.ensures ∙ c.if-specials-ne0.false), omega arith)

pub returns : goal.returns
returns c none =
    last_plain c.args.text.now c.lanes.at 16 (omega arith) (omega arith) c.lanes.invariant.0 (sym c.specials-2.ensures ∙ eqb-true c.specials-2.result 0 none)
