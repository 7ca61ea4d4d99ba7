use Rattle.std.proofs.Common.{rules}
use Rattle.scalar_text.proofs.NumberForms.{decimal_parts}
use Rattle.scalar_text.proofs.number.read_decimal.Goals as goal

pub returns-in-Some-clause-value : goal.returns-in-Some-clause-value
returns-in-Some-clause-value c =
    decimal_parts c.args.text.now c.behind_minus.result.now c.has_minus.result c.in-Some.n _ c.behind_minus.ensures c.has_minus.ensures c.in-Some.ensures.value (search rules)
