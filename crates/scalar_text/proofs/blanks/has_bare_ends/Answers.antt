use Rattle.std.proofs.Common.{sym, ◌∙◌, arith}
use Rattle.std.proofs.lemmas.Bool.{not-true}
use Rattle.scalar_text.proofs.Stripped.{bare_ends}
use Rattle.scalar_text.proofs.blanks.has_bare_ends.Goals as goal

pub returns-then-not-is_blank : goal.returns-then-not-is_blank
returns-then-not-is_blank c bare =
    bare_ends c.args.text.now (omega arith) (sym c.is_blank.ensures ∙ c.if-not-is_blank.true)
    (sym c.is_blank-then-not-is_blank.ensures ∙ not-true c.is_blank-then-not-is_blank.result bare)
