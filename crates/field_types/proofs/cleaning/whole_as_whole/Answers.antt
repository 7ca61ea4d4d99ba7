use Rattle.std.proofs.lemmas.Int.{to_z-of_z}
use Rattle.std.proofs.Common.{w64}
use Rattle.field_types.specs.Cleaning.{is_short}
use Rattle.std.proofs.Common.{rules, sym, ap, ◌∙◌}
use Rattle.field_types.proofs.Wholes.{small, whole_kept, whole_refused}
use Rattle.field_types.proofs.cleaning.whole_as_whole.Goals as goal

pub returns-then-not-is_short : goal.returns-then-not-is_short
returns-then-not-is_short c =
    whole_refused c.args.n (small c.args.n c.ranges.n.sfits) (ap is_short (sym (to_z-of_z w64 c.args.n c.ranges.n)) ∙ sym c.is_short.ensures ∙ c.if-not-is_short.true)

pub returns : goal.returns
returns c = whole_kept c.args.n _ (search rules) (small c.args.n c.ranges.n.sfits) (ap is_short (sym (to_z-of_z w64 c.args.n c.ranges.n)) ∙ sym c.is_short.ensures ∙ c.if-not-is_short.false)
