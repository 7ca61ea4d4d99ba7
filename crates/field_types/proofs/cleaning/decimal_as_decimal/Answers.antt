use Rattle.std.proofs.lemmas.Int.{to_z-of_z}
use Rattle.std.proofs.Common.{w64}
use Rattle.field_types.specs.Cleaning.{is_short}
use Rattle.std.proofs.Common.{rules, sym, ap, ◌∙◌}
use Rattle.field_types.proofs.Wholes.{small, own_decimal_kept, own_decimal_refused, extra_decimal_kept, extra_decimal_refused}
use Rattle.field_types.proofs.cleaning.decimal_as_decimal.Goals as goal

pub returns-then-not-is_short-clause-decimal : goal.returns-then-not-is_short-clause-decimal
returns-then-not-is_short-clause-decimal c = own_decimal_refused c.args.n (small c.args.n c.ranges.n.sfits) (ap is_short (sym (to_z-of_z w64 c.args.n c.ranges.n)) ∙ sym c.is_short.ensures ∙ c.if-not-is_short.true)

pub returns-then-not-is_short-clause-extra : goal.returns-then-not-is_short-clause-extra
returns-then-not-is_short-clause-extra c = extra_decimal_refused c.args.n (ap is_short (sym (to_z-of_z w64 c.args.n c.ranges.n)) ∙ sym c.is_short.ensures ∙ c.if-not-is_short.true)

pub returns-clause-decimal : goal.returns-clause-decimal
returns-clause-decimal c = own_decimal_kept c.args.n _ (search rules) (small c.args.n c.ranges.n.sfits) (ap is_short (sym (to_z-of_z w64 c.args.n c.ranges.n)) ∙ sym c.is_short.ensures ∙ c.if-not-is_short.false)

pub returns-clause-extra : goal.returns-clause-extra
returns-clause-extra c = extra_decimal_kept c.args.n _ (search rules) (ap is_short (sym (to_z-of_z w64 c.args.n c.ranges.n)) ∙ sym c.is_short.ensures ∙ c.if-not-is_short.false)
