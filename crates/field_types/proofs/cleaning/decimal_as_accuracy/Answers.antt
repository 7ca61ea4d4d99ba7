use Rattle.std.proofs.lemmas.Int.{to_z-of_z}
use Rattle.std.proofs.Common.{w64}
use Rattle.field_types.specs.Cleaning.{is_accuracy}
use Rattle.std.proofs.Common.{rules, sym, ap, ◌∙◌}
use Rattle.field_types.proofs.Wholes.{small, own_accuracy_kept, own_accuracy_refused}
use Rattle.field_types.proofs.cleaning.decimal_as_accuracy.Goals as goal

pub returns-then-not-is_accuracy : goal.returns-then-not-is_accuracy
returns-then-not-is_accuracy c = own_accuracy_refused c.args.n (small c.args.n c.ranges.n.sfits) (ap is_accuracy (sym (to_z-of_z w64 c.args.n c.ranges.n)) ∙ sym c.is_accuracy.ensures ∙ c.if-not-is_accuracy.true)

pub returns : goal.returns
returns c = own_accuracy_kept c.args.n _ (search rules) (ap is_accuracy (sym (to_z-of_z w64 c.args.n c.ranges.n)) ∙ sym c.is_accuracy.ensures ∙ c.if-not-is_accuracy.false)
