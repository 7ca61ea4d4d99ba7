use Rattle.scalar_text.specs.Number.{IsWholeText, IsDecimalText}
use Rattle.scalar_text.proofs.Forms.{form_iff}
use Rattle.scalar_text.proofs.NumberForms.{whole_form, decimal_form}
use Rattle.scalar_text.proofs.number.number_forms_are_exact.Goals as goal

pub returns-clause-whole : goal.returns-clause-whole
returns-clause-whole c = λ z. form_iff (IsWholeText c.args.text.now) _ z (whole_form c.args.text.now)

pub returns-clause-decimal : goal.returns-clause-decimal
returns-clause-decimal c = λ z. form_iff (IsDecimalText c.args.text.now) _ z (decimal_form c.args.text.now)
