use Rattle.std.proofs.Common.{◌≡◌, ◌+◌, Bool, true, false, length, refl, arith, sym, ◌∙◌, ap, min}
use Rattle.stored_types.specs.Code.{byte, flag, list, name, number, optional}
use Rattle.base_types.specs.Number.{last_u64}
use Rattle.step_code.specs.Code.{bad_part, kind_fields, send}
use Rattle.step_code.proofs.Lengths.{of_eight}
use Rattle.step_code.proofs.step.fields_len.Goals as goal

one : (b : Bool) → length (flag b) ≡ 1
one true = refl
one false = refl

pub returns-in-Done : goal.returns-in-Done
returns-in-Done c =
    let d = c.in-Done in
    let whole = of_eight (name d.bot) (byte d.instance) (number d.message) (number d.bundle) (list send d.sends) (list bad_part d.dumps) (optional d.key) (flag d.line) in
    let message : length (number d.message) ≡ 8 = refl in
    let bundle : length (number d.bundle) ≡ 8 = refl in
    let instance : length (byte d.instance) ≡ 1 = refl in
    let bot : c.code_len-in-Done.result ≡ min (length (name d.bot)) last_u64 = c.code_len-in-Done.ensures in
    let sends : c.code_len-in-Done-2.result ≡ min (length (list send d.sends)) last_u64 = c.code_len-in-Done-2.ensures in
    let dumps : c.code_len-in-Done-3.result ≡ min (length (list bad_part d.dumps)) last_u64 = c.code_len-in-Done-3.ensures in
    let key : c.code_len-in-Done-4.result ≡ min (length (optional d.key)) last_u64 = c.code_len-in-Done-4.ensures in
    let total : c.saturating_add-in-Done-5.result ≡ min (length (name d.bot) + length (byte d.instance) + length (number d.message) + length (number d.bundle) + length (list send d.sends) + length (list bad_part d.dumps) + length (optional d.key) + length (flag d.line)) last_u64 =
    omega (arith, one d.line, message, bundle, instance, bot, sends, dumps, key, c.saturating_add-in-Done.ensures, c.saturating_add-in-Done-2.ensures, c.saturating_add-in-Done-3.ensures, c.saturating_add-in-Done-4.ensures, c.saturating_add-in-Done-5.ensures) in
    total ∙ ap (λ n. min n last_u64) (sym whole) ∙ ap (λ k. min (length (kind_fields k)) last_u64) (sym d.is)
