use Rattle.std.proofs.Common.{Some, None, ap, ◌∙◌, if◌then◌else◌}
use Rattle.field_types.proofs.Utf8.{utf8_ok, utf8_err}
use Rattle.event_text.proofs.string.utf8_text.Goals as goal

pub returns-in-Ok : goal.returns-in-Ok
returns-in-Ok c =
    ap Some c.in-Ok.ensures.text ∙ ap (λ t. if t then Some c.args.bytes.now else None) (utf8_ok c.args.bytes.now c.in-Ok.ensures.utf8)

pub returns-in-Err-Utf8 : goal.returns-in-Err-Utf8
returns-in-Err-Utf8 c =
    let fault = rw c.in-Err-Utf8.field-0-is at c.in-Err-Utf8.ensures.fault in
    ap (λ t. if t then Some c.args.bytes.now else None) (utf8_err c.args.bytes.now fault.0)
