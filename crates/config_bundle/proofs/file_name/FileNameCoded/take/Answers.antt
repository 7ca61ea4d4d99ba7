use Rattle.std.specs.Int.{w16}
use Rattle.std.specs.Str.{is_utf8}
use Rattle.std.proofs.lemmas.Str.{is_utf8-from_IsUtf8}
use Rattle.stored_types.specs.Code.{framed_at}
use Rattle.stored_types.proofs.Readers.{tested_yes, tested_no}
use Rattle.stored_types.proofs.FieldLaws.{utf8_no_test}
use Rattle.config_bundle.specs.Bundle.{file_name_at}
use Rattle.config_bundle.proofs.file_name.FileNameCoded.take.Goals as goal

pub returns-in-Ok : goal.returns-in-Ok
unfolding file_name_at
returns-in-Ok c = rw c.in-Ok.ensures.text (tested_yes is_utf8 (framed_at w16) _ _ _ c.in_ok-front.ensures (is_utf8-from_IsUtf8 _ c.in-Ok.ensures.utf8))

pub returns-in-Err-Utf8 : goal.returns-in-Err-Utf8
unfolding file_name_at
returns-in-Err-Utf8 c =
    let bad = rw c.in-Err-Utf8.field-0-is at c.in-Err-Utf8.ensures.fault in
    tested_no is_utf8 (framed_at w16) _ _ _ c.in_ok-front.ensures (utf8_no_test _ bad.0)
