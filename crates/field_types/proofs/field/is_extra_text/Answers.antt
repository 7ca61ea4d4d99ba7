use Rattle.std.proofs.Common.{nat_le, sym, ap, subst, ◌∙◌}
use Rattle.std.specs.List.{list_all}
use Rattle.std.specs.Prelude.{IsUtf8}
use Rattle.field_types.proofs.Utf8.{text_part}
use Rattle.field_types.proofs.field.is_extra_text.Goals as goal

pub returns-then-name-le-LONGEST_EXTRA_PART : goal.returns-then-name-le-LONGEST_EXTRA_PART
returns-then-name-le-LONGEST_EXTRA_PART c =
    let sized = c.if-name-le-LONGEST_EXTRA_PART.true in
    let bytes = c.as_bytes.ensures in
    text_part c.args.name.now c.has_no_control.result (sym c.is_empty.ensures ∙ sized.0) sized.1
    (c.has_no_control.ensures ∙ ap (list_all (λ b. nat_le 32 b)) bytes.value) (subst IsUtf8 bytes.value bytes.utf8)
