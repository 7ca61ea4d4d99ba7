use Rattle.std.proofs.Common.{◌≡◌, Some, rules, w64, sym, ap, ◌∙◌}
use mir.Val.{to_z, of_z}
use Rattle.scalar_text.specs.Number.{decimal_in}
use Rattle.scalar_text.specs.Quote.{is_decimal}
use Rattle.event_json.proofs.Numerals.{pointed}
use Rattle.event_json.proofs.numbers.decimal_in.Goals as goal

pub returns-in-Ok : goal.returns-in-Ok
returns-in-Ok c =
    let text_is = sym c.as_bytes-bytes.ensures.value in
    let same : to_z w64 (of_z w64 c.in-Ok.n) ≡ c.in-Ok.n = search rules in
    record {
      decimal = ap is_decimal text_is ∙ pointed c.as_bytes-bytes.result.now (sym c.has_point_or_exponent.ensures ∙ c.if-not-has_point_or_exponent.false);
      read = ap decimal_in text_is ∙ sym c.in-Ok.ensures.value ∙ ap Some (sym same);
    }
