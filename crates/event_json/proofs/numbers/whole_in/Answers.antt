use Rattle.std.proofs.Common.{◌≡◌, get_or, false, ◌==◌, sym, ap, ◌∙◌, rules}
use Rattle.fast_float.specs.Text.{scan}
use Rattle.scalar_text.specs.Quote.{is_decimal}
use Rattle.serde_json.specs.Read.{number_of, number_from}
use Rattle.event_json.proofs.Numerals.{begins_plain}
use Rattle.event_json.proofs.numbers.whole_in.Goals as goal

pub returns-in-Some : goal.returns-in-Some
unfolding number_of
returns-in-Some c =
    let s = c.as_bytes-bytes.result.now in
    let plain : (get_or s 0 0 == 45) ≡ false = begins_plain s (c.is_short_whole.ensures.digits c.if-not-is_short_whole.false) in
    let read : number_from false (scan s) ≡ number_of s = rw plain in
    record {
      value = c.in-Some.n;
      is = search rules;
      read = ap number_of (sym c.as_bytes-bytes.ensures.value) ∙ sym read ∙ ap (number_from false) (sym c.scan.ensures.parts) ∙ c.in-Some.ensures;
      short = search rules;
      whole = ap is_decimal (sym c.as_bytes-bytes.ensures.value) ∙ c.is_short_whole.ensures.whole c.if-not-is_short_whole.false;
    }
