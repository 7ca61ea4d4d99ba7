use Rattle.std.proofs.Common.{◌≡◌, take}
use Rattle.std.specs.Str.Parse.{AllDigits}
use Rattle.scalar_text.proofs.time.digits_ahead.Given as goal

abbrev pub invariant-digits : goal.invariant-digits
invariant-digits l = record {
  count : l.n ≡ l.byte-index;
  digits : AllDigits 10 (take l.byte-index l.text);
}
