use Rattle.std.proofs.Common.{◌≡◌, ◌<◌, ◌++◌, string_bytes}
use Rattle.scalar_text.specs.Number.{digits_until_zero}
use Rattle.scalar_text.proofs.printing.push_digits.Given as goal

abbrev pub invariant-digits : goal.invariant-digits
invariant-digits l = record {
  small : l.n < 1000000;
  text : string_bytes l.text ++ digits_until_zero l.left l.n ≡ string_bytes l.fn.text ++ digits_until_zero l.fn.left l.fn.n;
}

abbrev pub decreases-digits : goal.decreases-digits
decreases-digits l = l.left
