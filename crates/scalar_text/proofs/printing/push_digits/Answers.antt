use Rattle.std.proofs.Common.{string_bytes, arith}
use Rattle.scalar_text.proofs.Numerals.{pushed_digit}
use Rattle.scalar_text.proofs.printing.push_digits.Goals as goal

pub digits-preserved : goal.digits-preserved
digits-preserved c = record {
  small = c.behind_first-n.ensures.below;
  text = pushed_digit (string_bytes c.digits.text) (string_bytes c.push.new.self) _ _ c.first_digit.result c.digits.left c.digits.n c.behind_first-n.result c.in_ok-push.ensures.bytes (c.in_ok-push.ensures.ascii c.first_digit.ensures.ascii) c.first_digit.ensures.code c.behind_first-n.ensures.value (omega arith) c.if-n-ne0.true c.digits.invariant.text;
}
