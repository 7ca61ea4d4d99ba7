use Rattle.std.proofs.Common.{arith}
use Rattle.sieve_reader.proofs.RightTokens.{all_right, few_tokens}
use Rattle.sieve_reader.proofs.cursor.Cursor.new.Goals as goal

pub invariant_of-result : goal.invariant_of-result
invariant_of-result c =
    (all_right c.args.text.now c.args.tokens.now c.requires.tokens, omega (arith, few_tokens c.args.text.now c.args.tokens.now c.requires.tokens, c.requires.short))
