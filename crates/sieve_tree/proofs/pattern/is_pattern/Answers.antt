use Rattle.sieve_tree.proofs.PatternTexts.{read_is_pattern, refused_is_none}
use Rattle.sieve_tree.proofs.pattern.is_pattern.Goals as goal

pub returns-in_default : goal.returns-in_default
returns-in_default c = read_is_pattern c.args.text.now _ _ (rw c.default.ensures at c.in_default.ensures.ok)

pub returns-in_default-kind : goal.returns-in_default-kind
returns-in_default-kind c = refused_is_none c.args.text.now c.in-Err.error.kind (rw c.default.ensures at c.in-Err.ensures.err) c.in_default-kind.not-OutOfMemory
