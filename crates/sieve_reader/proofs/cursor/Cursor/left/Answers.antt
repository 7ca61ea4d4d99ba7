use Rattle.std.proofs.Common.{arith, length, sym, ap, ◌∙◌}
use Rattle.sieve_reader.proofs.Cursors.{lexemes_len}
use Rattle.sieve_reader.proofs.cursor.Cursor.left.Goals as goal

pub returns-clause-left : goal.returns-clause-left
returns-clause-left c = sym (lexemes_len c.self.inside.text.now c.self.inside.tokens.now c.self.inside.patterns) ∙ ap length c.self.view_is

pub returns-clause-few : goal.returns-clause-few
returns-clause-few c = omega (arith, c.self.invariant.1)
