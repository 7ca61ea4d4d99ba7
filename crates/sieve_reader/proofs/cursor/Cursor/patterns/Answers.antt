use Rattle.std.proofs.Common.{subst}
use Rattle.sieve_reader.specs.Ahead.{IsBefore}
use Rattle.sieve_reader.proofs.Cursors.{first_number}
use Rattle.sieve_reader.proofs.cursor.Cursor.patterns.Goals as goal

pub returns : goal.returns
returns c = subst (IsBefore c.self.inside.patterns) c.self.view_is (first_number c.self.inside.patterns c.self.inside.text.now c.self.inside.tokens.now)
