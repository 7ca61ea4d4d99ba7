use Rattle.std.proofs.Common.{sym, ◌∙◌}
use Rattle.event_model.proofs.TreeLemmas.{lexeme_of_one, no_lexeme}
use Rattle.event_model.proofs.tree.lexeme_in.Goals as goal

pub returns-then-len-eq1 : goal.returns-then-len-eq1
returns-then-len-eq1 c = c.dec_text.ensures ∙ lexeme_of_one c.args.members.now.entries (sym c.len.ensures.len ∙ c.if-len-eq1.true)

pub returns-else-len-eq1 : goal.returns-else-len-eq1
returns-else-len-eq1 c = no_lexeme c.args.members.now.entries (λ one. c.if-len-eq1.false (c.len.ensures.len ∙ one))
