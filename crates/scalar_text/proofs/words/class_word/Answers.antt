use Rattle.std.proofs.Common.{sym}
use Rattle.scalar_text.proofs.Spellings.{class_as_it_stands}
use Rattle.scalar_text.proofs.words.class_word.Goals as goal

pub returns-in-Some : goal.returns-in-Some
returns-in-Some c = sym (class_as_it_stands c.args.text.now c.in-Some.word.now c.from.result (sym c.in-Some.ensures))
