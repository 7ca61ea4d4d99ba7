use Rattle.std.proofs.Common.{ap, ◌∙◌}
use Rattle.scalar_text.specs.Words.{classes, taxonomy_in}
use Rattle.scalar_text.proofs.words.taxonomy_of.Goals as goal

pub returns : goal.returns
returns c = c.taxonomy_in.ensures ∙ ap (λ class. taxonomy_in classes class) c.bytes.ensures
