use Rattle.std.proofs.Common.{◌∙◌, ap}
use Rattle.std.specs.Prelude.{option_and_then}
use Rattle.std.specs.FinMap.{get}
use Rattle.expert_rules.specs.Taxonomy.{taxonomy_of}
use Rattle.expert_rules.proofs.classifying.taxonomy_for.Goals as goal

pub returns-in-Some-clause-word : goal.returns-in-Some-clause-word
returns-in-Some-clause-word c =
    c.taxonomy_of.ensures.word ∙ ap (option_and_then taxonomy_of) (c.in-Some.ensures.value ∙ ap (get c.args.fields.now) c.in_ok-key.ensures)

pub returns-clause-word : goal.returns-clause-word
returns-clause-word c = ap (option_and_then taxonomy_of) (c.in-None.ensures.value ∙ ap (get c.args.fields.now) c.in_ok-key.ensures)
