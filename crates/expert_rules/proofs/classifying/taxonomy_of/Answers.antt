use Rattle.expert_rules.proofs.Types.{word_field}
use Rattle.expert_rules.proofs.classifying.taxonomy_of.Goals as goal

pub returns-in-Text-clause-field : goal.returns-in-Text-clause-field
returns-in-Text-clause-field c = word_field c.taxonomy_of.result c.in-Text.class c.taxonomy_of.ensures
