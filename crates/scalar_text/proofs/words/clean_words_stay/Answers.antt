use Rattle.scalar_text.proofs.Spellings.{tlp_stays, registry_stays, class_stays, taxonomy_stays}
use Rattle.scalar_text.proofs.words.clean_words_stay.Goals as goal

pub returns-clause-tlp : goal.returns-clause-tlp
returns-clause-tlp c = tlp_stays c.args.text.now

pub returns-clause-registry : goal.returns-clause-registry
returns-clause-registry c = registry_stays c.args.text.now

pub returns-clause-class : goal.returns-clause-class
returns-clause-class c = class_stays c.args.text.now

pub returns-clause-taxonomy : goal.returns-clause-taxonomy
returns-clause-taxonomy c = taxonomy_stays c.args.text.now
