use Rattle.bundle_bringing.proofs.Bundles.{code_has_bots}
use Rattle.bundle_bringing.proofs.bringing.code_of.Goals as goal

pub returns-clause-facts : goal.returns-clause-facts
returns-clause-facts c = code_has_bots c.args.bundle.now c.args.plan.now c.bundle_code.result c.requires.coded c.requires.loads c.bundle_code.ensures
