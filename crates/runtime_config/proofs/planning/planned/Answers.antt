use Rattle.runtime_config.proofs.Faulty.{planned_is}
use Rattle.runtime_config.specs.Load.{planned}
use Rattle.runtime_text.specs.Read.{entry_of, members_of}
use Rattle.runtime_config.proofs.planning.planned.Goals as goal

pub returns : goal.returns
unfolding planned
returns c = (
  c.in_ok-module.ensures.0,
  planned_is c.args.bundle.now (members_of c.args.global.now) (entry_of c.args.bot.now) _ c.name.ensures c.in_ok-module.ensures.1 c.in_ok-shared.ensures.instances_are c.in_ok-shared.ensures.retries_are c.in_ok-shared.ensures.delay_is c.in_ok-shared.ensures.stop_is c.requires.paths,
)
