use Rattle.std.proofs.Common.{sym, subst}
use Rattle.step_code.specs.State.{bots_in_force}
use Rattle.collector_feeds.specs.declared.found.Found.{Found}
use Rattle.drain_turns.specs.Moves.{IsEndOf}
use Rattle.drain_turns.proofs.moves.found_move.Goals as goal

pub returns-in-Absent : goal.returns-in-Absent
returns-in-Absent g c = subst (λ (w : Found). IsEndOf (bots_in_force g.R.Rules.meaning c.args.core.now.state) c.args.bot c.args.at w c.absent.result) (sym c.in-Absent.is) (c.absent.ensures c.args.at)
