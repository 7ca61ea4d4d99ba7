-- What a worker of a case knows between two holds.
use Rattle.std.specs.Prelude.{IfSome}
use Rattle.step_code.specs.Rules.{Task}
use Rattle.tests_rules.specs.Tiny.{meaning}
use Rattle.worker_turns.specs.Collecting.{IsPlace, IsSight}
use Rattle.worker_turns.specs.Holds.{IsDone, IsReadyFor}
use Rattle.table_holds.specs.declared.playing.Play.{Play}

-- all of it holds of the book as it is
pub record IsPlaying (p : Play) : Type 0 where
  pub ready : IfSome p.instance.ready (IsReadyFor meaning (λ (t : Task). t) p.locked p.instance.bot)
  pub done : IfSome p.done (IsDone meaning p.locked p.instance.bot)
  pub place : IfSome p.place (IsPlace meaning p.locked p.collector.bot p.collector.file)
  pub sight : IfSome p.sight (IsSight meaning p.locked p.collector.bot p.collector.file)
