use Rattle.std.proofs.Common.{List, ℕ, IfSome, sym, subst}
use Rattle.step_code.specs.Rules.{Task}
use Rattle.tests_rules.specs.Tiny.{meaning}
use Rattle.worker_turns.specs.Holds.{IsDone, IsReadyFor}
use Rattle.table_holds.proofs.Knowing.{grows, if_place, if_sight}
use Rattle.table_holds.proofs.playing.Play.hold.Goals as goal

pub returns : goal.returns
returns c =
    let old = c.args.self.now.locked in let new = c.instance_turn.new.locked in
    let prefix = grows old new _ _ c.instance_turn.ensures.still c.instance_turn.ensures.adds in
    record {
      ready = subst (λ (b : List ℕ). IfSome c.instance_turn.new.worker.ready (IsReadyFor meaning (λ (t : Task). t) new b)) (sym c.instance_turn.ensures.worker.0) c.instance_turn.ensures.ready;
      done = subst (λ o. IfSome o (IsDone meaning new c.instance_turn.new.worker.bot)) (sym c.take-done.ensures.after) tt;
      place = if_place old new _ _ _ prefix c.requires.place;
      sight = if_sight old new _ _ _ prefix c.requires.sight;
    }
