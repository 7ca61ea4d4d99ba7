use Rattle.std.proofs.Common.{None, IfSome, sym, subst}
use Rattle.tests_rules.specs.Tiny.{meaning}
use Rattle.worker_turns.specs.Collecting.{IsLooked, IsPlace, IsSight}
use Rattle.worker_turns.specs.declared.collector.Collector.{Collector}
use Rattle.table_holds.proofs.Knowing.{grows, if_done, if_place, if_ready, none_told}
use Rattle.table_holds.proofs.playing.Play.gather.Goals as goal

pub returns-in-Looks : goal.returns-in-Looks
returns-in-Looks c =
    let old = c.args.self.now.locked in let new = c.collector_turn-looked.new.locked in let turn = c.collector_turn-looked.ensures in
    let prefix = grows old new _ _ turn.still (λ none. turn.adds none None (none_told _)) in
    let worker = c.collector_turn-looked.new.worker in let was = c.args.self.now.collector in
    record {
      ready = if_ready old new _ _ prefix c.requires.ready;
      done = if_done old new _ _ prefix c.requires.done;
      place = subst (λ (w : Collector). IsPlace meaning new w.bot w.file c.in-Looks.place) (sym turn.worker) (subst (IsLooked meaning c.args.self.now.left old new was.bot was.file _) c.in-Looks.is turn.looked).1;
      sight = subst (λ o. IfSome o (IsSight meaning new worker.bot worker.file)) (sym c.take-sight.ensures.after) tt;
    }

pub returns-in_default : goal.returns-in_default
returns-in_default c =
    let old = c.args.self.now.locked in let new = c.collector_turn-looked.new.locked in let turn = c.collector_turn-looked.ensures in
    let prefix = grows old new _ _ turn.still (λ none. turn.adds none None (none_told _)) in
    let worker = c.collector_turn-looked.new.worker in
    record {
      ready = if_ready old new _ _ prefix c.requires.ready;
      done = if_done old new _ _ prefix c.requires.done;
      place = subst (λ (w : Collector). IfSome c.args.self.now.place (IsPlace meaning new w.bot w.file)) (sym turn.worker) (if_place old new _ _ _ prefix c.requires.place);
      sight = subst (λ o. IfSome o (IsSight meaning new worker.bot worker.file)) (sym c.take-sight.ensures.after) tt;
    }
