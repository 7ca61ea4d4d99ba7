use Rattle.std.proofs.Common.{None, refl, sym, subst}
use Rattle.drain_turns.specs.Turn.{IsCollectorsTurn, going}
use Rattle.drain_turns.proofs.Moving.{all_sound}
use Rattle.drain_turns.proofs.Nobody.{nobody_only_if_halted}
use Rattle.drain_turns.proofs.Turning.{never_acts}
use Rattle.turn_order.proofs.Actors.{first_actors_may_act}
use Rattle.turn_order.specs.Turn.{collectors}
use Rattle.drain_loop.specs.Calls.{outside}
use Rattle.drain_loop.proofs.Moving.{asked_turn, failed_ends, failed_one, found_file, found_next, halted_ends}
use Rattle.drain_loop.proofs.next.next_move.Goals as goal

pub actor_move-requires-clause-actor : goal.actor_move-requires-clause-actor
actor_move-requires-clause-actor g c =
    let m = g.R.Rules.meaning in let s = c.args.core.now.state in
    first_actors_may_act m s c.in-Some.actor (all_sound m s g.met.R.Rules.bots_are_sound) (sym c.in-Some.ensures)

pub found_move-requires : goal.found_move-requires
found_move-requires g c =
    let m = g.R.Rules.meaning in let s = c.args.core.now.state in let shelf = g.H.Shelf.shelf c.args.shelf.now in
    let asked = subst (IsCollectorsTurn (outside m shelf None 0) s (going m s)) c.in-Finds.is (c.in-Ok-first_found.ensures.turn shelf None 0 (collectors m s) refl c.requires.of) in
    found_file (outside m shelf None 0) s c.in-Finds.bot c.in-Finds.at c.in-Finds.what (all_sound m s g.met.R.Rules.bots_are_sound) (asked_turn (outside m shelf None 0) s _ (sym c.in-None.ensures) asked)

pub unreachable-requires : goal.unreachable-requires
unreachable-requires g c =
    let m = g.R.Rules.meaning in let s = c.args.core.now.state in let shelf = g.H.Shelf.shelf c.args.shelf.now in
    never_acts (outside m shelf None 0) s (going m s) c.in-Acts.actor (subst (IsCollectorsTurn (outside m shelf None 0) s (going m s)) c.in-Acts.is (c.in-Ok-first_found.ensures.turn shelf None 0 (collectors m s) refl c.requires.of))

pub halted-requires : goal.halted-requires
halted-requires g c =
    let m = g.R.Rules.meaning in let s = c.args.core.now.state in let shelf = g.H.Shelf.shelf c.args.shelf.now in
    let asked = subst (IsCollectorsTurn (outside m shelf None 0) s (going m s)) c.in-Nobody.is (c.in-Ok-first_found.ensures.turn shelf None 0 (collectors m s) refl c.requires.of) in
    nobody_only_if_halted (outside m shelf None 0) s c.requires.hands (all_sound m s g.met.R.Rules.bots_are_sound) (asked_turn (outside m shelf None 0) s _ (sym c.in-None.ensures) asked) c.requires.busy

pub returns-in-Finds-clause-next : goal.returns-in-Finds-clause-next
returns-in-Finds-clause-next g c = λ first clock limit told.
    let m = g.R.Rules.meaning in let s = c.args.core.now.state in
    let asked = subst (IsCollectorsTurn (outside m first clock limit) s (going m s)) c.in-Finds.is (c.in-Ok-first_found.ensures.turn first clock limit (collectors m s) told c.requires.of) in
    found_next (outside m first clock limit) s c.in-Finds.bot c.in-Finds.at c.in-Finds.what c.found_move.result (all_sound m s g.met.R.Rules.bots_are_sound) c.requires.latest
    (asked_turn (outside m first clock limit) s _ (sym c.in-None.ensures) asked) c.found_move.ensures

pub returns-in-Nobody-clause-next : goal.returns-in-Nobody-clause-next
returns-in-Nobody-clause-next g c = λ first clock limit told.
    let m = g.R.Rules.meaning in let s = c.args.core.now.state in
    let asked = subst (IsCollectorsTurn (outside m first clock limit) s (going m s)) c.in-Nobody.is (c.in-Ok-first_found.ensures.turn first clock limit (collectors m s) told c.requires.of) in
    halted_ends (outside m first clock limit) s c.halted.result (asked_turn (outside m first clock limit) s _ (sym c.in-None.ensures) asked) c.halted.ensures

pub returns-in-Err-first_found-clause-next : goal.returns-in-Err-first_found-clause-next
returns-in-Err-first_found-clause-next g c = λ first clock limit told. failed_ends c.first_found.new.feeds c.in-Err-first_found.end c.in-Err-first_found.ensures.end (outside g.R.Rules.meaning first clock limit) c.args.core.now.state

pub returns-in-Err-first_found-clause-end : goal.returns-in-Err-first_found-clause-end
returns-in-Err-first_found-clause-end g c = failed_one c.first_found.new.feeds c.in-Err-first_found.end c.in-Err-first_found.ensures.end
