use Rattle.std.proofs.Common.{Some, set, sym, ◌∙◌, ap, position}
use Rattle.base_types.proofs.Found.{changed_placed, find_placed}
use Rattle.step_code.specs.After.{next_round}
use Rattle.step_code.specs.State.{is_feed}
use Rattle.core_state.proofs.feeds.begin_again.Goals as goal

pub begin_round-requires : goal.begin_round-requires
begin_round-requires c =
    let f = c.index_mut.result.now in
    let place = ap (position (is_feed c.args.bot.now)) (sym c.deref.ensures.value) ∙ sym c.place_of_feed.ensures ∙ c.in-Some.is in
    c.requires f (find_placed (is_feed c.args.bot.now) c.args.feeds.now.items c.in-Some.i f place ∙ ap Some (sym c.index_mut.ensures.value))

pub returns-in-Some : goal.returns-in-Some
returns-in-Some c =
    ap (set c.args.feeds.now.items c.in-Some.i) c.begin_round.ensures
    ∙ sym (changed_placed (is_feed c.args.bot.now) next_round c.args.feeds.now.items c.in-Some.i c.index_mut.result.now
    (ap (position (is_feed c.args.bot.now)) (sym c.deref.ensures.value) ∙ sym c.place_of_feed.ensures ∙ c.in-Some.is) c.index_mut.ensures.value)
