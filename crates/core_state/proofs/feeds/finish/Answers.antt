use Rattle.std.proofs.Common.{true, sym, ◌∙◌, ap, position}
use Rattle.base_types.proofs.Found.{changed_placed}
use Rattle.step_code.specs.State.{is_feed}
use Rattle.core_state.proofs.feeds.finish.Goals as goal

pub returns-in-Some : goal.returns-in-Some
returns-in-Some c =
    sym (changed_placed (is_feed c.args.bot.now) (λ f. record f { finished = true }) c.args.feeds.now.items c.in-Some.i c.index_mut.result.now
    (ap (position (is_feed c.args.bot.now)) (sym c.deref.ensures.value) ∙ sym c.place_of_feed.ensures ∙ c.in-Some.is) c.index_mut.ensures.value)
