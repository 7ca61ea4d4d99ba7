use Rattle.std.proofs.Common.{◌∙◌, Some, sym, ap}
use Rattle.base_types.specs.declared.message.Msg.{Msg}
use Rattle.base_types.proofs.Found.{first_at}
use Rattle.stored_types.specs.Hand.{is_hand}
use Rattle.queue_broker.proofs.Calls.{item_placed, number_missing, number_placed}
use Rattle.queue_broker.proofs.broker.Broker.number_in_hand.Goals as goal

pub message_at-requires : goal.message_at-requires
message_at-requires c = (first_at (is_hand c.args.bot.now c.args.instance) c.args.self.now.hands c.in-Some.k (sym c.place_of_hand.ensures ∙ c.in-Some.is)).inside

pub returns-in-Some : goal.returns-in-Some
returns-in-Some c =
    let hands = c.args.self.now.hands in
    let place = sym c.place_of_hand.ensures ∙ c.in-Some.is in
    let (h, at, here) = item_placed (is_hand c.args.bot.now c.args.instance) hands c.in-Some.k place in
    ap (λ (m : Msg). Some m.no) (c.message_at.ensures h at) ∙ sym (number_placed c.args.bot.now c.args.instance hands c.in-Some.k h place at)

pub returns-in-None : goal.returns-in-None
returns-in-None c = sym (number_missing c.args.bot.now c.args.instance c.args.self.now.hands (sym c.place_of_hand.ensures ∙ c.in-None.is))
