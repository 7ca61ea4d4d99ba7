use Rattle.std.proofs.Common.{◌≡◌, ◌∙◌, None, is_some, sym, ap}
use Rattle.base_types.specs.Name.{queue_name}
use Rattle.base_types.proofs.Found.{find_missing, first_at}
use Rattle.stored_types.specs.Hand.{is_hand}
use Rattle.stored_types.specs.Queue.{is_queue}
use Rattle.queue_broker.specs.Broker.{given_back, hand_of}
use Rattle.queue_broker.proofs.Calls.{given_first, hand_placed, item_placed}
use Rattle.queue_broker.proofs.broker.Broker.give_back.Goals as goal

pub returns-in_default-clause-held : goal.returns-in_default-clause-held
returns-in_default-clause-held c = sym (ap is_some (find_missing (is_hand c.args.bot.now c.args.instance) c.args.self.now.hands (sym c.place_of_hand.ensures ∙ c.in_default.is)))

pub returns-in_default-clause-given_back : goal.returns-in_default-clause-given_back
returns-in_default-clause-given_back c =
    let none : hand_of c.args.bot.now c.args.instance c.args.self.now.hands ≡ None = find_missing (is_hand c.args.bot.now c.args.instance) c.args.self.now.hands (sym c.place_of_hand.ensures ∙ c.in_default.is) in
    ap (λ held. given_back c.args.bot.now c.args.instance held c.args.self.now) (sym none)

pub place_of_hand_queue-i-requires : goal.place_of_hand_queue-i-requires
place_of_hand_queue-i-requires c = (first_at (is_hand c.args.bot.now c.args.instance) c.args.self.now.hands c.in-Some.k (sym c.place_of_hand.ensures ∙ c.in-Some.is)).inside

pub give_back_at-requires-clause-hand : goal.give_back_at-requires-clause-hand
give_back_at-requires-clause-hand c = (first_at (is_hand c.args.bot.now c.args.instance) c.args.self.now.hands c.in-Some.k (sym c.place_of_hand.ensures ∙ c.in-Some.is)).inside

pub give_back_at-requires-clause-queue : goal.give_back_at-requires-clause-queue
give_back_at-requires-clause-queue c =
    let (h, at, here) = item_placed (is_hand c.args.bot.now c.args.instance) c.args.self.now.hands c.in-Some.k (sym c.place_of_hand.ensures ∙ c.in-Some.is) in
    (first_at (is_queue (queue_name h.bot)) c.args.self.now.queues c.place_of_hand_queue-i.result (c.place_of_hand_queue-i.ensures h at)).inside

pub returns-clause-held : goal.returns-clause-held
returns-clause-held c =
    let place = sym c.place_of_hand.ensures ∙ c.in-Some.is in
    let (h, at, here) = item_placed (is_hand c.args.bot.now c.args.instance) c.args.self.now.hands c.in-Some.k place in
    sym (ap is_some (hand_placed c.args.bot.now c.args.instance c.args.self.now.hands c.in-Some.k h place at))

pub returns-clause-given_back : goal.returns-clause-given_back
returns-clause-given_back c =
    given_first c.args.self.now c.give_back_at.new.self c.args.bot.now c.args.instance c.in-Some.k c.place_of_hand_queue-i.result (sym c.place_of_hand.ensures ∙ c.in-Some.is) c.place_of_hand_queue-i.ensures c.give_back_at.ensures
