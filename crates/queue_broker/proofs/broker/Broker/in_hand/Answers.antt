use Rattle.std.proofs.Common.{◌≡◌, ◌∙◌, Option, refl, sym, subst}
use Rattle.std.specs.Option.{IsSomeAnd}
use Rattle.base_types.proofs.Found.{find_missing, first_at}
use Rattle.stored_types.specs.declared.hand.Hand.{Hand}
use Rattle.stored_types.specs.Hand.{is_hand}
use Rattle.queue_broker.specs.Broker.{lent}
use Rattle.queue_broker.proofs.Calls.{hand_placed}
use Rattle.queue_broker.proofs.broker.Broker.in_hand.Goals as goal

pub hand_at-hand-requires : goal.hand_at-hand-requires
hand_at-hand-requires c = (first_at (is_hand c.args.bot.now c.args.instance) c.args.self.now.hands c.in-Some.k (sym c.place_of_hand.ensures ∙ c.in-Some.is)).inside

pub returns-in-Some : goal.returns-in-Some
returns-in-Some c =
    let place = sym c.place_of_hand.ensures ∙ c.in-Some.is in
    let shown = c.hand_at-hand.result in
    subst (λ (o : Option Hand). IsSomeAnd o (λ h. (shown.message.now ≡ h.message) × (shown.tries ≡ h.tries) × (shown.since ≡ h.since)))
    (sym (hand_placed c.args.bot.now c.args.instance c.args.self.now.hands c.in-Some.k (lent shown) place c.hand_at-hand.ensures)) (refl, refl, refl)

pub returns-in-None : goal.returns-in-None
returns-in-None c = find_missing (is_hand c.args.bot.now c.args.instance) c.args.self.now.hands (sym c.place_of_hand.ensures ∙ c.in-None.is)
