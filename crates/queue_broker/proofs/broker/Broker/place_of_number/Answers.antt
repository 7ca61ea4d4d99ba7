use Rattle.std.proofs.Common.{◌≡◌, ◌∙◌, Some, sym, ap}
use Rattle.base_types.specs.declared.message.Msg.{Msg}
use Rattle.base_types.proofs.Found.{first_at}
use Rattle.stored_types.specs.Hand.{is_hand}
use Rattle.queue_broker.proofs.Calls.{item_placed, number_missing, number_placed}
use Rattle.queue_broker.proofs.broker.Broker.place_of_number.Goals as goal

pub returns-in_default-clause-none : goal.returns-in_default-clause-none
returns-in_default-clause-none c = λ is. absurd (cc (is, number_missing c.args.bot.now c.args.instance c.args.self.now.hands (sym c.place_of_hand.ensures ∙ c.in_default.is)))

pub message_at-requires : goal.message_at-requires
message_at-requires c = (first_at (is_hand c.args.bot.now c.args.instance) c.args.self.now.hands c.in-Some.k (sym c.place_of_hand.ensures ∙ c.in-Some.is)).inside

pub returns-then-held-no-clause-place : goal.returns-then-held-no-clause-place
returns-then-held-no-clause-place c = sym c.place_of_hand.ensures ∙ c.in-Some.is

pub returns-then-held-no-clause-number : goal.returns-then-held-no-clause-number
returns-then-held-no-clause-number c =
    let hands = c.args.self.now.hands in
    let place = sym c.place_of_hand.ensures ∙ c.in-Some.is in
    let (h, at, here) = item_placed (is_hand c.args.bot.now c.args.instance) hands c.in-Some.k place in
    number_placed c.args.bot.now c.args.instance hands c.in-Some.k h place at ∙ ap Some (sym (ap (λ (m : Msg). m.no) (c.message_at.ensures h at)) ∙ c.if-held-no.true)

pub returns-else-held-no-clause-none : goal.returns-else-held-no-clause-none
returns-else-held-no-clause-none c = λ is.
    let hands = c.args.self.now.hands in
    let place = sym c.place_of_hand.ensures ∙ c.in-Some.is in
    let (h, at, here) = item_placed (is_hand c.args.bot.now c.args.instance) hands c.in-Some.k place in
    let same : Some h.message.no ≡ Some c.args.no = sym (number_placed c.args.bot.now c.args.instance hands c.in-Some.k h place at) ∙ is in
    let number : h.message.no ≡ c.args.no = cc in
    c.if-held-no.false (ap (λ (m : Msg). m.no) (c.message_at.ensures h at) ∙ number)
