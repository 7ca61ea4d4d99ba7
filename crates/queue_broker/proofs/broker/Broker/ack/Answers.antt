use Rattle.std.proofs.Common.{◌≡◌, ◌∙◌, Some, option_map, sym, ap}
use Rattle.base_types.specs.declared.message.Msg.{Msg}
use Rattle.base_types.proofs.Found.{first_at}
use Rattle.stored_types.specs.declared.hand.Hand.{Hand}
use Rattle.stored_types.specs.Hand.{is_hand}
use Rattle.queue_broker.proofs.Calls.{emptied_placed, hand_placed, item_placed, number_placed}
use Rattle.queue_broker.proofs.broker.Broker.ack.Goals as goal

pub empty_at-requires : goal.empty_at-requires
empty_at-requires c = (first_at (is_hand c.args.bot.now c.args.instance) c.args.self.now.hands c.in-Some.k c.in-Some.ensures.place).inside

pub returns-in-Some-clause-message : goal.returns-in-Some-clause-message
returns-in-Some-clause-message c =
    let hands = c.args.self.now.hands in
    let (h, at, here) = item_placed (is_hand c.args.bot.now c.args.instance) hands c.in-Some.k c.in-Some.ensures.place in
    let is : c.empty_at.result ≡ h.message = c.empty_at.ensures.message h at in
    let same : Some h.message.no ≡ Some c.args.no = sym (number_placed c.args.bot.now c.args.instance hands c.in-Some.k h c.in-Some.ensures.place at) ∙ c.in-Some.ensures.number in
    let number : h.message.no ≡ c.args.no = cc in (
      ap (option_map (λ (x : Hand). x.message)) (hand_placed c.args.bot.now c.args.instance hands c.in-Some.k h c.in-Some.ensures.place at) ∙ ap Some (sym is),
      ap (λ (m : Msg). m.no) is ∙ number,
    )

pub returns-in-Some-clause-emptied : goal.returns-in-Some-clause-emptied
returns-in-Some-clause-emptied c = emptied_placed c.args.self.now c.empty_at.new.self c.args.bot.now c.args.instance c.in-Some.k c.in-Some.ensures.place c.empty_at.ensures.left

pub returns-in-None-clause-fault : goal.returns-in-None-clause-fault
returns-in-None-clause-fault c = (c.in-None.ensures.none, c.number_in_hand.ensures)
