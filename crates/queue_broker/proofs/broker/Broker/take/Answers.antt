use Rattle.std.proofs.Common.{◌≡◌, ◌∙◌, None, is_some, true≢false, sym, ap, subst}
use Rattle.std.specs.Result.{IfErr}
use Rattle.base_types.specs.Name.{queue_name}
use Rattle.stored_types.specs.Queue.{queued}
use Rattle.queue_broker.specs.Broker.{IsTakeFault, hand_of, number_of}
use Rattle.queue_broker.proofs.Calls.{no_number, on_ok, the_other}
use Rattle.queue_broker.proofs.broker.Broker.take.Goals as goal

pub take_first-requires : goal.take_first-requires
take_first-requires c =
    let none : hand_of c.args.bot.now c.args.instance c.args.self.now.hands ≡ None = no_number (hand_of c.args.bot.now c.args.instance c.args.self.now.hands) (sym c.number_in_hand.ensures ∙ c.in-None.is) in
    record { room = the_other c.requires (λ full. true≢false (sym full ∙ ap is_some none)) }

pub returns-in-None-clause-empty : goal.returns-in-None-clause-empty
returns-in-None-clause-empty c = on_ok c.take_first.result _ (no_number (hand_of c.args.bot.now c.args.instance c.args.self.now.hands) (sym c.number_in_hand.ensures ∙ c.in-None.is))

pub returns-in-None-clause-fault : goal.returns-in-None-clause-fault
returns-in-None-clause-fault c =
    let none : number_of c.args.bot.now c.args.instance c.args.self.now.hands ≡ None = sym c.number_in_hand.ensures ∙ c.in-None.is in
    subst (λ held. IfErr c.take_first.result (IsTakeFault held (queued (queue_name c.args.bot.now) c.args.self.now.queues))) (sym none) c.take_first.ensures.fault
