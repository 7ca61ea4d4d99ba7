use Rattle.std.proofs.Common.{◌∙◌, ap}
use Rattle.queue_broker.specs.Broker.{BrokerView, hand_of}
use Rattle.ack_steps.proofs.Fewer.{given_back_sends_none}
use Rattle.ack_steps.proofs.reload.give_back.Goals as goal

pub returns-clause-pushed : goal.returns-clause-pushed
returns-clause-pushed c =
    let broker = c.args.state.now.broker in
    ap (λ (v : BrokerView). v.pushed) c.give_back.ensures.given_back ∙ given_back_sends_none c.args.bot.now c.args.instance (hand_of c.args.bot.now c.args.instance broker.hands) broker
