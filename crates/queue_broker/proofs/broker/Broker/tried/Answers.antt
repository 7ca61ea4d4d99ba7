use Rattle.std.proofs.Common.{◌<◌, ◌∙◌, Option, sym, subst}
use Rattle.std.specs.Option.{IsSomeAnd}
use Rattle.base_types.proofs.Found.{first_at}
use Rattle.stored_types.specs.declared.hand.Hand.{Hand}
use Rattle.stored_types.specs.Hand.{is_hand}
use Rattle.queue_broker.specs.Broker.{most_tries}
use Rattle.queue_broker.proofs.Calls.{hand_placed, tried_placed}
use Rattle.queue_broker.proofs.broker.Broker.tried.Goals as goal

pub count_try_at-requires-clause-hand : goal.count_try_at-requires-clause-hand
count_try_at-requires-clause-hand c = (first_at (is_hand c.args.bot.now c.args.instance) c.args.self.now.hands c.in-Some.k (sym c.place_of_hand.ensures ∙ c.in-Some.is)).inside

pub count_try_at-requires-clause-tries : goal.count_try_at-requires-clause-tries
count_try_at-requires-clause-tries c = λ h at.
    subst (λ (o : Option Hand). IsSomeAnd o (λ x. x.tries < most_tries)) (hand_placed c.args.bot.now c.args.instance c.args.self.now.hands c.in-Some.k h (sym c.place_of_hand.ensures ∙ c.in-Some.is) at) c.requires

pub returns : goal.returns
returns c = tried_placed c.args.self.now c.count_try_at.new.self c.args.bot.now c.args.instance c.in-Some.k (sym c.place_of_hand.ensures ∙ c.in-Some.is) c.count_try_at.ensures
