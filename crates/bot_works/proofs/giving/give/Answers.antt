use Rattle.std.proofs.Common.{ℕ, List, is_some, not, ap, ◌∙◌}
use Rattle.step_code.specs.declared.rules.Facts.{Facts}
use Rattle.step_code.specs.Rules.{collects, passes}
use Rattle.step_code.specs.State.{bots_in_force}
use Rattle.turn_order.proofs.Actors.{full_hand}
use Rattle.turn_order.proofs.Waiting.{worker_of}
use Rattle.bot_works.proofs.Gave.{gave_whatever}
use Rattle.bot_works.specs.declared.works.Ready.{Ready}
use Rattle.bot_works.proofs.giving.give.Goals as goal

pub place_of-requires-clause-worker : goal.place_of-requires-clause-worker
place_of-requires-clause-worker g c =
    let m = g.R.Rules.meaning in let s = c.args.core.now.state in
    let full = full_hand m s c.args.bot.now c.args.instance c.plan.ensures.hands c.requires.full in
    let worker = worker_of (bots_in_force m s) c.args.bot.now c.args.instance full.live in
    ap (passes (λ (f : Facts). not (collects f))) worker.named ∙ worker.worker

pub unreachable-requires : goal.unreachable-requires
unreachable-requires g c =
    let some = c.requires.full in
    cc (ap is_some c.in_default.ensures, some)

pub returns-clause-gave : goal.returns-clause-gave
returns-clause-gave g c =
    let s = c.args.core.now.state in
    let task = ap (λ (r : Ready _). g.R.Rules.task_of r.work) c.index_mut-ready.ensures.value ∙ c.in_ok-place.ensures.ready c.in_ok-place.place c.index_mut-ready.result.now c.in_ok-place.ensures.place
    ∙ ap (λ (b : List ℕ). record { bundle = s.bundle; bot = b }) (c.in_ok-place.ensures.bot c.index_mut-ready.result.now) in
    gave_whatever g.R.Rules.meaning s c.args.bot.now c.args.instance c.give.result (g.R.Rules.task_of c.index_mut-ready.result.now.work) c.in-Some.hand.message.now c.in-Some.hand.since c.in-Some.hand.tries
    c.give.ensures.given task c.in-Some.ensures
