use Rattle.std.proofs.Common.{ap, subst, ◌∙◌, refl, None}
use Rattle.book_lock.specs.Seats.{knows, opening}
use Rattle.bot_runner.specs.Parts.{HasActed}
use Rattle.bot_runner.proofs.Instances.{begins_work, by_its_names, by_these_names, has_ended}
use Rattle.bot_runner.proofs.instance_part.instance_part.Goals as goal

pub acts-init : goal.acts-init
acts-init g c = (
  tt,
  tt,
  c.requires.lock,
  refl,
  begins_work g.R.Rules.meaning g.R.Rules.task_of (g.C.Clock.told c.args.outside.now.clock.now) c.args.outside.now.left (opening c.args.lock.now) (knows c.args.seat) (record { bot = c.args.bot; number = c.args.number; ready = None; steps = c.new.result }) refl c.new.ensures.items c.requires.new,
)

pub act-back-requires-clause-at_work : goal.act-back-requires-clause-at_work
act-back-requires-clause-at_work g c = by_its_names _ _ _ _ _ _ _ _ _ _ c.acts.invariant.4

pub returns-in-Some-why-clause-ended : goal.returns-in-Some-why-clause-ended
returns-in-Some-why-clause-ended g c =
    let m = g.R.Rules.meaning in
    let clock = g.C.Clock.told c.args.outside.now.clock.now in
    let left = c.args.outside.now.left in
    let o = (opening c.args.lock.now).opening in
    let k = knows c.act-back.result.0 in
    let at = c.acts.invariant.4 in
    has_ended m g.R.Rules.task_of clock left o c.args.bot c.args.number k c.act-back.new.work _ c.in-Some-why.why (ap (λ v. v.items) c.steps_of.ensures)
    (subst (HasActed m g.R.Rules.task_of clock left o c.args.bot c.args.number k c.act-back.new.work) c.in-Some-why.is
    (by_these_names m g.R.Rules.task_of clock left o c.args.bot c.args.number k c.acts.work.worker c.act-back.new.work _ at.bot_is at.number c.act-back.ensures.acted))

pub acts-preserved : goal.acts-preserved
acts-preserved g c =
    let m = g.R.Rules.meaning in
    let clock = g.C.Clock.told c.args.outside.now.clock.now in
    let left = c.args.outside.now.left in
    let o = (opening c.args.lock.now).opening in
    let k = knows c.act-back.result.0 in
    let at = c.acts.invariant.4 in (
      tt,
      tt,
      c.act-back.ensures.lock,
      c.act-back.ensures.parts ∙ c.acts.invariant.3,
      (by_these_names m g.R.Rules.task_of clock left o c.args.bot c.args.number k c.acts.work.worker c.act-back.new.work _ at.bot_is at.number c.act-back.ensures.acted).at,
    )
