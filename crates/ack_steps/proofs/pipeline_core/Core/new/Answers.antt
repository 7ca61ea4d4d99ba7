use Rattle.std.proofs.Common.{◌+◌, ◌^◌, sym, ◌∙◌, ap, subst, arith}
use Rattle.step_code.specs.declared.base.Base.{Base}
use Rattle.step_code.specs.Rules.{IsPlanOf}
use Rattle.ack_steps.specs.Core.{HasNearFeeds, HasSoundHands, IsOrderly}
use Rattle.ack_steps.proofs.Fewer.{few_messages}
use Rattle.ack_steps.proofs.Kept.{near_feeds, sound_caches, sound_hands, sound_orderly}
use Rattle.ack_steps.proofs.Marked.{at_most_more}
use Rattle.ack_steps.proofs.pipeline_core.Core.new.Goals as goal

pub from_base-requires-clause-caches : goal.from_base-requires-clause-caches
from_base-requires-clause-caches g c = sound_caches g.R.Rules.meaning c.args.base c.in_ok-plan.ensures.sound

pub invariant_of-result : goal.invariant_of-result
invariant_of-result g c =
    let same = c.in_ok-from_base.ensures.same in
    let bundle = ap (λ (b : Base). b.bundle) same in (
      c.in_ok-plan.ensures.bundle ∙ sym bundle,
      subst (λ l. IsPlanOf g.R.Rules.meaning l (g.R.Rules.bots_of c.in_ok-plan.plan)) (sym bundle) c.in_ok-plan.ensures.plan,
      c.in_ok-from_base.ensures.lengths,
      subst IsOrderly (sym same) (sound_orderly g.R.Rules.meaning c.args.base c.in_ok-plan.ensures.sound),
      subst (HasSoundHands g.R.Rules.meaning) (sym same) (sound_hands g.R.Rules.meaning c.args.base c.in_ok-plan.ensures.sound),
      subst HasNearFeeds (sym same) (near_feeds g.R.Rules.meaning c.args.base c.in_ok-plan.ensures.sound),
      omega (arith, c.in_ok-from_base.ensures.pushed, few_messages g.R.Rules.meaning c.args.base c.in_ok-plan.ensures.sound, ap (λ (b : Base). b.next_message) same),
      at_most_more (2 ^ 32) (2 ^ 32 + c.in_ok-from_base.field-0.steps) (omega (arith)) c.in_ok-from_base.field-0 c.in_ok-from_base.ensures.marks,
    )
