use Rattle.std.proofs.Common.{◌≡◌, Bool, true, false, not, List, [], Some, unwrap_or, refl, sym, ap, subst, ◌∙◌}
use Rattle.std.specs.Str.{bytes_eq}
use Rattle.std.proofs.lemmas.Slice.Eq.{bytes_eq-Decides}
use Rattle.base_types.proofs.Everywhere.{all_found}
use Rattle.step_code.specs.declared.rules.Facts.{Facts}
use Rattle.step_code.specs.Rules.{bot_named, IsSoundBot}
use Rattle.step_code.specs.State.{bots_in_force}
use Rattle.worker_turns.proofs.Collecting.{next_place}
use Rattle.worker_turns.proofs.collector.next_look.Goals as goal

is_true : (b : Bool) → not b ≡ false → b ≡ true
is_true true is = refl
is_true false is = absurd (cc)

pub returns-in-Ok : goal.returns-in-Ok
returns-in-Ok g c =
    let m = g.R.Rules.meaning in let s = c.args.core.now.state in let bot = c.args.worker.now.bot in let f = c.in-Some.facts.now in
    let slice = c.as_slice-bots.ensures ∙ c.facts.ensures in
    let in_force : bots_in_force m s ≡ g.R.Rules.bots_of c.plan.result.now = ap (λ o. unwrap_or o []) c.plan.ensures.plan in
    let named : bot_named bot (bots_in_force m s) ≡ Some f = subst (λ (bots : List Facts). bot_named bot bots ≡ Some f) (slice ∙ sym in_force) c.in-Some.ensures in
    let sound : IsSoundBot f = all_found IsSoundBot (λ (x : Facts). bytes_eq x.bot bot) (g.R.Rules.bots_of c.plan.result.now) f (g.met.R.Rules.bots_are_sound _ _ c.plan.ensures.plan).each (subst (λ (bots : List Facts). bot_named bot bots ≡ Some f) in_force named) in
    let file : c.in-Some-feed.feed.file ≡ c.args.worker.now.file = (bytes_eq-Decides c.in-Some-feed.feed.file c.args.worker.now.file).0 (is_true _ (sym c.ne.ensures ∙ c.if-ne.false)) in
    next_place m s bot c.args.worker.now.file f c.in-Some-feed.feed _ named c.in-Some-feed.is sound file c.bundle_no.ensures c.in-Ok.ensures c.position_of.ensures.position c.position_of.ensures.near
    (cc (c.has_finished.ensures, c.if-has_finished.false)) refl
