use Rattle.std.proofs.Common.{◌≡◌, ℕ, is_some, nat_lt, Option, Some, [], option_map, unwrap_or, sym, ap, ◌∙◌}
use Rattle.base_types.specs.declared.message.Msg.{Msg}
use Rattle.stored_types.specs.declared.hand.Hand.{Hand}
use Rattle.step_code.specs.declared.rules.Facts.{Facts}
use Rattle.step_code.specs.Rules.{bot_named, passes}
use Rattle.step_code.specs.State.{bots_in_force, hand_of}
use Rattle.turn_order.proofs.Actors.{full_hand, full_hands_fit}
use Rattle.turn_order.proofs.Waiting.{worker_of}
use Rattle.bot_works.proofs.Gave.{shown_is}
use Rattle.drain_turns.proofs.Moving.{ends_tries, fail_is, is_held, retry_is, tries_on}
use Rattle.drain_turns.proofs.moves.fault_move.Goals as goal

pub unreachable-requires : goal.unreachable-requires
unreachable-requires g c =
    let some = c.requires.full in
    cc (ap is_some c.in_default.ensures, some)

pub unreachable-requires-in_default-bot_named : goal.unreachable-requires-in_default-bot_named
unreachable-requires-in_default-bot_named g c =
    let m = g.R.Rules.meaning in let s = c.args.core.now.state in
    let bots : bots_in_force m s ≡ c.as_slice-bots.result.now = ap (λ o. unwrap_or o []) c.plan.ensures.plan ∙ sym (c.as_slice-bots.ensures ∙ c.facts.ensures) in
    let full = full_hand m s c.args.bot c.args.instance c.plan.ensures.hands c.requires.full in
    let worker = worker_of (bots_in_force m s) c.args.bot c.args.instance full.live in
    cc (ap (bot_named c.args.bot) bots, worker.named, c.in_default-bot_named.ensures)

pub returns-in-None : goal.returns-in-None
returns-in-None g c =
    let m = g.R.Rules.meaning in let s = c.args.core.now.state in
    let full = full_hand m s c.args.bot c.args.instance c.plan.ensures.hands c.requires.full in
    let hand = full.hand in
    let fits = full_hands_fit m s c.args.bot c.args.instance hand full.live full.holds in
    let facts = c.in-Some-bot_named.facts.now in
    let bots : bots_in_force m s ≡ c.as_slice-bots.result.now = ap (λ o. unwrap_or o []) c.plan.ensures.plan ∙ sym (c.as_slice-bots.ensures ∙ c.facts.ensures) in
    let named : bot_named c.args.bot (bots_in_force m s) ≡ Some facts = ap (bot_named c.args.bot) bots ∙ c.in-Some-bot_named.ensures in
    let shown = shown_is (λ (h : Hand). (c.in-Some.hand.message.now ≡ h.message) × (c.in-Some.hand.tries ≡ h.tries) × (c.in-Some.hand.since ≡ h.since)) (hand_of c.args.bot c.args.instance s) hand full.holds c.in-Some.ensures in
    let below = tries_on (nat_lt c.in-Some.hand.tries c.policy_of.result.retries) c.policy_of.result.stop (sym c.gives_up.ensures ∙ c.in-None.is) in
    let may = is_held m s c.args.bot c.args.instance hand facts full.holds named ∙ sym (ap (λ (n : ℕ). nat_lt n facts.retries) shown.1) ∙ sym (ap (nat_lt c.in-Some.hand.tries) c.policy_of.ensures.retries) ∙ below in
    record {
      is = retry_is m s c.args.bot c.args.instance hand c.in-Some.hand.message.now.no c.bundle_no-bundle.result c.args.note full.holds fits (ap (λ (x : Msg). x.no) shown.0) c.bundle_no-bundle.ensures may (c.requires.gave hand full.holds);
    }

pub returns-in_ok-copy-in-Some-gives_up : goal.returns-in_ok-copy-in-Some-gives_up
returns-in_ok-copy-in-Some-gives_up g c =
    let m = g.R.Rules.meaning in let s = c.args.core.now.state in
    let full = full_hand m s c.args.bot c.args.instance c.plan.ensures.hands c.requires.full in
    let hand = full.hand in
    let fits = full_hands_fit m s c.args.bot c.args.instance hand full.live full.holds in
    let facts = c.in-Some-bot_named.facts.now in
    let bots : bots_in_force m s ≡ c.as_slice-bots.result.now = ap (λ o. unwrap_or o []) c.plan.ensures.plan ∙ sym (c.as_slice-bots.ensures ∙ c.facts.ensures) in
    let named : bot_named c.args.bot (bots_in_force m s) ≡ Some facts = ap (bot_named c.args.bot) bots ∙ c.in-Some-bot_named.ensures in
    let shown = shown_is (λ (h : Hand). (c.in-Some.hand.message.now ≡ h.message) × (c.in-Some.hand.tries ≡ h.tries) × (c.in-Some.hand.since ≡ h.since)) (hand_of c.args.bot c.args.instance s) hand full.holds c.in-Some.ensures in
    let ends = ends_tries (nat_lt c.in-Some.hand.tries c.policy_of.result.retries) c.policy_of.result.stop c.in-Some-gives_up.halts (sym c.gives_up.ensures ∙ c.in-Some-gives_up.is) in
    let may = is_held m s c.args.bot c.args.instance hand facts full.holds named ∙ sym (ap (λ (n : ℕ). nat_lt n facts.retries) shown.1) ∙ sym (ap (nat_lt c.in-Some.hand.tries) c.policy_of.ensures.retries) ∙ ends.0 in
    record {
      is = fail_is m s c.args.bot c.args.instance hand c.in-Some.hand.message.now.no c.bundle_no-bundle.result c.args.note c.in_ok-copy-in-Some-gives_up.field-0 c.in-Some-gives_up.halts full.holds fits
          (ap (λ (x : Msg). x.no) shown.0) c.bundle_no-bundle.ensures may (c.requires.gave hand full.holds)
          (c.in_ok-copy-in-Some-gives_up.ensures ∙ sym (ap (λ (o : Option Facts). unwrap_or (option_map (λ (f : Facts). f.on_error) o) []) named))
          (sym ends.1 ∙ c.policy_of.ensures.stop ∙ sym (ap (passes (λ (f : Facts). f.stop)) named));
    }
