use Rattle.std.proofs.Common.{◌≡◌, is_some, ap, subst}
use Rattle.base_types.specs.declared.message.Msg.{Msg}
use Rattle.stored_types.specs.declared.hand.Hand.{Hand}
use Rattle.step_code.specs.declared.rules.Given.{Given}
use Rattle.step_code.specs.State.{hand_of}
use Rattle.turn_order.proofs.Actors.{full_hand, full_hands_fit}
use Rattle.bot_works.proofs.Gave.{given_of, shown_is}
use Rattle.drain_turns.proofs.Moving.{done_is}
use Rattle.drain_turns.proofs.moves.given_move.Goals as goal

pub unreachable-requires : goal.unreachable-requires
unreachable-requires g c =
    let some = c.requires.full in
    cc (ap is_some c.in_default.ensures, some)

pub returns-in-Pass : goal.returns-in-Pass
returns-in-Pass g c =
    let m = g.R.Rules.meaning in let s = c.args.core.now.state in
    let full = full_hand m s c.args.bot c.args.instance c.plan.ensures.hands c.requires.full in
    let hand = full.hand in
    let shown = shown_is (λ (h : Hand). (c.in-Some.hand.message.now ≡ h.message) × (c.in-Some.hand.tries ≡ h.tries) × (c.in-Some.hand.since ≡ h.since)) (hand_of c.args.bot c.args.instance s) hand full.holds c.in-Some.ensures in
    record {
      is = done_is m s c.args.bot c.args.instance hand c.in-Some.hand.message.now.no c.bundle_no.result c.in-Pass.sends c.in-Pass.dumps c.in-Pass.key c.in-Pass.line full.holds
          (full_hands_fit m s c.args.bot c.args.instance hand full.live full.holds) (ap (λ (x : Msg). x.no) shown.0) c.bundle_no.ensures
          (subst (λ (x : Given). given_of m s c.args.bot hand ≡ x) c.in-Pass.is (c.requires.gave hand full.holds));
    }
