use Rattle.std.proofs.Common.{◌≡◌, IfOk, sym, subst}
use Rattle.step_code.specs.Fits.{first_failing, parts}
use Rattle.core_state.specs.State.{state_of}
use Rattle.ack_steps.proofs.refusal.refusal.Goals as goal

pub returns-in-Collect : goal.returns-in-Collect
returns-in-Collect g c =
    subst (λ w. IfOk c.refusal_of_piece.result (λ r. r ≡ first_failing (parts g.R.Rules.meaning (state_of c.args.state.now) w))) (sym c.in-Collect.is)
    (c.refusal_of_piece.ensures g.R.Rules.meaning c.in-Collect.upto c.in-Collect.piece c.requires)

pub returns-in-Take : goal.returns-in-Take
returns-in-Take g c =
    subst (λ w. c.refusal_of_take.result ≡ first_failing (parts g.R.Rules.meaning (state_of c.args.state.now) w)) (sym c.in-Take.is)
    (c.refusal_of_take.ensures g.R.Rules.meaning c.in-Take.message c.requires)

pub returns-in-Reload : goal.returns-in-Reload
returns-in-Reload g c =
    subst (λ w. IfOk c.refusal_of_bundle.result (λ r. r ≡ first_failing (parts g.R.Rules.meaning (state_of c.args.state.now) w))) (sym c.in-Reload.is)
    (c.refusal_of_bundle.ensures (state_of c.args.state.now))

pub returns-in-Redo : goal.returns-in-Redo
returns-in-Redo g c =
    subst (λ w. c.refusal_of_dump.result ≡ first_failing (parts g.R.Rules.meaning (state_of c.args.state.now) w)) (sym c.in-Redo.is)
    (c.refusal_of_dump.ensures g.R.Rules.meaning)
