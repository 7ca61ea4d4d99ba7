use Rattle.std.proofs.Common.{◌≡◌, ap, sym, subst, ◌∙◌}
use Rattle.sieve_tree.specs.SieveView.{SieveView}
use Rattle.sieve_eval.specs.Outcome.{IsOutcome}
use Rattle.sieve_eval.specs.Runs.{run_all}
use Rattle.sieve_eval.specs.Verdicts.{verdict, IsVerdict}
use Rattle.sieve_eval.proofs.Ends.{ends}
use Rattle.sieve_eval.proofs.prepared.Prepared.run.Goals as goal

pub returns-clause-verdict : goal.returns-clause-verdict
unfolding verdict
returns-clause-verdict c =
    let now = c.args.now.0 in
    let state = c.in_ok-state.state in
    let patterns : c.self.inside.setting.patterns ≡ c.args.self.now.patterns = c.self.invariant ∙ ap (λ (s : SieveView). s.patterns) c.self.view_is in
    let items : c.as_slice.result.now ≡ c.args.self.now.items = c.as_slice.ensures ∙ (c.items.ensures.items ∙ ap (λ (s : SieveView). s.items) c.self.view_is) in
    let same =
    ap (λ p. run_all p now c.as_slice.result.now state) patterns
    ∙ (ap (λ is. run_all c.args.self.now.patterns now is state) items ∙ ap (λ s. run_all c.args.self.now.patterns now c.args.self.now.items s) c.in_ok-state.ensures) in
    subst (IsVerdict (verdict c.args.self.now c.args.fields.now now)) (sym c.ended.ensures)
    (ends _ c.run_all-flow.result c.run_all-flow.new.state (subst (λ o. IsOutcome o c.run_all-flow.result c.run_all-flow.new.state) same c.run_all-flow.ensures.outcome))
