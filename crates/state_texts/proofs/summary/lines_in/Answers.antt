use Rattle.std.proofs.Common.{◌+◌, ◌∙◌, ℕ, List, length, ap₂}
use Rattle.std.specs.List.{slice_get}
use Rattle.state_texts.proofs.Lines.{lines_added}
use Rattle.base_types.proofs.Options.{some_and}
use Rattle.state_texts.proofs.summary.lines_in.Goals as goal

pub outs-preserved : goal.outs-preserved
outs-preserved g c =
    lines_added c.args.core.now.state.outs c.outs.slot c.lines_of.result c.outs.lines c.in-Some.sum c.outs.invariant c.in-Some.ensures.1
    (some_and (slice_get c.args.core.now.state.outs c.outs.slot) _ _ (λ o look. c.lines_of.ensures ∙ ap₂ (λ (s : ℕ) (ls : List (List ℕ)). s + length ls) look.2 look.3) c.out_at.ensures)
