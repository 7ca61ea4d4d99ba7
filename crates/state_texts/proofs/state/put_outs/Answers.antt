use Rattle.std.proofs.Common.{◌+◌, ℕ, List, [], ◌∷◌, ◌∙◌, length, ap₂, codes, decimal}
use Rattle.state_texts.specs.Texts.{line}
use Rattle.std.specs.List.{slice_get}
use Rattle.state_texts.proofs.Lines.{out_put}
use Rattle.base_types.proofs.Options.{some_and}
use Rattle.state_texts.proofs.state.put_outs.Goals as goal

pub outs-preserved : goal.outs-preserved
outs-preserved g c =
    out_put c.args.core.now.state.outs c.outs.slot c.args.text.now c.outs.text c.put_line.new.text _ c.outs.invariant c.in_ok-put_line.ensures (some_and (slice_get c.args.core.now.state.outs c.outs.slot) _ _ (λ o look. ap₂ (λ bot n. line (codes "out") (bot ∷ decimal c.outs.slot ∷ decimal n ∷ [])) (c.bytes.ensures.bytes ∙ look.0) (c.lines_of.ensures ∙ ap₂ (λ (s : ℕ) (ls : List (List ℕ)). s + length ls) look.2 look.3)) c.out_at-out.ensures)
