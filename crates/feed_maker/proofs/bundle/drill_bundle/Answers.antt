use Rattle.std.proofs.Common.{List, ℕ, ap, ◌∙◌}
use Rattle.config_bundle.specs.declared.bundle.Bundle.{Bundle}
use Rattle.feed_maker.specs.Drill.{drill_runtime}
use Rattle.feed_maker.proofs.bundle.drill_bundle.Goals as goal

abbrev with_parts : List ℕ → List (List ℕ × List ℕ) → Bundle
with_parts runtime files = record { runtime = runtime; files = files }

pub returns : goal.returns
returns c =
    ap (λ runtime. with_parts runtime c.new-2.result) (c.in_ok-new.ensures ∙ c.as_bytes.ensures.value) ∙ ap (with_parts drill_runtime) c.new-2.ensures
