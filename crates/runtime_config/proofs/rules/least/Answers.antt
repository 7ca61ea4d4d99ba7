use Rattle.std.proofs.Common.{List, ℕ, Some, sym, ap, ◌∙◌}
use Rattle.runtime_config.proofs.Names.{all_taken, least_onto, one_taken}
use Rattle.runtime_config.proofs.rules.least.Goals as goal

pub names-preserved : goal.names-preserved
names-preserved c =
    one_taken _ c.names.names c.pop.new.self c.in-Some.name c.names.first c.names.invariant c.in-Some.ensures
    ∙ ap (λ (x : List ℕ). least_onto c.pop.new.self (Some x)) (sym c.lesser.ensures)

pub returns : goal.returns
returns c = all_taken c.args.names c.names.names c.names.first c.names.invariant c.in_default.ensures.0
