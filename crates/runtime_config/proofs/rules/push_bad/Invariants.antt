use Rattle.std.proofs.Common.{◌≡◌, ◌++◌, map, filter, drop}
use Rattle.runtime_config.specs.Faults.{is_bad}
use Rattle.runtime_text.specs.Read.{entry_of, members_of}
use Rattle.module_settings.specs.Rows.{parameter_of}
use Rattle.runtime_config.proofs.rules.push_bad.Given as goal

-- the names so far, and those of the parameters that are left
abbrev pub invariant-parameters : goal.invariant-parameters
invariant-parameters l =
    l.names.items ++ map (λ q. q.name) (filter (is_bad (members_of l.global) (entry_of l.bot)) (map parameter_of (drop l.parameter-index l.parameters)))
    ≡ l.fn.names.items ++ map (λ q. q.name) (filter (is_bad (members_of l.global) (entry_of l.bot)) (map parameter_of l.parameters))
