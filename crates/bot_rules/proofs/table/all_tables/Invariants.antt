use Rattle.std.proofs.Common.{◌≡◌, map, take}
use Rattle.runtime_config.specs.declared.plan.Planned.{Planned}
use Rattle.bot_rules.specs.Jobs.{table_of}
use Rattle.bot_rules.proofs.table.all_tables.Given as goal

abbrev pub invariant-bots : goal.invariant-bots
invariant-bots l = l.tables.items ≡ map (λ (p : Planned). table_of p.«module») (take l.bot-index l.bots)
