use Rattle.std.proofs.Common.{◌≡◌, map, take}
use Rattle.bot_rules.specs.Jobs.{column_of}
use Rattle.bot_rules.proofs.copies.columns_of.Given as goal

abbrev pub invariant-columns : goal.invariant-columns
invariant-columns l = l.made.items ≡ map (column_of l.stamp) (take l.names-index l.columns)
