use Rattle.std.proofs.Common.{inl, arith, length}
use Rattle.edge_traits.proofs.Outcomes.{torn_itself}
use Rattle.tests_store.proofs.untold.UntoldDiskDisk.write_at.Goals as goal

pub returns-clause-time : goal.returns-clause-time
returns-clause-time c = record { later = omega arith; nothing_else = λ t image le left. inl tt; keeps = λ t image le left. tt }

pub returns-clause-crash : goal.returns-clause-crash
returns-clause-crash c = λ left _. (left, tt, torn_itself c.args._at (length c.args._bytes.now) left)
