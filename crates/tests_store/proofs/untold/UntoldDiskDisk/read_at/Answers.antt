use Rattle.std.proofs.Common.{inl, arith}
use Rattle.tests_store.proofs.untold.UntoldDiskDisk.read_at.Goals as goal

pub returns-clause-time : goal.returns-clause-time
returns-clause-time c = record { later = omega arith; nothing_else = λ t image le left. inl tt; keeps = λ t image le left. tt }
