use Rattle.disk_journal.proofs.GateFiles as gate_files
use Rattle.disk_journal.proofs.laws.bodies_are_one.Goals as goal

pub returns : goal.returns
returns c = gate_files.bodies_are_one
