use Rattle.disk_journal.proofs.GateFiles as gate_files
use Rattle.disk_journal.proofs.laws.damaged_has_no_bodies.Goals as goal

pub returns : goal.returns
returns c = gate_files.damaged_has_no_bodies
