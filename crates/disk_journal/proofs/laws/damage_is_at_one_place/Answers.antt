use Rattle.disk_journal.proofs.GateFiles as gate_files
use Rattle.disk_journal.proofs.laws.damage_is_at_one_place.Goals as goal

pub returns : goal.returns
returns c = gate_files.damage_is_at_one_place
