use Rattle.edge_traits.proofs.Outcomes.{cut_itself}
use Rattle.file_disk.proofs.Anything.{time_stands}
use Rattle.file_disk.proofs.folder_disk.FolderDiskDisk.cut.Goals as goal

pub returns-in-Ok-clause-time : goal.returns-in-Ok-clause-time
returns-in-Ok-clause-time g c = time_stands c.args.self.now.faults c.try_cut.new.self.faults

pub returns-in-Err-clause-time : goal.returns-in-Err-clause-time
returns-in-Err-clause-time g c = time_stands c.args.self.now.faults c.fail.new.self.faults

pub returns-in-Ok-clause-crash : goal.returns-in-Ok-clause-crash
returns-in-Ok-clause-crash g c = λ content left. (content, tt, cut_itself c.args.len content)

pub returns-in-Err-clause-crash : goal.returns-in-Err-clause-crash
returns-in-Err-clause-crash g c = λ content left. (content, tt, cut_itself c.args.len content)
