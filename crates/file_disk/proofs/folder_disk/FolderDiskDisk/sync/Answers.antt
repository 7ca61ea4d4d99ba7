use Rattle.file_disk.proofs.Anything.{time_stands}
use Rattle.file_disk.proofs.folder_disk.FolderDiskDisk.sync.Goals as goal

pub returns-in-Ok-clause-time : goal.returns-in-Ok-clause-time
returns-in-Ok-clause-time g c = time_stands c.args.self.now.faults c.try_sync.new.self.faults

pub returns-in-Err-clause-time : goal.returns-in-Err-clause-time
returns-in-Err-clause-time g c = time_stands c.args.self.now.faults c.fail.new.self.faults
