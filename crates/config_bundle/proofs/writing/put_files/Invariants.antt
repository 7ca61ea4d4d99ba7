use Rattle.std.proofs.Common.{◌≡◌, ◌++◌, take}
use Rattle.std.specs.List.{flat_map}
use Rattle.config_bundle.specs.Bundle.{file_code}
use Rattle.config_bundle.proofs.writing.put_files.Given as goal

abbrev pub invariant-files : goal.invariant-files
invariant-files l = l.to ≡ l.fn.to ++ flat_map file_code (take l.file-index l.files)
