use Rattle.std.proofs.Common.{take}
use Rattle.std.specs.List.{AllByRecursion}
use Rattle.config_bundle.specs.Bundle.{IsFile}
use Rattle.config_bundle.proofs.bundle.are_files.Given as goal

abbrev pub invariant-files : goal.invariant-files
invariant-files l = AllByRecursion IsFile (take l.file-index l.files)
