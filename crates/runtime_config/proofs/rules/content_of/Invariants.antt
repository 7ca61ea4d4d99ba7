use Rattle.std.proofs.Common.{◌≡◌, drop}
use Rattle.runtime_config.specs.Faults.{content_of}
use Rattle.runtime_config.proofs.rules.content_of.Given as goal

abbrev pub invariant-files : goal.invariant-files
invariant-files l = content_of l.files l.name ≡ content_of (drop l.file-index l.files) l.name
