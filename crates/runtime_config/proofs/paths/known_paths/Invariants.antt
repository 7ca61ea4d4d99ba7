use Rattle.std.proofs.Common.{◌≡◌, drop}
use Rattle.event_model.proofs.Written.{in_front}
use Rattle.runtime_config.specs.Paths.{known_paths}
use Rattle.runtime_text.specs.Read.{entries_of, entry_of}
use Rattle.runtime_text.specs.Runtime.{routes}
use Rattle.runtime_config.proofs.paths.known_paths.Given as goal

abbrev pub invariant-routes : goal.invariant-routes
invariant-routes l =
    known_paths (entries_of l.bots) (routes (entry_of l.bot)) ≡ in_front l.paths.items (known_paths (entries_of l.bots) (drop l.route-index (routes (entry_of l.bot))))
