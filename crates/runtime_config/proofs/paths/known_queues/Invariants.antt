use Rattle.std.proofs.Common.{◌≡◌, drop}
use Rattle.event_model.proofs.Written.{in_front}
use Rattle.runtime_config.specs.Paths.{known_queues}
use Rattle.runtime_text.specs.Read.{entries_of}
use Rattle.runtime_config.proofs.paths.known_queues.Given as goal

abbrev pub invariant-names : goal.invariant-names
invariant-names l = known_queues (entries_of l.bots) l.names ≡ in_front l.queues.items (known_queues (entries_of l.bots) (drop l.name-index l.names))
