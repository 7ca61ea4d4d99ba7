-- The paths of a bot, where each of their queues is that of a bot.
use Rattle.std.specs.Prelude.{ℕ, List, [], ◌∷◌, Option, Some, None, option_map, if◌then◌else◌}
use Rattle.event_model.specs.Trees.{both}
use Rattle.runtime_config.specs.Faults.{is_known}
use Rattle.runtime_text.specs.Runtime.{Entry, Route as Path}
use Rattle.runtime_config.specs.declared.plan.Route.{Route}

-- the queue, where it is that of one of the bots
abbrev pub known_queue : List Entry → List ℕ → Option (List ℕ)
known_queue bots queue = if is_known bots queue then Some queue else None

abbrev pub known_queues : List Entry → List (List ℕ) → Option (List (List ℕ))
known_queues bots [] = Some []
known_queues bots (queue ∷ queues) = both (known_queue bots queue) (known_queues bots queues)

abbrev pub known_path : List Entry → Path → Option Route
known_path bots path = option_map (λ queues. record { path = path.0; queues = queues }) (known_queues bots path.1)

abbrev pub known_paths : List Entry → List Path → Option (List Route)
known_paths bots [] = Some []
known_paths bots (path ∷ paths) = both (known_path bots path) (known_paths bots paths)
