-- Which bot sends to which, and what is reached through several.
use Rattle.std.specs.Prelude.{◌≡◌, ℕ, List, [], ◌∷◌, ◌&&◌, ◌||◌, Bool, true, not}
use Rattle.std.specs.List.{flat_map, list_any}
use Rattle.std.specs.Str.{bytes_eq}
use Rattle.base_types.specs.Lists.{IsIn}
use Rattle.base_types.specs.Name.{queue_name}
use Rattle.module_settings.specs.Modules.{is_collector}
use Rattle.runtime_text.specs.Runtime.{module_of, routes, Entry}

-- the queues of all paths of a bot
abbrev pub targets : Entry → List (List ℕ)
targets bot = flat_map (λ r. r.1) (routes bot)

-- the queue is that of the bot, which is no collector
abbrev pub is_queue_of : List ℕ → Entry → Bool
is_queue_of queue bot = bytes_eq queue (queue_name bot.0) && not (is_collector (module_of bot))

-- some path of the one names the queue of the other
unfoldable pub sends : Entry → Entry → Bool
sends from to = list_any (λ queue. is_queue_of queue to) (targets from)

-- what a bot sends comes to the other, at once or through some of these bots
pub data Reaches (bots : List Entry) (to : Entry) : Entry → Type 0 where
  At-once : (from : Entry) → sends from to ≡ true → Reaches bots to from
  Through : (from next : Entry) → IsIn next bots → sends from next ≡ true → Reaches bots to next → Reaches bots to from

-- that test: without the first of these bots, or to it and from it on
unfoldable pub reaches : List Entry → Entry → Entry → Bool
reaches [] from to = sends from to
reaches (next ∷ others) from to = reaches others from to || (reaches others from next && reaches others next to)
