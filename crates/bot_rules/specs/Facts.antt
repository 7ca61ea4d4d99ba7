-- What the pipeline has to know of a bot that a configuration plans.
use Rattle.std.specs.Prelude.{ℕ, List, [], Bool, codes, find, is_some, Option, Some, None}
use Rattle.std.specs.Str.{bytes_eq}
use Rattle.runtime_config.specs.declared.plan.Module.{Module}
use Rattle.runtime_config.specs.declared.plan.Module.TheVariants as modules
use Rattle.runtime_config.specs.declared.plan.Planned.{Planned}
use Rattle.runtime_config.specs.declared.plan.Route.{Route}
use Rattle.step_code.specs.declared.rules.CacheRule.{CacheRule}
use Rattle.step_code.specs.declared.rules.Facts.{Facts}
use Rattle.step_code.specs.declared.rules.FeedFacts.{FeedFacts}
use Rattle.step_code.specs.declared.rules.Role.{Role}
use Rattle.step_code.specs.declared.rules.Role.TheVariants as role

abbrev pub default_path : List ℕ
default_path = codes "_default"

abbrev pub error_path : List ℕ
error_path = codes "_on_error"

abbrev pub route_named : List ℕ → List Route → Option Route
route_named path routes = find (λ route. bytes_eq route.path path) routes

abbrev pub queues_of : Option Route → List (List ℕ)
queues_of None = []
queues_of (Some route) = route.queues

-- the queues of the path of this name; none where the bot has no such path
abbrev pub queues_on : List ℕ → List Route → List (List ℕ)
queues_on path routes = queues_of (route_named path routes)

-- what a module is for
abbrev pub role_of : Module → Role
role_of (modules.Collector file name provider chunk_size replicate) = role.Collector
role_of (modules.Csv columns delimiter skip_header defaults stamp) = role.Parser
role_of (modules.Json style defaults) = role.Parser
role_of (modules.Sieve sieve) = role.Expert
role_of (modules.Dedup keys keep ttl cache_max) = role.Expert
role_of (modules.Prefix table overwrite) = role.Expert
role_of modules.Taxonomy = role.Expert
role_of (modules.Modify rules overwrite most) = role.Expert
role_of modules.Output = role.Output

-- for how long a deduplicator's key counts as seen, and how many are kept; no other bot drops duplicates
abbrev pub cache_of : Module → Option CacheRule
cache_of (modules.Dedup keys keep ttl cache_max) = Some (record { ttl = ttl; cache_max = cache_max })
cache_of _ = None

-- the feed of a collector; no other bot has one
abbrev pub feed_of : Module → Option FeedFacts
feed_of (modules.Collector file name provider chunk_size replicate) = Some (record { file = file; chunk_size = chunk_size; replicate = replicate })
feed_of _ = None

-- the module is that of collectors
abbrev pub has_feed : Module → Bool
has_feed m = is_some (feed_of m)

-- the facts of a bot: its numbers as they are planned, and the queues of its two paths
unfoldable pub facts_of : Planned → Facts
facts_of p = record {
  bot = p.bot;
  role = role_of p.«module»;
  instances = p.instances;
  retries = p.retries;
  delay = p.delay;
  stop = p.stop;
  defaults = queues_on default_path p.paths;
  on_error = queues_on error_path p.paths;
  cache = cache_of p.«module»;
  feed = feed_of p.«module»;
}
