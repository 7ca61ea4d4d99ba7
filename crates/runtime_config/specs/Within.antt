-- What holds of the bots of every plan.
use Rattle.std.specs.Prelude.{◌≤◌, List, map}
use Rattle.std.specs.List.{AllByRecursion}
use Rattle.std.specs.List.Sorted.{IsStrictlySortedBy}
use Rattle.std.specs.Ordering.{nat_cmp}
use Rattle.std.specs.Cmp.Lexicographic.{slice_cmp}
use Rattle.runtime_config.specs.declared.plan.Module.{Module}
use Rattle.runtime_config.specs.declared.plan.Module.TheVariants as modules
use Rattle.runtime_config.specs.declared.plan.Planned.{Planned}

-- the numbers of a module are within their limits: the bytes of a piece of a feed, the keys that are kept
abbrev pub IsModuleWithin : Module → Type 0
IsModuleWithin (modules.Collector file name provider chunk_size replicate) = (1 ≤ chunk_size) × (chunk_size ≤ 1048576)
IsModuleWithin (modules.Dedup keys keep ttl cache_max) = 1 ≤ cache_max
IsModuleWithin _ = Unit {0}

-- so are those of a bot
pub record IsBotWithin (p : Planned) : Type 0 where
  pub some_instance : 1 ≤ p.instances
  pub instances : p.instances ≤ 16
  pub retries : p.retries ≤ 100
  pub delay : p.delay ≤ 86400
  pub «module» : IsModuleWithin p.«module»

-- bots within their limits, in byte order of their names
pub record AreWithin (bots : List Planned) : Type 0 where
  pub order : IsStrictlySortedBy (slice_cmp nat_cmp) (map (λ p. p.bot) bots)
  pub each : AllByRecursion IsBotWithin bots
