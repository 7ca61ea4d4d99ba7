-- Caches of bots, as the lists that they stand for.
use Rattle.std.specs.Prelude.{◌≤◌, ℕ, Bool, List, map}
use Rattle.std.specs.List.{AllByRecursion}
use Rattle.std.specs.Str.{bytes_eq}
use Rattle.step_code.specs.declared.cache.BotCache.{BotCache}
use Rattle.dedup_cache.specs.Cache.{DoNotFall, HaveOwnKeys}
use Rattle.core_state.specs.declared.caches.Marks.{Marks}

abbrev pub cache_of : Marks → BotCache
cache_of m = record { bot = m.bot; marks = m.marks.marks }

abbrev pub caches_of : List Marks → List BotCache
caches_of ms = map cache_of ms

abbrev pub has_bot : List ℕ → Marks → Bool
has_bot bot m = bytes_eq m.bot bot

-- to no cache more marks came than this
abbrev pub GotAtMost : ℕ → List Marks → Type 0
GotAtMost n ms = AllByRecursion (λ m. m.marks.pushed ≤ n) ms

-- caches can hold the marks of these lists: their moments don't fall, and no two of a list have one key
abbrev pub AreCaches : List BotCache → Type 0
AreCaches caches = AllByRecursion (λ c. DoNotFall c.marks × HaveOwnKeys c.marks) caches
