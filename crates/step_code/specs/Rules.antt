-- What rules mean: the bots of a bundle, what a collector reports, and what a bot makes of a message.
use Rattle.std.specs.Prelude.{◌≡◌, ◌≤◌, ℕ, Bool, true, false, not, is_some, IsSome, IsTrue, List, map, Option, Some, None, IfSome, find}
use Rattle.std.specs.List.{AllByRecursion}
use Rattle.std.specs.Str.{bytes_eq}
use Rattle.std.specs.List.Sorted.{IsStrictlySortedBy}
use Rattle.std.specs.Cmp.Lexicographic.{slice_cmp}
use Rattle.std.specs.Ordering.{nat_cmp}
use Rattle.step_code.specs.declared.rules.Facts.{Facts}
use Rattle.step_code.specs.declared.rules.Given.{Given}
use Rattle.step_code.specs.declared.rules.Given.TheVariants as given
use Rattle.step_code.specs.declared.rules.Role.{Role}
use Rattle.step_code.specs.declared.rules.Role.TheVariants as role

-- a bundle, by its bytes, and one of its bots
pub record Task : Type 0 where
  pub bundle : List ℕ
  pub bot : List ℕ

-- the last second of the year 9999
abbrev pub last_moment : ℕ
last_moment = 253_402_300_799

-- the bots of a bundle, if it is one; the body that a collector of a bundle reports of a piece at a moment; what a bot
-- makes of a body that it took at a moment; and the bodies that messages may have
pub record Meaning : Type 0 where
  pub facts : List ℕ → Option (List Facts)
  pub report : Task → List ℕ → ℕ → List ℕ
  pub give : Task → List ℕ → ℕ → Given
  pub is_lawful : List ℕ → Bool

-- a message may have this body
abbrev pub IsLawful : Meaning → List ℕ → Type 0
IsLawful m body = IsTrue (m.is_lawful body)

-- the bot of this name
abbrev pub bot_named : List ℕ → List Facts → Option Facts
bot_named name bots = find (λ f. bytes_eq f.bot name) bots

abbrev pub collects : Facts → Bool
collects f = is_collector f.role
  where
    is_collector : Role → Bool
    is_collector role.Collector = true
    is_collector _ = false

abbrev pub writes : Facts → Bool
writes f = is_output f.role
  where
    is_output : Role → Bool
    is_output role.Output = true
    is_output _ = false

-- it is there, and passes
abbrev pub passes : {A : Type 0} → (A → Bool) → Option A → Bool
passes test None = false
passes test (Some x) = test x

-- the bot is a collector of the plan
abbrev pub is_collector : List Facts → List ℕ → Bool
is_collector bots name = passes collects (bot_named name bots)

-- the bot is one of the plan, and no collector
abbrev pub is_worker : List Facts → List ℕ → Bool
is_worker bots name = passes (λ f. not (collects f)) (bot_named name bots)

-- these are the bots of the bundle
abbrev pub IsPlanOf : Meaning → List ℕ → List Facts → Type 0
IsPlanOf m bundle bots = m.facts bundle ≡ Some bots

-- the limits of one bot: instances, retries, the pause before a retry in seconds, and the bytes of a piece of a feed
abbrev pub most_instances : ℕ
most_instances = 16

abbrev pub most_retries : ℕ
most_retries = 100

abbrev pub longest_delay : ℕ
longest_delay = 86_400

abbrev pub longest_piece : ℕ
longest_piece = 1_048_576

-- a bot within the limits
pub record IsSoundBot (f : Facts) : Type 0 where
  pub some_instance : 1 ≤ f.instances
  pub instances : f.instances ≤ most_instances
  pub retries : f.retries ≤ most_retries
  pub delay : f.delay ≤ longest_delay
  pub feed : is_some f.feed ≡ collects f
  pub some_bytes : IfSome f.feed (λ feed. 1 ≤ feed.chunk_size)
  pub chunk : IfSome f.feed (λ feed. feed.chunk_size ≤ longest_piece)
  pub some_key : IfSome f.cache (λ rule. 1 ≤ rule.cache_max)

-- bots within the limits, in byte order of their names
pub record AreSound (bots : List Facts) : Type 0 where
  pub order : IsStrictlySortedBy (slice_cmp nat_cmp) (map (λ f. f.bot) bots)
  pub each : AllByRecursion IsSoundBot bots

-- what a bot gives fits it: each body is lawful, a key comes only of a bot that drops duplicates, and a line only of one
-- that writes
abbrev pub FitsBot : Meaning → Facts → Given → Type 0
FitsBot m f (given.Pass sends dumps key line) =
    AllByRecursion (λ send. IsLawful m send.1) sends × AllByRecursion (λ dump. IsLawful m dump.0) dumps × (IsSome key → IsSome f.cache) × (IsTrue line → IsTrue (writes f))
FitsBot m f (given.Fault note) = Unit {0}
