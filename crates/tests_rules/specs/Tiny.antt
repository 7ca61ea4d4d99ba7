-- What the rules of the tests mean: three bundles, their bots, and what these make of messages.
use Rattle.std.specs.Prelude.{◌==◌, ◌||◌, ℕ, Bool, true, false, List, [], ◌∷◌, Option, Some, None, option_and_then, if◌then◌else◌, codes}
use Rattle.std.specs.Str.{bytes_eq}
use Rattle.base_types.specs.declared.message.FaultNote.{FaultNote}
use Rattle.step_code.specs.declared.rules.CacheRule.{CacheRule}
use Rattle.step_code.specs.declared.rules.Facts.{Facts}
use Rattle.step_code.specs.declared.rules.FeedFacts.{FeedFacts}
use Rattle.step_code.specs.declared.rules.Given.{Given}
use Rattle.step_code.specs.declared.rules.Given.TheVariants as given
use Rattle.step_code.specs.declared.rules.Role.{Role}
use Rattle.step_code.specs.declared.rules.Role.TheVariants as role
use Rattle.step_code.specs.Rules.{Meaning, Task, bot_named}

-- a bot with one instance, without a feed and a cache
abbrev pub plain_bot : List ℕ → Role → List (List ℕ) → Facts
plain_bot name role defaults =
    record { bot = name; role = role; instances = 1; retries = 3; delay = 0; stop = false; defaults = defaults; on_error = []; cache = None; feed = None }

abbrev pub feed_facts : List ℕ → FeedFacts
feed_facts file = record { file = file; chunk_size = 64; replicate = false }

abbrev pub cache_rule : CacheRule
cache_rule = record { ttl = 60; cache_max = 2 }

-- a collector of this name that reads this file
abbrev pub collector : List ℕ → List ℕ → List (List ℕ) → Facts
collector name file defaults = record (plain_bot name role.Collector defaults) { feed = Some (feed_facts file) }

abbrev pub deduplicator : Facts
deduplicator = record (plain_bot (codes "dedup") role.Expert (codes "write-queue" ∷ [])) { cache = Some cache_rule }

-- one with two instances that tries a message twice, then sends it on unchanged to two outputs, and stops
abbrev pub strict_deduplicator : Facts
strict_deduplicator = record deduplicator { instances = 2; retries = 1; stop = true; on_error = codes "write-queue" ∷ codes "store-queue" ∷ [] }

abbrev pub parser : Facts
parser = record (plain_bot (codes "parse") role.Parser (codes "dedup-queue" ∷ [])) { instances = 2 }

abbrev pub writer : List ℕ → Facts
writer name = plain_bot name role.Output []

-- the collector of the first two bundles
abbrev pub first_collector : List (List ℕ) → Facts
first_collector defaults = collector (codes "collect") (codes "feed.csv") defaults

-- a collector and an output
abbrev pub thin_bots : List Facts
thin_bots = first_collector (codes "write-queue" ∷ []) ∷ writer (codes "write") ∷ []

-- a collector that reports to two queues, a parser with two instances, a deduplicator and an output
abbrev pub tiny_bots : List Facts
tiny_bots = first_collector (codes "parse-queue" ∷ codes "write-queue" ∷ []) ∷ deduplicator ∷ parser ∷ writer (codes "write") ∷ []

-- three collectors, the first of them with another file than before, a deduplicator that stops, three outputs, and no parser
abbrev pub other_bots : List Facts
other_bots =
    writer (codes "archive")
    ∷ collector (codes "collect") (codes "other.csv") (codes "dedup-queue" ∷ [])
    ∷ strict_deduplicator
    ∷ collector (codes "fetch") (codes "fetch.csv") (codes "write-queue" ∷ [])
    ∷ collector (codes "gather") (codes "gather.csv") (codes "store-queue" ∷ [])
    ∷ writer (codes "store")
    ∷ writer (codes "write")
    ∷ []

-- the bundles `thin`, `tiny` and `other` alone have bots
abbrev pub bots_of_bundle : List ℕ → Option (List Facts)
bots_of_bundle bundle =
    if bytes_eq bundle (codes "thin") then Some thin_bots
    else if bytes_eq bundle (codes "tiny") then Some tiny_bots
    else if bytes_eq bundle (codes "other") then Some other_bots
    else None

abbrev pub begins_with : ℕ → List ℕ → Bool
begins_with sign [] = false
begins_with sign (b ∷ bs) = b == sign

-- a part of it can't be processed
abbrev pub is_bad : List ℕ → Bool
is_bad body = begins_with 33 body

-- the whole of it can't
abbrev pub is_faulty : List ℕ → Bool
is_faulty body = begins_with 63 body

-- a report is `R` and the piece, and a piece that can't be processed as it is
abbrev pub report : List ℕ → List ℕ
report piece = if is_bad piece || is_faulty piece then piece else 82 ∷ piece

abbrev pub note : FaultNote
note = record { code = 7; text = codes "bad" }

-- a body that begins with `!` is put aside
abbrev pub bad_parts : List ℕ → List (List ℕ × FaultNote)
bad_parts body = if is_bad body then (body, note) ∷ [] else []

-- A parser passes `P` and the body on, and puts a bad body aside; an expert passes `D` and the body on, with the body as
-- key; an output writes a line.
abbrev pub passed_by : Role → List ℕ → Given
passed_by role.Collector body = given.Fault note
passed_by role.Parser body = given.Pass ((codes "dedup-queue", 80 ∷ body) ∷ []) (bad_parts body) None false
passed_by role.Expert body = given.Pass ((codes "write-queue", 68 ∷ body) ∷ []) [] (Some body) false
passed_by role.Output body = given.Pass [] [] None true

-- a body that begins with `?` is a fault to any bot
abbrev pub given_by : Role → List ℕ → Given
given_by role body = if is_faulty body then given.Fault note else passed_by role body

abbrev pub given_as : Option Facts → List ℕ → Given
given_as None body = given.Fault note
given_as (Some f) body = given_by f.role body

-- the bot of a bundle
abbrev pub bot_of : Task → Option Facts
bot_of task = option_and_then (bot_named task.bot) (bots_of_bundle task.bundle)

-- bodies have a byte
abbrev pub is_body : List ℕ → Bool
is_body [] = false
is_body (b ∷ bs) = true

abbrev pub meaning : Meaning
meaning = record { facts = bots_of_bundle; report = λ task piece now. report piece; give = λ task body since. given_as (bot_of task) body; is_lawful = is_body }
