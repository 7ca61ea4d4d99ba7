-- The drill: its bundle, and the shelf that has its feed.
use Rattle.std.specs.Prelude.{ℕ, List, [], ◌∷◌, ◌++◌, codes, Some}
use Rattle.config_bundle.specs.declared.bundle.Bundle.{Bundle}
use Rattle.edge_traits.specs.Shelf.{ShelfView}
use Rattle.feed_maker.specs.DrillFeed.{feed_of}

-- the name of its feed
abbrev pub feed_name : List ℕ
feed_name = codes "feed.csv"

-- its bots, as they stand in the runtime text: what collects the feed,
abbrev pub collector : List ℕ
collector = codes "\"collect\":{\"module\":\"collector.file\",\"parameters\":{\"file\":\"feed.csv\",\"name\":\"drill\",\"chunk_replicate_header\":true},\"destination_queues\":{\"_default\":[\"parse-queue\"]}}"

-- what makes events of its lines,
abbrev pub parser : List ℕ
parser = codes "\"parse\":{\"module\":\"parser.csv\",\"parameters\":{\"columns\":[\"source.ip\",\"source.port\",\"classification.type\",\"extra.note\"],\"skip_header\":true},\"destination_queues\":{\"_default\":[\"tag-queue\"]}}"

-- what sets the taxonomy of each,
abbrev pub expert : List ℕ
expert = codes "\"tag\":{\"module\":\"expert.taxonomy\",\"destination_queues\":{\"_default\":[\"write-queue\"]}}"

-- and what writes them
abbrev pub output : List ℕ
output = codes "\"write\":{\"module\":\"output.file\"}"

-- its runtime text
abbrev pub drill_runtime : List ℕ
drill_runtime = codes "{" ++ collector ++ codes "," ++ parser ++ codes "," ++ expert ++ codes "," ++ output ++ codes "}"

-- its bundle, which names no files
abbrev pub drill_bundle : Bundle
drill_bundle = record { runtime = drill_runtime; files = [] }

-- the shelf that has the feed of so many lines that a number gives, and nothing else, and has never failed
abbrev pub drill_shelf : (lines number : ℕ) → ShelfView
drill_shelf lines number = record { counts = (feed_name, 0) ∷ []; told = Some ((feed_name, feed_of lines number) ∷ []) }
