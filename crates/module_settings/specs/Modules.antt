-- The modules, and what is known of each by its word alone.
use Rattle.std.specs.Prelude.{ℕ, List, [], ◌∷◌, Bool, true, false, codes, is_some, Option, Some, None, option_and_then, if◌then◌else◌}
use Rattle.std.specs.Str.{bytes_eq}
use Rattle.serde_json.specs.Data.{Data}
use Rattle.serde_json.specs.Find.{as_str}
use Rattle.module_settings.specs.declared.module.FileKind.{FileKind}
use Rattle.module_settings.specs.declared.module.FileKind.TheVariants as kind
use Rattle.module_settings.specs.declared.module.Instances.{Instances}
use Rattle.module_settings.specs.declared.module.Instances.TheVariants as instances
use Rattle.module_settings.specs.declared.module.ModuleFacts.{ModuleFacts}
use Rattle.module_settings.specs.declared.module.Role.{Role}
use Rattle.module_settings.specs.declared.module.Role.TheVariants as role
use Rattle.module_settings.specs.declared.module.ModuleWord.{ModuleWord}
use Rattle.module_settings.specs.declared.module.ModuleWord.TheVariants as modules

-- ---- their words

-- the module that a word names
abbrev pub module_words : List (List ℕ × ModuleWord)
module_words =
    (codes "collector.file", modules.Collector) ∷
    (codes "parser.csv", modules.Csv) ∷
    (codes "parser.json", modules.Json) ∷
    (codes "expert.sieve", modules.Sieve) ∷
    (codes "expert.deduplicator", modules.Dedup) ∷
    (codes "expert.prefix", modules.Prefix) ∷
    (codes "expert.taxonomy", modules.Taxonomy) ∷
    (codes "expert.modify", modules.Modify) ∷
    (codes "output.file", modules.Output) ∷
    []

abbrev pub named_module : List (List ℕ × ModuleWord) → List ℕ → Option ModuleWord
named_module [] word = None
named_module (row ∷ rows) word = if bytes_eq word row.0 then Some row.1 else named_module rows word

-- the module that a value of JSON names
abbrev pub module_of_value : Data → Option ModuleWord
module_of_value d = option_and_then (named_module module_words) (as_str d)

-- ---- their facts

abbrev pub row : Role → Option FileKind → Instances → ModuleFacts
row role file instances = record { role = role; file = file; instances = instances }

-- what its bots are for, what the file of a bundle is that they read if they read one, and how many instances may run
abbrev pub facts_of : ModuleWord → ModuleFacts
facts_of modules.Collector = row role.Collector None instances.One
facts_of modules.Csv = row role.Parser None instances.Several
facts_of modules.Json = row role.Parser None instances.Several
facts_of modules.Sieve = row role.Expert (Some kind.Sieve) instances.Several
facts_of modules.Dedup = row role.Expert None instances.Several
facts_of modules.Prefix = row role.Expert (Some kind.Table) instances.Several
facts_of modules.Taxonomy = row role.Expert None instances.Several
facts_of modules.Modify = row role.Expert (Some kind.Rules) instances.Several
facts_of modules.Output = row role.Output None instances.Several

-- ---- what is asked of them, of a module that may be unknown

abbrev pub collects : Role → Bool
collects role.Collector = true
collects role.Parser = false
collects role.Expert = false
collects role.Output = false

abbrev pub writes : Role → Bool
writes role.Collector = false
writes role.Parser = false
writes role.Expert = false
writes role.Output = true

-- the module is that of collectors
abbrev pub is_collector : Option ModuleWord → Bool
is_collector None = false
is_collector (Some word) = collects (facts_of word).role

-- the module is that of outputs
abbrev pub is_output : Option ModuleWord → Bool
is_output None = false
is_output (Some word) = writes (facts_of word).role

-- what the file is that the module's bots read
abbrev pub file_kind : Option ModuleWord → Option FileKind
file_kind None = None
file_kind (Some word) = (facts_of word).file

-- the module reads a file of the bundle
abbrev pub reads_file : Option ModuleWord → Bool
reads_file word = is_some (file_kind word)

abbrev pub is_sieve : Option FileKind → Bool
is_sieve None = false
is_sieve (Some kind.Sieve) = true
is_sieve (Some kind.Table) = false
is_sieve (Some kind.Rules) = false

abbrev pub is_table : Option FileKind → Bool
is_table None = false
is_table (Some kind.Sieve) = false
is_table (Some kind.Table) = true
is_table (Some kind.Rules) = false

abbrev pub is_rules : Option FileKind → Bool
is_rules None = false
is_rules (Some kind.Sieve) = false
is_rules (Some kind.Table) = false
is_rules (Some kind.Rules) = true

-- that file is a sieve's
abbrev pub reads_sieve : Option ModuleWord → Bool
reads_sieve word = is_sieve (file_kind word)

-- that file is a table
abbrev pub reads_table : Option ModuleWord → Bool
reads_table word = is_table (file_kind word)

-- that file has rules that set fields
abbrev pub reads_rules : Option ModuleWord → Bool
reads_rules word = is_rules (file_kind word)

-- how many instances may run at most
abbrev pub most_of : Instances → ℕ
most_of instances.One = 1
most_of instances.Several = 16

abbrev pub most_instances : ModuleWord → ℕ
most_instances word = most_of (facts_of word).instances
