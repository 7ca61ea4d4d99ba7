-- What a module does with messages, with its parameters.
use Rattle.std.specs.Prelude.{ℕ, Bool, List, map, codes, Option, Some, None, if◌then◌else◌}
use Rattle.std.specs.Str.{bytes_eq}
use Rattle.event_model.specs.Fields.{FieldMap}
use Rattle.feed_csv.specs.declared.column.Column.{Column}
use Rattle.feed_csv.specs.declared.rule.CsvRule.{CsvRule}
use Rattle.feed_json.specs.declared.rule.JsonRule.{JsonRule}
use Rattle.feed_json.specs.declared.rule.Style.{Style}
use Rattle.feed_json.specs.declared.rule.Style.TheVariants as style
use Rattle.expert_rules.specs.Enrich.{enriched}
use Rattle.expert_rules.specs.Modify.{modified}
use Rattle.expert_rules.specs.Taxonomy.{with_taxonomy}
use Rattle.expert_rules.specs.declared.chosen.DedupRule.{DedupRule}
use Rattle.runtime_config.specs.declared.plan.Module.{Module}
use Rattle.runtime_config.specs.declared.plan.Module.TheVariants as modules
use Rattle.runtime_config.specs.declared.plan.Route.{Route}
use Rattle.step_code.specs.declared.rules.Role.{Role}
use Rattle.step_code.specs.declared.rules.Role.TheVariants as role
use Rattle.bot_rules.specs.declared.change.Change.{Change}
use Rattle.bot_rules.specs.declared.change.Change.TheVariants as change
use Rattle.bot_rules.specs.declared.job.Job.{Job}
use Rattle.bot_rules.specs.declared.job.Job.TheVariants as job
use Rattle.bot_rules.specs.declared.table.Rows.{Rows}

-- a column of a parser for CSV: with `time_format` each takes seconds since 1970
abbrev pub column_of : Bool → List (List ℕ) → Column
column_of stamp names = record { names = names; stamp = stamp }

abbrev pub csv_rule : List (List (List ℕ)) → ℕ → Bool → FieldMap → Bool → CsvRule
csv_rule columns delimiter skip_header defaults stamp =
    record { columns = map (column_of stamp) columns; delimiter = delimiter; skip_header = skip_header; defaults = defaults }

-- the style of a word; a plan has no other words than these three
abbrev pub style_of : List ℕ → Style
style_of word = if bytes_eq word (codes "object") then style.Object else (if bytes_eq word (codes "array") then style.Array else style.Lines)

abbrev pub json_rule : List ℕ → FieldMap → JsonRule
json_rule word defaults = record { style = style_of word; defaults = defaults }

abbrev pub dedup_rule : List (List ℕ) → Bool → ℕ → ℕ → DedupRule
dedup_rule keys keep ttl cache_max = record { keys = keys; keep = keep; ttl = ttl; cache_max = cache_max }

-- the table of a prefix expert; no other module has one
abbrev pub table_of : Module → Option Rows
table_of (modules.Prefix table overwrite) = Some (record { networks = table.networks; sets = table.sets; overwrite = overwrite })
table_of _ = None

-- what a bot with these paths and this module does with messages; a collector gets none
abbrev pub job_of : List Route → Module → Option Job
job_of routes (modules.Collector file name provider chunk_size replicate) = None
job_of routes (modules.Csv columns delimiter skip_header defaults stamp) = Some (job.Csv (csv_rule columns delimiter skip_header defaults stamp))
job_of routes (modules.Json word defaults) = Some (job.Json (json_rule word defaults))
job_of routes (modules.Sieve sieve) = Some (job.Sieve (record { sieve = sieve; routes = routes }))
job_of routes (modules.Dedup keys keep ttl cache_max) = Some (job.Dedup (dedup_rule keys keep ttl cache_max))
job_of routes (modules.Prefix table overwrite) = Some (job.Change (change.Prefix (record { networks = table.networks; sets = table.sets; overwrite = overwrite })))
job_of routes modules.Taxonomy = Some (job.Change change.Taxonomy)
job_of routes (modules.Modify rules overwrite most) = Some (job.Change (change.Modify (record { rules = rules; overwrite = overwrite; most = most })))
job_of routes modules.Output = Some job.Output

-- what a bot with this work is for
abbrev pub role_for : Job → Role
role_for (job.Csv rule) = role.Parser
role_for (job.Json rule) = role.Parser
role_for (job.Sieve work) = role.Expert
role_for (job.Dedup rule) = role.Expert
role_for (job.Change change) = role.Expert
role_for job.Output = role.Output

-- the fields of the one event that an expert makes of one with these
abbrev pub changed : Change → FieldMap → FieldMap
changed (change.Prefix table) fields = enriched table.networks table.sets table.overwrite fields
changed change.Taxonomy fields = with_taxonomy fields
changed (change.Modify work) fields = modified work.rules work.overwrite work.most fields
