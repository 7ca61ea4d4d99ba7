-- What a bundle means.
use Rattle.std.specs.Prelude.{◌≡◌, ℕ, List, [], ◌==◌, ◌||◌, Bool, nat_lt, length, map, codes, is_some, Option, Some, None, option_and_then, Result, Ok, Err, if◌then◌else◌}
use Rattle.std.specs.List.{slice_split}
use Rattle.std.specs.Str.{bytes_eq}
use Rattle.serde_json.specs.Data.{Members}
use Rattle.event_model.specs.Trees.{tree_in}
use Rattle.config_bundle.specs.declared.bundle.Bundle.{Bundle}
use Rattle.config_bundle.specs.Limits.{longest_runtime}
use Rattle.runtime_config.specs.Faults.{bot_sieve, first_fault, instances, modify_rules, table_text}
use Rattle.runtime_text.specs.Runtime.{defaults_in, line, line_in, lines_in, module_of, object_of, routes, runtime_in, set_as, switch_in, whole_in, Entry, Route as Path, Runtime}
use Rattle.module_settings.specs.Table.{table_in}
use Rattle.runtime_config.specs.declared.fault.LoadFault.{LoadFault}
use Rattle.runtime_config.specs.declared.fault.LoadFault.TheVariants as fault
use Rattle.module_settings.specs.declared.module.ModuleWord.{ModuleWord}
use Rattle.module_settings.specs.declared.module.ModuleWord.TheVariants as modules
use Rattle.runtime_config.specs.declared.plan.Module.{Module}
use Rattle.runtime_config.specs.declared.plan.Module.TheVariants as as_module
use Rattle.runtime_config.specs.declared.plan.Plan.{Plan}
use Rattle.runtime_config.specs.declared.plan.Planned.{Planned}
use Rattle.runtime_config.specs.declared.plan.Route.{Route}
use Rattle.module_settings.specs.declared.table.Rows.{Rows}

-- ---- one bot

-- the names of a column stand between bars
abbrev pub names_of : List ℕ → List (List ℕ)
names_of column = slice_split (λ b. b == 124) column

abbrev pub is_allowing : List ℕ → Bool
is_allowing word = bytes_eq word (codes "allow") || bytes_eq word (codes "whitelist")

-- a table that is none has no rows
abbrev pub rows_in : Result Rows ℕ → Rows
rows_in (Ok table) = table
rows_in (Err n) = record { networks = []; sets = [] }

abbrev pub table_of : Option (List ℕ) → Rows
table_of None = record { networks = []; sets = [] }
table_of (Some bytes) = rows_in (table_in bytes)

-- a module with its parameters. A bot without a module has a fault
abbrev pub module_as : Bundle → Members → Entry → Option ModuleWord → Module
module_as bundle global bot None = as_module.Output
module_as bundle global bot (Some modules.Collector) = as_module.Collector
    (line global bot (codes "file"))
    (line global bot (codes "name"))
    (line_in (set_as global bot (codes "provider")))
    (whole_in (set_as global bot (codes "chunk_size")))
    (switch_in (set_as global bot (codes "chunk_replicate_header")))
module_as bundle global bot (Some modules.Csv) = as_module.Csv
    (map names_of (lines_in (set_as global bot (codes "columns"))))
    (whole_in (set_as global bot (codes "delimiter")))
    (switch_in (set_as global bot (codes "skip_header")))
    (defaults_in (set_as global bot (codes "default_fields")))
    (is_some (line_in (set_as global bot (codes "time_format"))))
module_as bundle global bot (Some modules.Json) = as_module.Json
    (line global bot (codes "style"))
    (defaults_in (set_as global bot (codes "default_fields")))
module_as bundle global bot (Some modules.Sieve) = as_module.Sieve (bot_sieve bundle global bot)
module_as bundle global bot (Some modules.Dedup) = as_module.Dedup
    (lines_in (set_as global bot (codes "filter_keys")))
    (is_allowing (line global bot (codes "filter_type")))
    (whole_in (set_as global bot (codes "ttl")))
    (whole_in (set_as global bot (codes "cache_max")))
module_as bundle global bot (Some modules.Prefix) = as_module.Prefix
    (table_of (table_text bundle global bot))
    (switch_in (set_as global bot (codes "overwrite")))
module_as bundle global bot (Some modules.Taxonomy) = as_module.Taxonomy
module_as bundle global bot (Some modules.Modify) = as_module.Modify
    (modify_rules bundle global bot)
    (switch_in (set_as global bot (codes "overwrite")))
    (whole_in (set_as global bot (codes "maximum_matches")))
module_as bundle global bot (Some modules.Output) = as_module.Output

abbrev pub route_of : Path → Route
route_of path = record { path = path.0; queues = path.1 }

-- a bot with its checked parameters
unfoldable pub planned : Bundle → Members → Entry → Planned
planned bundle global bot = record {
  bot = bot.0;
  «module» = module_as bundle global bot (module_of bot);
  instances = instances global bot;
  retries = whole_in (set_as global bot (codes "error_max_retries"));
  delay = whole_in (set_as global bot (codes "error_retry_delay"));
  stop = bytes_eq (line global bot (codes "error_procedure")) (codes "stop");
  paths = map route_of (routes bot);
}

-- ---- the whole

-- the runtime of a bundle, unless its text is too long or isn't such an object
unfoldable pub runtime_of : Bundle → Option Runtime
runtime_of bundle =
    if nat_lt longest_runtime (length bundle.runtime) then None
    else option_and_then runtime_in (option_and_then object_of (tree_in bundle.runtime))

abbrev pub unless : Option LoadFault → Plan → Result Plan LoadFault
unless None plan = Ok plan
unless (Some fault) plan = Err fault

abbrev pub of_runtime : Bundle → Option Runtime → Result Plan LoadFault
of_runtime bundle None = Err fault.Json
of_runtime bundle (Some rt) = unless (first_fault bundle rt) (record { bots = map (planned bundle rt.global) rt.bots })

-- the bots with their checked parameters, in byte order of their names; or the first fault
unfoldable pub load : Bundle → Result Plan LoadFault
load bundle = of_runtime bundle (runtime_of bundle)

-- a bundle is that plan, or has that first fault; memory may run out in any case
abbrev pub IsLoaded : Result Plan LoadFault → Result Plan LoadFault → Type 0
IsLoaded meant (Ok plan) = meant ≡ Ok plan
IsLoaded meant (Err fault.OutOfMemory) = Unit {0}
IsLoaded meant (Err e) = meant ≡ Err e
