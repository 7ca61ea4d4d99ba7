-- What is wrong with a bot of a bundle: a list of rules, the first of which that finds a fault counts.
use Rattle.std.specs.Prelude.{◌≡◌, ◌*◌, ◌+◌, ℕ, List, [], ◌∷◌, ◌++◌, ◌&&◌, ◌||◌, Bool, true, false, not, nat_le, nat_lt, length, map, filter, filter_map, sum_by, codes, is_some, is_none, Option, Some, None, option_map, option_and_then, unwrap_or, Result, Ok, Err, if◌then◌else◌}
use Rattle.std.specs.List.{list_all, list_any}
use Rattle.std.specs.Option.{option_or}
use Rattle.std.specs.Str.{bytes_eq}
use Rattle.serde_json.specs.Data.{Data, Members}
use Rattle.serde_json.specs.Find.{as_bool, get_member}
use Rattle.base_types.specs.Lists.{IsIn}
use Rattle.event_model.specs.Lenient.{least}
use Rattle.config_bundle.specs.declared.bundle.Bundle.{Bundle}
use Rattle.config_bundle.specs.Limits.{longest_file}
use Rattle.module_settings.specs.Modules.{is_output, reads_rules, reads_sieve, reads_table}
use Rattle.module_settings.specs.Parameters.{Parameter}
use Rattle.runtime_text.specs.Named.{file_of}
use Rattle.runtime_text.specs.Reaches.{is_queue_of, reaches, targets}
use Rattle.runtime_text.specs.Runtime.{given, is_given_badly, lines_in, module_key, module_of, object_of, parameters, routes, routes_key, routes_of_value, set_as, setting, whole_in, Entry, Route, Runtime}
use Rattle.runtime_config.specs.FileRules.{bad_rule_of, pass_limit, rules_of}
use Rattle.runtime_config.specs.Sieves.{refusal_of, sieve_of}
use Rattle.module_settings.specs.Table.{row_count, table_in}
use Rattle.runtime_config.specs.declared.fault.LoadFault.{LoadFault}
use Rattle.runtime_config.specs.declared.fault.LoadFault.TheVariants as fault
use Rattle.module_settings.specs.declared.table.Rows.{Rows}
use Rattle.sieve_tree.specs.SieveView.{SieveView}
use Rattle.expert_modify.specs.declared.rule.Rule.{Rule as FieldRule}

-- one bot of a bundle, as loading looks at it
pub record Place : Type 0 where
  pub bundle : Bundle
  pub runtime : Runtime
  pub before : List Entry
  pub bot : Entry

abbrev pub fault_when : Bool → LoadFault → Option LoadFault
fault_when test fault = if test then Some fault else None

abbrev pub name_when : Bool → List ℕ → List (List ℕ)
name_when test name = if test then name ∷ [] else []

-- ---- the module and the parameters

-- `module` is there and is none of the words
abbrev pub module_fault : Entry → Option LoadFault
module_fault bot = fault_when (is_some (get_member module_key bot.1) && is_none (module_of bot)) (fault.Module bot.0)

abbrev pub unknown_module : Place → Option LoadFault
unknown_module p = module_fault p.bot

-- a parameter that is given a value of another form
abbrev pub is_bad : Members → Entry → Parameter → Bool
is_bad global bot q = is_some (given global bot q.name) && is_none (setting global bot q)

abbrev pub parameters_key : List ℕ
parameters_key = codes "parameters"

abbrev pub enabled_key : List ℕ
enabled_key = codes "enabled"

abbrev pub is_true : Data → Bool
is_true d = unwrap_or (as_bool d) false

-- `parameters` that is no object, `destination_queues` that is no object of lists of texts, `enabled` that isn't true
abbrev pub bad_members : Entry → List (List ℕ)
bad_members bot =
    name_when (is_given_badly (λ d. is_some (object_of d)) (get_member parameters_key bot.1)) parameters_key
    ++ name_when (is_given_badly (λ d. is_some (routes_of_value d)) (get_member routes_key bot.1)) routes_key
    ++ name_when (is_given_badly is_true (get_member enabled_key bot.1)) enabled_key

-- these, and the bad parameters
abbrev pub bad_names : Members → Entry → List (List ℕ)
bad_names global bot = map (λ q. q.name) (filter (is_bad global bot) (parameters bot)) ++ bad_members bot

-- the least of them in byte order
abbrev pub parameter_fault : Members → Entry → Option LoadFault
parameter_fault global bot = option_map (fault.Parameter bot.0) (least (bad_names global bot))

abbrev pub bad_parameter : Place → Option LoadFault
bad_parameter p = parameter_fault p.runtime.global p.bot

-- a parameter that must be given and is given nowhere
abbrev pub is_missing : Members → Entry → Parameter → Bool
is_missing global bot q = is_none q.otherwise && is_none (given global bot q.name)

abbrev pub default_path : List ℕ
default_path = codes "_default"

-- the bot has the path
abbrev pub has_path : List ℕ → List Route → Bool
has_path path routes = list_any (λ r. bytes_eq r.0 path) routes

-- an absent `module`; and, of every bot but an output, an absent path `_default`
abbrev pub missing_members : Entry → List (List ℕ)
missing_members bot =
    name_when (is_none (get_member module_key bot.1)) module_key
    ++ name_when (not (has_path default_path (routes bot)) && not (is_output (module_of bot))) default_path

-- these, and the missing parameters
abbrev pub missing_names : Members → Entry → List (List ℕ)
missing_names global bot = map (λ q. q.name) (filter (is_missing global bot) (parameters bot)) ++ missing_members bot

-- the least of them in byte order
abbrev pub missing_fault : Members → Entry → Option LoadFault
missing_fault global bot = option_map (fault.Missing bot.0) (least (missing_names global bot))

abbrev pub missing_member : Place → Option LoadFault
missing_member p = missing_fault p.runtime.global p.bot

-- ---- files

-- the bytes of the first file of a name
abbrev pub content_of : List (List ℕ × List ℕ) → List ℕ → Option (List ℕ)
content_of [] name = None
content_of (f ∷ fs) name = if bytes_eq f.0 name then Some f.1 else content_of fs name

-- the bundle has a file of each of these names
abbrev pub HasFiles : Bundle → List (List ℕ) → Type 0
HasFiles bundle names = (name : List ℕ) → IsIn name names → is_some (content_of bundle.files name) ≡ true

-- the bytes of the bot's file
abbrev pub content : Bundle → Members → Entry → Option (List ℕ)
content bundle global bot = option_and_then (content_of bundle.files) (file_of global bot)

-- the bundle has no file of the name that the bot gives
abbrev pub file_fault : Bundle → Members → Entry → Option LoadFault
file_fault bundle global bot = fault_when (is_some (file_of global bot) && is_none (content bundle global bot)) (fault.File bot.0)

abbrev pub absent_file : Place → Option LoadFault
absent_file p = file_fault p.bundle p.runtime.global p.bot

-- ---- sieves

-- the bytes of the bot's file, where it is a sieve's
abbrev pub sieve_text : Bundle → Members → Entry → Option (List ℕ)
sieve_text bundle global bot = if reads_sieve (module_of bot) then content bundle global bot else None

-- the bot's sieve; one with nothing in it where the bot has none
unfoldable pub bot_sieve : Bundle → Members → Entry → SieveView
bot_sieve bundle global bot = sieve_of (sieve_text bundle global bot)

-- the bot's file writes no sieve
abbrev pub sieve_fault : Bundle → Members → Entry → Option LoadFault
sieve_fault bundle global bot = option_map (fault.Sieve bot.0) (refusal_of (sieve_text bundle global bot))

abbrev pub refused_sieve : Place → Option LoadFault
refused_sieve p = sieve_fault p.bundle p.runtime.global p.bot

-- where the first of these names of paths stands that is none of the bot's
abbrev pub unknown_spot : List Route → List (List ℕ × ℕ) → Option ℕ
unknown_spot routes [] = None
unknown_spot routes (spot ∷ spots) = if has_path spot.0 routes then unknown_spot routes spots else Some spot.1

-- the bot's sieve sends events on a path that the bot hasn't; the first such
abbrev pub path_fault : Bundle → Members → Entry → Option LoadFault
path_fault bundle global bot = option_map (fault.Path bot.0) (unknown_spot (routes bot) (bot_sieve bundle global bot).paths)

abbrev pub unknown_path : Place → Option LoadFault
unknown_path p = path_fault p.bundle p.runtime.global p.bot

-- ---- rules that set fields

-- the bytes of the bot's file, where it has such rules
abbrev pub rules_text : Bundle → Members → Entry → Option (List ℕ)
rules_text bundle global bot = if reads_rules (module_of bot) then content bundle global bot else None

-- the bot's rules; none where the bot has none
unfoldable pub modify_rules : Bundle → Members → Entry → List FieldRule
modify_rules bundle global bot = rules_of (rules_text bundle global bot)

-- the file has too many rules, or too many patterns
abbrev pub passes_rules : Bundle → Members → Entry → Bool
passes_rules bundle global bot = pass_limit (rules_text bundle global bot)

-- the first rule of the bot's file that is none
abbrev pub rules_fault : Bundle → Members → Entry → Option LoadFault
rules_fault bundle global bot = option_map (fault.Rules bot.0) (bad_rule_of (rules_text bundle global bot))

abbrev pub bad_rule : Place → Option LoadFault
bad_rule p = rules_fault p.bundle p.runtime.global p.bot

-- ---- paths and queues

-- the bot is reached from itself
abbrev pub cycle_fault : List Entry → Entry → Option LoadFault
cycle_fault bots bot = fault_when (reaches bots bot bot) (fault.Cycle bot.0)

abbrev pub on_cycle : Place → Option LoadFault
on_cycle p = cycle_fault p.runtime.bots p.bot

-- the queue is that of one of the bots, which is no collector
abbrev pub is_known : List Entry → List ℕ → Bool
is_known bots queue = list_any (is_queue_of queue) bots

-- a destination isn't the queue of a bot of the bundle that is no collector
abbrev pub queue_fault : List Entry → Entry → Option LoadFault
queue_fault bots bot = fault_when (not (list_all (is_known bots) (targets bot))) (fault.Queue bot.0)

abbrev pub unknown_queue : Place → Option LoadFault
unknown_queue p = queue_fault p.runtime.bots p.bot

-- ---- limits

abbrev pub most_bots : ℕ
most_bots = 64

abbrev pub most_instances : ℕ
most_instances = 128

abbrev pub most_rows_in_all : ℕ
most_rows_in_all = 1000000

abbrev pub most_rows : ℕ
most_rows = 100000

abbrev pub longest_bundle : ℕ
longest_bundle = 16777216

abbrev pub most_routes : ℕ
most_routes = 32

abbrev pub most_queues : ℕ
most_queues = 16

abbrev pub most_columns : ℕ
most_columns = 256

abbrev pub most_patterns : ℕ
most_patterns = 32

abbrev pub instances : Members → Entry → ℕ
instances global bot = whole_in (set_as global bot (codes "instances_threads"))

-- the bytes of the bot's file, where it is a table
abbrev pub table_text : Bundle → Members → Entry → Option (List ℕ)
table_text bundle global bot = if reads_table (module_of bot) then content bundle global bot else None

-- the rows of its table
abbrev pub rows : Bundle → Members → Entry → ℕ
rows bundle global bot = unwrap_or (option_map row_count (table_text bundle global bot)) 0

-- those of all its instances
abbrev pub rows_in_all : Bundle → Members → Entry → ℕ
rows_in_all bundle global bot = rows bundle global bot * instances global bot

-- names, each once
abbrev pub distinct : List (List ℕ) → List (List ℕ)
distinct [] = []
distinct (x ∷ xs) = if list_any (bytes_eq x) xs then distinct xs else x ∷ distinct xs

-- the length of the file of a name
abbrev pub file_length : Bundle → List ℕ → ℕ
file_length bundle name = length (unwrap_or (content_of bundle.files name) [])

-- the bytes of the runtime text and of the files that these bots name, each once
abbrev pub bytes_of : Bundle → Members → List Entry → ℕ
bytes_of bundle global bots = length bundle.runtime + sum_by (file_length bundle) (distinct (filter_map (file_of global) bots))

-- a path has 1 to 16 queues
abbrev pub is_route : Route → Bool
is_route r = nat_le 1 (length r.1) && nat_le (length r.1) most_queues

-- the bot has too many paths, or a path with no queue or too many; too many columns; too many rows, or a file that is
-- too long; too many rules, or patterns in them
abbrev pub passes_own : Bundle → Members → Entry → Bool
passes_own bundle global bot =
    nat_lt most_routes (length (routes bot)) || not (list_all is_route (routes bot))
    || nat_lt most_columns (length (lines_in (set_as global bot (codes "columns"))))
    || nat_lt most_rows (rows bundle global bot) || nat_lt longest_file (length (unwrap_or (content bundle global bot) []))
    || passes_rules bundle global bot

-- the bot's sieve has too many patterns, one for each `=~` and `!~`
abbrev pub passes_patterns : Bundle → Members → Entry → Bool
passes_patterns bundle global bot = nat_lt most_patterns (length (bot_sieve bundle global bot).patterns)

-- there are too many of these bots, or of their instances or rows, or their files have too many bytes
abbrev pub pass_together : Bundle → Members → List Entry → Bool
pass_together bundle global bots =
    nat_lt most_bots (length bots) || nat_lt most_instances (sum_by (instances global) bots)
    || nat_lt most_rows_in_all (sum_by (rows_in_all bundle global) bots) || nat_lt longest_bundle (bytes_of bundle global bots)

-- a number of the bot, or a sum over it and the bots before it, is above its limit
abbrev pub numbers_fault : Bundle → Members → List Entry → Entry → Option LoadFault
numbers_fault bundle global before bot = fault_when (passes_own bundle global bot || pass_together bundle global (before ++ bot ∷ [])) (fault.Limit bot.0)

-- so is its sieve's number of patterns, or one of those
abbrev pub limit_fault : Bundle → Members → List Entry → Entry → Option LoadFault
limit_fault bundle global before bot = option_or (fault_when (passes_patterns bundle global bot) (fault.Limit bot.0)) (numbers_fault bundle global before bot)

abbrev pub past_limit : Place → Option LoadFault
past_limit p = limit_fault p.bundle p.runtime.global p.before p.bot

-- ---- tables

abbrev pub fault_in : Result Rows ℕ → Option ℕ
fault_in (Ok table) = None
fault_in (Err line) = Some line

-- the prefix file's line, the first such, is no header or row
abbrev pub table_fault : Bundle → Members → Entry → Option LoadFault
table_fault bundle global bot = option_map (fault.Table bot.0) (option_and_then (λ bytes. fault_in (table_in bytes)) (table_text bundle global bot))

abbrev pub bad_row : Place → Option LoadFault
bad_row p = table_fault p.bundle p.runtime.global p.bot

-- the bot's file has a line that is no row, or a rule that is none
abbrev pub content_fault : Bundle → Members → Entry → Option LoadFault
content_fault bundle global bot = option_or (table_fault bundle global bot) (rules_fault bundle global bot)

-- ---- all rules, in their order

abbrev pub Rule : Type 0
Rule = Place → Option LoadFault

-- those on the settings of a bot, on its sieve, and on it among the other bots
abbrev pub rules_of_settings : List Rule
rules_of_settings = unknown_module ∷ bad_parameter ∷ missing_member ∷ absent_file ∷ []

abbrev pub rules_of_sieves : List Rule
rules_of_sieves = refused_sieve ∷ unknown_path ∷ []

abbrev pub rules_of_places : List Rule
rules_of_places = on_cycle ∷ past_limit ∷ unknown_queue ∷ bad_row ∷ bad_rule ∷ []

abbrev pub rules : List Rule
rules = rules_of_settings ++ rules_of_sieves ++ rules_of_places

-- the fault that the first of these rules finds that finds one
abbrev pub first_of : List Rule → Place → Option LoadFault
first_of [] p = None
first_of (rule ∷ rules) p = option_or (rule p) (first_of rules p)

-- the bot's first fault
unfoldable pub fault_of : Place → Option LoadFault
fault_of p = first_of rules p

abbrev pub first_some : List (Option LoadFault) → Option LoadFault
first_some [] = None
first_some (o ∷ os) = option_or o (first_some os)

-- each bot with those before it
abbrev pub places_from : Bundle → Runtime → List Entry → List Entry → List Place
places_from bundle rt before [] = []
places_from bundle rt before (bot ∷ later) = record { bundle = bundle; runtime = rt; before = before; bot = bot } ∷ places_from bundle rt (before ++ bot ∷ []) later

-- the first fault of the first bot that has one, in byte order of the bots
unfoldable pub first_fault : Bundle → Runtime → Option LoadFault
first_fault bundle rt = first_some (map fault_of (places_from bundle rt [] rt.bots))
