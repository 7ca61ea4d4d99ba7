-- The numbers of a bot, and their sums over several.
use Rattle.std.specs.Prelude.{◌≡◌, ◌≤◌, ◌+◌, ◌*◌, ℕ, List, [], ◌∷◌, ◌++◌, ◌||◌, Bool, not, nat_lt, length, filter_map, sum_by, codes, Option, Some, None, unwrap_or, if◌then◌else◌}
use Rattle.std.specs.List.{list_all, list_any}
use Rattle.std.specs.Str.{bytes_eq}
use Rattle.serde_json.specs.Data.{Members}
use Rattle.config_bundle.specs.declared.bundle.Bundle.{Bundle}
use Rattle.runtime_config.specs.Faults.{bytes_of, content, instances, is_route, longest_bundle, most_bots, most_columns, most_instances, most_routes, most_rows, most_rows_in_all, passes_rules, rows, rows_in_all}
use Rattle.config_bundle.specs.Limits.{longest_file}
use Rattle.runtime_text.specs.Named.{file_of}
use Rattle.runtime_text.specs.Runtime.{lines_in, routes, set_as, Entry}
use Rattle.runtime_config.specs.declared.limits.Numbers.{Numbers}
use Rattle.runtime_config.specs.declared.limits.Sums.{Sums}

-- they are those of the bot
pub record AreNumbers (bundle : Bundle) (global : Members) (bot : Entry) (n : Numbers) : Type 0 where
  pub instances_are : n.instances ≡ instances global bot
  pub rows_are : n.rows ≡ rows bundle global bot
  pub file_is : n.file ≡ file_of global bot
  pub length_is : n.length ≡ length (unwrap_or (content bundle global bot) [])
  pub many_are : n.many_rules ≡ passes_rules bundle global bot
  pub few : n.instances ≤ 16

-- a number of the bot itself is above its limit
abbrev pub passes_by : Members → Entry → Numbers → Bool
passes_by global bot n =
    nat_lt most_routes (length (routes bot)) || not (list_all is_route (routes bot))
    || nat_lt most_columns (length (lines_in (set_as global bot (codes "columns"))))
    || nat_lt most_rows n.rows || nat_lt longest_file n.length
    || n.many_rules

-- they are the sums over these bots
pub record AreSums (bundle : Bundle) (global : Members) (bots : List Entry) (s : Sums) : Type 0 where
  pub instances_are : s.instances ≡ sum_by (instances global) bots
  pub rows_are : s.rows ≡ sum_by (rows_in_all bundle global) bots
  pub files_are : s.files ≡ filter_map (file_of global) bots
  pub bytes_are : s.bytes ≡ bytes_of bundle global bots

-- none is above its limit
pub record AreSmall (s : Sums) : Type 0 where
  pub few_instances : s.instances ≤ most_instances
  pub few_rows : s.rows ≤ most_rows_in_all
  pub short : s.bytes ≤ longest_bundle

-- one is above its limit, or there are too many bots
abbrev pub are_past : ℕ → Sums → Bool
are_past count s = nat_lt most_bots count || nat_lt most_instances s.instances || nat_lt most_rows_in_all s.rows || nat_lt longest_bundle s.bytes

-- ---- one more bot

abbrev pub with_file : List (List ℕ) → Option (List ℕ) → List (List ℕ)
with_file files None = files
with_file files (Some name) = files ++ name ∷ []

-- the bytes of a file that wasn't named before
abbrev pub new_bytes : List (List ℕ) → Option (List ℕ) → ℕ → ℕ
new_bytes files None length = 0
new_bytes files (Some name) length = if list_any (bytes_eq name) files then 0 else length

abbrev pub added : Sums → Numbers → Sums
added s n = record {
  instances = s.instances + n.instances;
  rows = s.rows + n.rows * n.instances;
  files = with_file s.files n.file;
  bytes = s.bytes + new_bytes s.files n.file n.length;
}
