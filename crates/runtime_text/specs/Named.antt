-- Which files a runtime text names.
use Rattle.std.specs.Prelude.{◌≡◌, ◌≤◌, ℕ, List, [], ◌∷◌, ◌&&◌, Bool, true, codes, is_some, Option, Some, None, option_and_then, unwrap_or, length, Result, Ok, Err, if◌then◌else◌}
use Rattle.std.specs.List.{insert}
use Rattle.std.specs.declared.cmp.Ordering.{Ordering}
use Rattle.std.specs.declared.cmp.Ordering.TheVariants.{Less, Equal, Greater}
use Rattle.std.specs.Ordering.{nat_cmp}
use Rattle.std.specs.Cmp.Lexicographic.{slice_cmp}
use Rattle.std.specs.Str.{bytes_eq}
use Rattle.serde_json.specs.Data.{Data, Members, no_members, member}
use Rattle.serde_json.specs.Find.{as_str}
use Rattle.event_model.specs.Trees.{tree_in}
use Rattle.module_settings.specs.Modules.{reads_file}
use Rattle.module_settings.specs.Parameters.{is_file_name}
use Rattle.runtime_text.specs.Runtime.{given, global_key, module_of, object_of, object_under, Entry}

-- ---- names in byte order

abbrev pub placed : Ordering → List ℕ → List ℕ → List (List ℕ) → List (List ℕ) → List (List ℕ)
placed Less name n ns rest = n ∷ rest
placed Equal name n ns rest = n ∷ ns
placed Greater name n ns rest = name ∷ n ∷ ns

-- a name at its place among names in byte order, unless it is there
abbrev pub with_name : List ℕ → List (List ℕ) → List (List ℕ)
with_name name [] = name ∷ []
with_name name (n ∷ ns) = placed (slice_cmp nat_cmp n name) name n ns (with_name name ns)

abbrev pub with_file : Option (List ℕ) → List (List ℕ) → List (List ℕ)
with_file None names = names
with_file (Some name) names = with_name name names

-- ---- one bot

-- a text that may be the name of a file
abbrev pub file_name : Data → Option (List ℕ)
file_name d = option_and_then (λ text. if is_file_name text then Some text else None) (as_str d)

-- the file that a bot is given whose module reads one, its own or that of all bots; by the bot's members, and by the bot
abbrev pub file_given : Members → Members → Option (List ℕ)
file_given global bot = if reads_file (module_of ([], bot)) then option_and_then file_name (given global ([], bot) (codes "file")) else None

abbrev pub file_of : Members → Entry → Option (List ℕ)
file_of global bot = file_given global bot.1

-- the file that a member names; each but `global` counts as a bot
abbrev pub file_named : Members → List ℕ → Data → Option (List ℕ)
file_named global name d = if bytes_eq name global_key then None else file_given global (unwrap_or (object_of d) no_members)

-- ---- all of them

abbrev pub are_objects : Members → Bool
are_objects no_members = true
are_objects (member name d ms) = is_some (object_of d) && are_objects ms

-- these names, and those of the files that the members name
abbrev pub named_from : Members → List (List ℕ) → Members → List (List ℕ)
named_from global names no_members = names
named_from global names (member name d ms) = named_from global (with_file (file_named global name d) names) ms

abbrev pub named_in : Option Members → List (List ℕ)
named_in None = []
named_in (Some ms) = if are_objects ms then named_from (object_under global_key ms) [] ms else []

-- the names of the files that a runtime text names, in byte order, each once; of a text that is no object of objects none
unfoldable pub named_files : List ℕ → List (List ℕ)
named_files runtime = named_in (option_and_then object_of (tree_in runtime))

-- ---- what private contracts cite

-- the name is there; or it isn't, and would stand there
abbrev pub IsPlaceOf : List ℕ → List (List ℕ) → Result ℕ ℕ → Type 0
IsPlaceOf name names (Ok i) = with_name name names ≡ names
IsPlaceOf name names (Err i) = (i ≤ length names) × (with_name name names ≡ insert names i name)
