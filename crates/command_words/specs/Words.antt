-- What the words of a command line ask for.
use Rattle.std.specs.Prelude.{ℕ, ◌&&◌, Bool, true, false, List, [], ◌∷◌, codes, Option, Some, None, is_none, option_map, option_and_then, if◌then◌else◌}
use Rattle.std.specs.List.{list_any}
use Rattle.std.specs.Str.{bytes_eq}
use Rattle.base_types.specs.Number.{last_u64}
use Rattle.command_words.specs.Command.{Ask, Command, Run, Convert, Check, Init, Drain, Status, Dumps, Audit, Redo, Drill}
use Rattle.command_words.specs.Values.{name_in, number_in, number_within}

-- ---- pairs of a name and a value

-- the value behind the first such name
abbrev pub value_of : List ℕ → List (List ℕ) → Option (List ℕ)
value_of name (n ∷ value ∷ more) = if bytes_eq n name then Some value else value_of name more
value_of name _ = None

-- the words are pairs, each name passes, and none stands twice
abbrev pub are_pairs : (List ℕ → Bool) → List (List ℕ) → Bool
are_pairs passes [] = true
are_pairs passes (n ∷ []) = false
are_pairs passes (n ∷ value ∷ more) = passes n && is_none (value_of n more) && are_pairs passes more

-- the words are pairs of some of these names
abbrev pub are_pairs_of : List (List ℕ) → List (List ℕ) → Bool
are_pairs_of names words = are_pairs (λ n. list_any (bytes_eq n) names) words

-- what a value is read as that may be left out: nothing where it isn't there, and no reading where it isn't right
abbrev pub optional : {A : Type 0} → (List ℕ → Option A) → Option (List ℕ) → Option (Option A)
optional read None = Some None
optional read (Some text) = option_map Some (read text)

-- whether this word is given; no reading where it is another
abbrev pub is_given : List ℕ → Option (List ℕ) → Option Bool
is_given word None = Some false
is_given word (Some text) = if bytes_eq text word then Some true else None

-- ---- commands

-- a command without pairs
abbrev pub alone : Command → List (List ℕ) → Option Command
alone command [] = Some command
alone command (word ∷ words) = None

-- the file that one pair names
abbrev pub file_named : List ℕ → List (List ℕ) → Option (List ℕ)
file_named name pairs = if are_pairs_of (name ∷ []) pairs then option_and_then name_in (value_of name pairs) else None

abbrev pub redo : List (List ℕ) → Option Command
redo pairs =
    if are_pairs_of (codes "--dump" ∷ []) pairs then option_map Redo (option_and_then number_in (value_of (codes "--dump") pairs)) else None

abbrev pub drill_of : Option ℕ → Option ℕ → Option Command
drill_of (Some lines) (Some number) = Some (Drill lines number)
drill_of _ _ = None

abbrev pub most_lines : ℕ
most_lines = 1_000_000

abbrev pub drill : List (List ℕ) → Option Command
drill pairs =
    if are_pairs_of (codes "--lines" ∷ codes "--number" ∷ []) pairs
    then drill_of (option_and_then (number_within 1 most_lines) (value_of (codes "--lines") pairs)) (option_and_then number_in (value_of (codes "--number") pairs))
    else None

abbrev pub ask_by : Option (Option ℕ) → Option (Option (List ℕ)) → Option Bool → Option Ask
ask_by (Some steps) (Some reload) (Some round) = Some (record { steps = steps; reload = reload; round = round })
ask_by _ _ _ = None

-- what pairs ask of bots that are to run, whose names are right
abbrev pub ask_in : List (List ℕ) → Option Ask
ask_in pairs =
    ask_by
    (optional (number_within 1 last_u64) (value_of (codes "--steps") pairs))
    (optional name_in (value_of (codes "--reload") pairs))
    (is_given (codes "new") (value_of (codes "--round") pairs))

abbrev pub drain : List (List ℕ) → Option Command
drain pairs = if are_pairs_of (codes "--steps" ∷ codes "--reload" ∷ codes "--round" ∷ []) pairs then option_map Drain (ask_in pairs) else None

abbrev pub run_by : Option Ask → Option Bool → Option Run
run_by (Some ask) (Some stay) = Some (record { ask = ask; stay = stay })
run_by _ _ = None

-- what pairs ask of bots that run on threads
abbrev pub run : List (List ℕ) → Option Run
run pairs =
    if are_pairs_of (codes "--steps" ∷ codes "--reload" ∷ codes "--round" ∷ codes "--stay" ∷ []) pairs then run_by (ask_in pairs) (is_given (codes "yes") (value_of (codes "--stay") pairs)) else None

-- the command of a word with these pairs, if it is one
abbrev pub command_with : List ℕ → List (List ℕ) → Option Command
command_with word pairs =
    if bytes_eq word (codes "convert") then option_map Convert (file_named (codes "--feed") pairs)
    else if bytes_eq word (codes "check") then option_map Check (file_named (codes "--bundle") pairs)
    else if bytes_eq word (codes "init") then option_map Init (file_named (codes "--bundle") pairs)
    else if bytes_eq word (codes "drain") then drain pairs
    else if bytes_eq word (codes "status") then alone Status pairs
    else if bytes_eq word (codes "dumps") then alone Dumps pairs
    else if bytes_eq word (codes "audit") then alone Audit pairs
    else if bytes_eq word (codes "redo") then redo pairs
    else if bytes_eq word (codes "drill") then drill pairs
    else None

-- the command that the words are, if they are one: its word, and behind it its pairs in any order
abbrev pub command_of : List (List ℕ) → Option Command
command_of [] = None
command_of (word ∷ pairs) = command_with word pairs

-- what bots are asked for that run on threads, if the words are so: `run`, and behind it the pairs of a drain, or `--stay`
abbrev pub run_of : List (List ℕ) → Option Run
run_of [] = None
run_of (word ∷ pairs) = if bytes_eq word (codes "run") then run pairs else None
