-- The words behind the program's name.
use Rattle.std.specs.Prelude.{ℕ, List, [], ◌∷◌, Bool, false, ◌||◌, codes, is_some}
use Rattle.std.specs.Str.{bytes_eq}
use Rattle.command_words.specs.Words.{command_of, run_of}

-- the words that stand alone
abbrev pub stands_alone : List ℕ → Bool
stands_alone word = bytes_eq word (codes "--help") || bytes_eq word (codes "--version")

-- a word that stands alone, or the store's folder and a command
abbrev pub is_command : List (List ℕ) → Bool
is_command [] = false
is_command (word ∷ []) = stands_alone word
is_command (store ∷ command) = is_some (command_of command)

-- the store's folder, and words that ask for its bots on threads
abbrev pub is_run : List (List ℕ) → Bool
is_run [] = false
is_run (store ∷ command) = is_some (run_of command)

abbrev pub is_command_or_run : List (List ℕ) → Bool
is_command_or_run words = is_run words || is_command words
