-- The program's commands as the definitions have them.
use Rattle.std.specs.Prelude.{ℕ, Bool, List, option_map}
use Rattle.std.specs.List.{list_any}
use Rattle.std.specs.Str.{bytes_eq}
use Rattle.std.specs.Borrow.{Bor}
use Rattle.command_words.specs.Command as asked
use Rattle.command_words.specs.declared.command.Ask.{Ask}
use Rattle.command_words.specs.declared.command.Run.{Run}
use Rattle.command_words.specs.declared.command.Command.{Command}
use Rattle.command_words.specs.declared.command.Command.TheVariants as command

-- the words that an ask lends are texts
abbrev pub ask_of : Ask → asked.Ask
ask_of a = record { steps = a.steps; reload = option_map (λ name. name.now) a.reload; round = a.round }

abbrev pub run_asked : Run → asked.Run
run_asked r = record { ask = ask_of r.ask; stay = r.stay }

abbrev pub asked_of : Command → asked.Command
asked_of (command.Convert feed) = asked.Convert feed.now
asked_of (command.Check bundle) = asked.Check bundle.now
asked_of (command.Init bundle) = asked.Init bundle.now
asked_of (command.Drain ask) = asked.Drain (ask_of ask)
asked_of command.Status = asked.Status
asked_of command.Dumps = asked.Dumps
asked_of command.Audit = asked.Audit
asked_of (command.Redo dump) = asked.Redo dump
asked_of (command.Drill lines number) = asked.Drill lines number

-- a name is one of these that are lent
abbrev pub is_one_of : List (Bor (List ℕ)) → List ℕ → Bool
is_one_of names n = list_any (λ m. bytes_eq n m.now) names
