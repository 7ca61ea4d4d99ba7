-- A runtime text: its bots, and the parameters that are given to them.
use Rattle.std.specs.Prelude.{ℕ, List, [], ◌∷◌, Bool, false, not, codes, is_some, Option, Some, None, option_map, option_and_then, unwrap_or, if◌then◌else◌}
use Rattle.std.specs.FinMap.{empty}
use Rattle.std.specs.Option.{option_or}
use Rattle.std.specs.Str.{bytes_eq}
use Rattle.serde_json.specs.Data.{Data, Members, no_members, member}
use Rattle.serde_json.specs.Find.{as_array, as_object, get_member}
use Rattle.base_types.specs.Name.{is_bot_name}
use Rattle.event_model.specs.Fields.{FieldMap}
use Rattle.event_model.specs.Trees.{both, lexeme_in}
use Rattle.module_settings.specs.Modules.{module_of_value}
use Rattle.module_settings.specs.Parameters.{parameters_of, setting_of, texts_in, Parameter}
use Rattle.module_settings.specs.declared.module.ModuleWord.{ModuleWord}
use Rattle.module_settings.specs.declared.setting.Setting.{Setting}
use Rattle.module_settings.specs.declared.setting.Setting.TheVariants.{Whole, Switch, Line, Lines, Defaults}

-- a bot's name and its members
abbrev pub Entry : Type 0
Entry = List ℕ × Members

-- the runtime text as an object: the parameters given to all bots, and the bots in byte order of their names
pub record Runtime : Type 0 where
  pub global : Members
  pub bots : List Entry

-- the members of an object; one that stands for a number is none
abbrev pub object_of : Data → Option Members
object_of d = option_and_then (λ ms. if is_some (lexeme_in ms) then None else Some ms) (as_object d)

abbrev pub global_key : List ℕ
global_key = codes "global"

-- the bot of this name, where it is one and its value is an object
abbrev pub bot_of : List ℕ → Data → Option Entry
bot_of name d = if is_bot_name name then option_map (λ members. (name, members)) (object_of d) else None

-- the bots, where each member is an object under a bot's name or `global`
abbrev pub bots_in : Members → Option (List Entry)
bots_in no_members = Some []
bots_in (member name d ms) =
    if bytes_eq name global_key then (if is_some (object_of d) then bots_in ms else None) else both (bot_of name d) (bots_in ms)

-- the object under a name, or an empty one
abbrev pub object_under : List ℕ → Members → Members
object_under name ms = unwrap_or (option_and_then object_of (get_member name ms)) no_members

abbrev pub runtime_in : Members → Option Runtime
runtime_in ms = option_map (λ bots. record { global = object_under global_key ms; bots = bots }) (bots_in ms)

-- ---- a bot's module and its paths

abbrev pub module_key : List ℕ
module_key = codes "module"

abbrev pub module_of : Entry → Option ModuleWord
module_of bot = option_and_then module_of_value (get_member module_key bot.1)

-- a path, and its queues
abbrev pub Route : Type 0
Route = List ℕ × List (List ℕ)

-- paths with their queues, where each is a list of texts
abbrev pub routes_in : Members → Option (List Route)
routes_in no_members = Some []
routes_in (member path d ms) = both (option_map (λ queues. (path, queues)) (option_and_then texts_in (as_array d))) (routes_in ms)

abbrev pub routes_of_value : Data → Option (List Route)
routes_of_value d = option_and_then routes_in (object_of d)

abbrev pub routes_key : List ℕ
routes_key = codes "destination_queues"

-- the paths under that name, if they are such an object
abbrev pub routes_given : Members → Option (List Route)
routes_given ms = option_and_then routes_of_value (get_member routes_key ms)

-- a bot's paths with their queues, in byte order of the paths
abbrev pub routes : Entry → List Route
routes bot = unwrap_or (routes_given bot.1) []

-- the value under a name is there and doesn't pass
abbrev pub is_given_badly : (Data → Bool) → Option Data → Bool
is_given_badly passes None = false
is_given_badly passes (Some d) = not (passes d)

-- ---- what is given to a bot

-- the value of a parameter: the bot's own, or that of all bots
abbrev pub given : Members → Entry → List ℕ → Option Data
given global bot name = option_or (get_member name (object_under (codes "parameters") bot.1)) (get_member name global)

abbrev pub setting : Members → Entry → Parameter → Option Setting
setting global bot q = setting_of q (given global bot q.name)

-- the parameters of the bot's module, or those of all bots
abbrev pub parameters : Entry → List Parameter
parameters bot = parameters_of (module_of bot)

abbrev pub parameter_named : List ℕ → List Parameter → Option Parameter
parameter_named name [] = None
parameter_named name (q ∷ qs) = if bytes_eq q.name name then Some q else parameter_named name qs

-- what the bot's parameter of this name is taken as, where its module has such a one
unfoldable pub set_as : Members → Entry → List ℕ → Option Setting
set_as global bot name = option_and_then (setting global bot) (parameter_named name (parameters bot))

-- that as a number, a flag, a text, texts, fields
abbrev pub whole_in : Option Setting → ℕ
whole_in (Some (Whole n)) = n
whole_in _ = 0

abbrev pub switch_in : Option Setting → Bool
switch_in (Some (Switch b)) = b
switch_in _ = false

abbrev pub line_in : Option Setting → Option (List ℕ)
line_in (Some (Line text)) = Some text
line_in _ = None

abbrev pub lines_in : Option Setting → List (List ℕ)
lines_in (Some (Lines texts)) = texts
lines_in _ = []

abbrev pub defaults_in : Option Setting → FieldMap
defaults_in (Some (Defaults fields)) = fields
defaults_in _ = empty

-- the text of a parameter that has one
abbrev pub line : Members → Entry → List ℕ → List ℕ
line global bot name = unwrap_or (line_in (set_as global bot name)) []
