-- What the program has read of a runtime text.
use Rattle.std.specs.Prelude.{◌≡◌, ℕ, List, [], ◌∷◌, ◌++◌, Bool, true, false, Option, Some, None, map, is_some, option_map, unwrap_or, if◌then◌else◌}
use Rattle.std.specs.Bool.{MatchBool}
use Rattle.std.specs.Str.{bytes_eq}
use Rattle.serde_json.specs.Data.{Data, Members, no_members}
use Rattle.serde_json.specs.View.{members_view}
use Rattle.runtime_text.specs.Runtime.{bot_of, global_key, object_of, Entry}
use Rattle.runtime_text.specs.declared.bot.Bot.{Bot}
use Rattle.runtime_text.specs.declared.object.Object.{Object}

-- the members of an object that needn't be there
abbrev pub members_of : Object → Members
members_of object = unwrap_or (option_map (λ members. members_view members.now.entries) object.members) no_members

-- a bot's name and its members
abbrev pub entry_of : Bot → Entry
entry_of bot = (bot.name, members_view bot.members.now.entries)

abbrev pub entries_of : List Bot → List Entry
entries_of bots = map entry_of bots

-- one more is there
abbrev pub with_one : Option Entry → List Entry → List Entry → Type 0
with_one (Some bot) old new = new ≡ old ++ bot ∷ []
with_one None old new = ⊥

-- the bot of a member stands behind the others, unless it is `global`; or the member is none of a runtime text
abbrev pub IsAdded : List ℕ → Data → Bool → List Entry → List Entry → Type 0
IsAdded name d true old new = MatchBool (bytes_eq name global_key) ((is_some (object_of d) ≡ true) × (new ≡ old)) (with_one (bot_of name d) old new)
IsAdded name d false old new = (if bytes_eq name global_key then is_some (object_of d) else is_some (bot_of name d)) ≡ false
