-- JSON values with their decimals under quotes.
use Rattle.std.specs.Prelude.{ℕ, List, if◌then◌else◌}
use Rattle.std.specs.Borrow.{Bor}
use Rattle.std.specs.declared.alloc.Global.{Global}
use Rattle.json.specs.Json as json
use Rattle.json.specs.Value.{value_view, items_view, members_view}
use Rattle.json.specs.declared.value.Value.{Value as Tree}
use Rattle.scalar_text.specs.Quote.{is_decimal}
use Rattle.event_model.specs.Trees.{dec_key}

-- the object that stands for a decimal
abbrev pub decimal_object : List ℕ → json.Json
decimal_object lexeme = json.object (json.member dec_key (json.string lexeme) json.no_members)

-- a value with its decimals under quotes; the same of the items of an array, and of the members of an object
abbrev mutual
  pub quoted_value : json.Json → json.Json
  quoted_value json.null = json.null
  quoted_value (json.boolean b) = json.boolean b
  quoted_value (json.number s) = if is_decimal s then decimal_object s else json.number s
  quoted_value (json.string s) = json.string s
  quoted_value (json.array js) = json.array (quoted_items js)
  quoted_value (json.object ms) = json.object (quoted_members ms)

  pub quoted_items : json.Items → json.Items
  quoted_items json.no_items = json.no_items
  quoted_items (json.item j js) = json.item (quoted_value j) (quoted_items js)

  pub quoted_members : json.Members → json.Members
  quoted_members json.no_members = json.no_members
  quoted_members (json.member k j ms) = json.member k (quoted_value j) (quoted_members ms)

-- what a tree is with its decimals under quotes; the same of the items of an array, and of the members of an object
abbrev pub quoted_view : Tree Global → json.Json
quoted_view tree = quoted_value (value_view tree)

abbrev pub quoted_items_view : List (Tree Global) → json.Items
quoted_items_view trees = quoted_items (items_view trees)

abbrev pub quoted_members_view : List (Bor (List ℕ) × Tree Global) → json.Members
quoted_members_view members = quoted_members (members_view members)
