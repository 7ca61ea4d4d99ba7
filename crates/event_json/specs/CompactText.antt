-- Compact texts of JSON values, as items of lists have them.
use Rattle.std.specs.Prelude.{◌≡◌, ℕ, List, Some, None}
use Rattle.json.specs.Json as json
use Rattle.serde_json.specs.Data.{Items, Members, no_members}
use Rattle.serde_json.specs.Read.{of_items, of_members}
use Rattle.event_model.specs.Trees.{compact, compact_items, compact_members, lexeme_in, Appends, AppendsBetween}
use Rattle.event_json.specs.Direct.{Named, AreData, IsData, data_members, data_of}

-- the compact text of a value stands behind what was there
pub record PutsCompact (j : json.Json) (old new : List ℕ) : Type 0 where
  pub in_range : IsData j
  pub text : Appends (compact (data_of j)) old new

-- the same of the values of an array, of members in order, and of an object that stands for no decimal
pub record PutsValues (js : json.Items) (old new : List ℕ) : Type 0 where
  pub all : Items
  pub in_range : of_items js ≡ Some all
  pub text : AppendsBetween 91 93 (compact_items all) old new

pub record PutsPairs (ms : List Named) (old new : List ℕ) : Type 0 where
  pub in_range : AreData ms
  pub text : AppendsBetween 123 125 (compact_members (data_members ms)) old new

pub record PutsObject (js : json.Members) (old new : List ℕ) : Type 0 where
  pub all : Members
  pub in_range : of_members js no_members ≡ Some all
  pub none : lexeme_in all ≡ None
  pub text : AppendsBetween 123 125 (compact_members all) old new
