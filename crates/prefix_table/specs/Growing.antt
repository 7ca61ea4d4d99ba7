-- How a trie is made of rows.
use Rattle.std.specs.Prelude.{◌≡◌, ◌≤◌, ◌<◌, ◌-◌, ◌↔◌, ◌++◌, min, ℕ, Bool, true, false, List, Option, Some, None, Contains, slice_get}
use Rattle.scalar_net.specs.declared.network.Network.{Network}
use Rattle.scalar_net.specs.Family.{width, front_bits}
use Rattle.prefix_table.specs.declared.nodes.TrieNode.{TrieNode}
use Rattle.prefix_table.specs.Trie.{Tree, Each, HasRow, IsOrderly, IsOf, IsSame, IsTree, bit_at}

-- the first so many bits of a network, as a number
abbrev pub begins : ℕ → Network → ℕ
begins len net = front_bits (width net.ip.six - len) net.ip.bits

-- the network is of the family, has that length at least, and begins so
pub record Leads (six : Bool) (len lead : ℕ) (net : Network) : Type 0 where
  pub family : net.ip.six ≡ six
  pub long : len ≤ net.len
  pub begins_so : begins len net ≡ lead

-- so does the row of this number
pub record IsRow (rows : List Network) (six : Bool) (len lead : ℕ) (i : ℕ) : Type 0 where
  pub row : Network
  pub stands : slice_get rows i ≡ Some row
  pub leads : Leads six len lead row

-- so do all these rows
abbrev pub AreRows : List Network → Bool → ℕ → ℕ → List ℕ → Type 0
AreRows rows six len lead places = (i : ℕ) → Contains places i → IsRow rows six len lead i

-- the row of this number has just that length
pub record IsAsLong (rows : List Network) (len : ℕ) (i : ℕ) : Type 0 where
  pub row : Network
  pub stands : slice_get rows i ≡ Some row
  pub as_long : row.len ≡ len

-- it is longer, and goes on with that bit
pub record IsLonger (rows : List Network) (len : ℕ) (bit : Bool) (i : ℕ) : Type 0 where
  pub row : Network
  pub stands : slice_get rows i ≡ Some row
  pub longer : len < row.len
  pub goes_on : bit_at row.ip len ≡ bit

abbrev pub lesser : Option ℕ → ℕ → ℕ
lesser None place = place
lesser (Some least) place = min least place

-- the least of these rows with just that length, if there is one
abbrev pub IsLeast : List Network → ℕ → List ℕ → Option ℕ → Type 0
IsLeast rows len places None = (i : ℕ) → Contains places i → IsAsLong rows len i → ⊥
IsLeast rows len places (Some i) = Contains places i × IsAsLong rows len i × ((j : ℕ) → Contains places j → IsAsLong rows len j → i ≤ j)

-- the rows that are longer, by their next bit
abbrev pub AreThose : List Network → ℕ → List ℕ → Bool → List ℕ → Type 0
AreThose rows len places bit those = (i : ℕ) → Contains those i ↔ (Contains places i × IsLonger rows len bit i)

-- what stands at a node of that length and below it
pub record ArePartsOf (rows : List Network) (len : ℕ) (places : List ℕ) (row : Option ℕ) (zeros ones : List ℕ) : Type 0 where
  pub least : IsLeast rows len places row
  pub zeros_are : AreThose rows len places false zeros
  pub ones_are : AreThose rows len places true ones

-- the trie has just these rows: of rows of one network the least
pub record IsOfThese (rows : List Network) (places : List ℕ) (tree : Tree) : Type 0 where
  pub sound : (net : Network) (i : ℕ) → HasRow net i tree → Contains places i × (row : Network) × (slice_get rows i ≡ Some row) × IsSame row net
  pub first : (net : Network) (i j : ℕ) (other : Network) → HasRow net i tree → Contains places j → slice_get rows j ≡ Some other → IsSame other net → i ≤ j
  pub complete : (j : ℕ) (row : Network) → Contains places j → slice_get rows j ≡ Some row → (net : Network) × (i : ℕ) × HasRow net i tree × IsSame row net

-- nodes were put behind the others, with a trie of these rows, each of which has so many bits at least
pub record IsGrown (rows : List Network) (six : Bool) (len : ℕ) (places : List ℕ) (old new : List TrieNode) (at : Option ℕ) : Type 0 where
  pub tree : Tree
  pub more : List TrieNode
  pub appended : new ≡ old ++ more
  pub stands : IsTree new at tree
  pub orderly : IsOrderly six tree
  pub these : IsOfThese rows places tree
  pub leads : (lead : ℕ) → AreRows rows six len lead places → Each (Leads six len lead) tree

-- there is a trie of the family's rows from this node on
pub record HasTrie (rows : List Network) (nodes : List TrieNode) (six : Bool) (at : Option ℕ) : Type 0 where
  pub tree : Tree
  pub stands : IsTree nodes at tree
  pub orderly : IsOrderly six tree
  pub rows_are : IsOf rows six tree

-- the tries of both families
pub record AreTries (rows : List Network) (nodes : List TrieNode) (four six : Option ℕ) : Type 0 where
  pub fours : HasTrie rows nodes false four
  pub sixes : HasTrie rows nodes true six
