-- Tries of networks.
use Rattle.std.specs.Prelude.{◌≡◌, ◌<◌, ◌-◌, ◌+◌, ◌/◌, ◌%◌, ◌^◌, ◌==◌, ◌≤◌, ◌⊎◌, ℕ, Bool, true, false, List, Option, Some, None, slice_get, if◌then◌else◌}
use Rattle.std.specs.Option.{option_or}
use Rattle.scalar_net.specs.declared.address.Ip.{Ip}
use Rattle.scalar_net.specs.declared.network.Network.{Network}
use Rattle.prefix_table.specs.declared.nodes.TrieNode.{TrieNode}
use Rattle.scalar_net.specs.Family.{width}
use Rattle.scalar_net.specs.Network.{IsInside, is_inside}

-- the bit of an address at a place, from 0 at its front
abbrev pub bit_at : Ip → ℕ → Bool
bit_at ip place = (ip.bits / 2 ^ (width ip.six - 1 - place)) % 2 == 1

-- the node behind a node, by the next bit of an address
abbrev pub child_of : TrieNode → Ip → Option ℕ
child_of node ip = if bit_at ip node.net.len then node.one else node.zero

-- a network, a row of it if there is one, and the tries of the networks within it, by their next bit
pub data Tree : Type 0 where
  leaf : Tree
  branch : Network → Option ℕ → Tree → Tree → Tree

-- the node and what it leads to are this trie
abbrev pub IsTree : List TrieNode → Option ℕ → Tree → Type 0
IsTree nodes at leaf = at ≡ None
IsTree nodes at (branch net row zero one) = (k : ℕ) × (node : TrieNode) × (at ≡ Some k) × (slice_get nodes k ≡ Some node) × (node.net ≡ net) × (node.row ≡ row)
    × IsTree nodes node.zero zero × IsTree nodes node.one one

-- the network is longer than the other one, within it, and goes on with that bit
pub record IsBelow (net : Network) (bit : Bool) (lower : Network) : Type 0 where
  pub longer : net.len < lower.len
  pub within : IsInside net lower.ip
  pub goes_on : bit_at lower.ip net.len ≡ bit

-- each network of the trie is so
abbrev pub Each : (Network → Type 0) → Tree → Type 0
Each P leaf = Unit {0}
Each P (branch net row zero one) = P net × Each P zero × Each P one

-- networks of one family, each below those that lead to it
abbrev pub IsOrderly : Bool → Tree → Type 0
IsOrderly six leaf = Unit {0}
IsOrderly six (branch net row zero one) = (net.ip.six ≡ six) × Each (IsBelow net false) zero × Each (IsBelow net true) one × IsOrderly six zero × IsOrderly six one

-- the row of the last network on the way that holds the address and has one, or the one before
abbrev pub descend : Tree → Ip → Option ℕ → Option ℕ
descend leaf ip best = best
descend (branch net row zero one) ip best =
    if is_inside net ip then (if bit_at ip net.len then descend one ip (option_or row best) else descend zero ip (option_or row best)) else best

abbrev pub left_at : Bool → Option TrieNode → ℕ
left_at six None = 0
left_at six (Some node) = width six + 1 - node.net.len

-- how many more nodes there can be on the way from here
abbrev pub left_below : Bool → List TrieNode → Option ℕ → ℕ
left_below six nodes None = 0
left_below six nodes (Some k) = left_at six (slice_get nodes k)

-- the trie has the network with that row
abbrev pub HasRow : Network → ℕ → Tree → Type 0
HasRow lower i leaf = ⊥
HasRow lower i (branch net row zero one) = ((net ≡ lower) × (row ≡ Some i)) ⊎ HasRow lower i zero ⊎ HasRow lower i one

-- the same network: one family, one address, one length
pub record IsSame (a b : Network) : Type 0 where
  pub family : a.ip.six ≡ b.ip.six
  pub bits : a.ip.bits ≡ b.ip.bits
  pub length : a.len ≡ b.len

-- the first row of each network of the family is in the trie with that network, and nothing else is
pub record IsOf (rows : List Network) (six : Bool) (tree : Tree) : Type 0 where
  pub sound : (net : Network) (i : ℕ) → HasRow net i tree → (row : Network) × (slice_get rows i ≡ Some row) × IsSame row net
  pub first : (net : Network) (i j : ℕ) (other : Network) → HasRow net i tree → slice_get rows j ≡ Some other → IsSame other net → i ≤ j
  pub complete : (j : ℕ) (row : Network) → slice_get rows j ≡ Some row → row.ip.six ≡ six → (net : Network) × (i : ℕ) × HasRow net i tree × IsSame row net
