-- One step on the way down.
use Rattle.std.proofs.Common.{◌≡◌, ◌<◌, ◌≤◌, ◌+◌, ◌-◌, ◌∙◌, ℕ, Bool, true, false, cond, List, Option, Some, None, refl, sym, ap, subst, arith}
use Rattle.std.specs.Prelude.{slice_get}
use Rattle.std.specs.Option.{option_or}
use Rattle.scalar_net.specs.declared.address.Ip.{Ip}
use Rattle.scalar_net.specs.declared.network.Network.{Network}
use Rattle.prefix_table.specs.declared.nodes.TrieNode.{TrieNode}
use Rattle.scalar_net.specs.Family.{width}
use Rattle.scalar_net.specs.Network.{is_inside}
use Rattle.prefix_table.specs.Trie.{Tree, leaf, branch, IsTree, IsOrderly, IsBelow, Each, bit_at, child_of, descend, left_at, left_below}

-- where the node holds the address, the look-up goes on at its child
pub record GoesOn (nodes : List TrieNode) (six : Bool) (ip : Ip) (best : Option ℕ) (node : TrieNode) (tree : Tree) : Type 0 where
  pub rest : Tree
  pub stands : IsTree nodes (child_of node ip) rest
  pub orderly : IsOrderly six rest
  pub same : descend rest ip (option_or node.row best) ≡ descend tree ip best
  pub fewer : left_below six nodes (child_of node ip) < width six + 1 - node.net.len

some_same : {A : Type 0} (a b : A) → Some a ≡ Some b → a ≡ b
some_same a b e = cc

-- what can come behind a node
fewer_behind : (nodes : List TrieNode) (six bit : Bool) (net : Network) (at : Option ℕ) (rest : Tree) → net.ip.six ≡ six → IsTree nodes at rest → Each (IsBelow net bit) rest → left_below six nodes at < width six + 1 - net.len
fewer_behind nodes six bit net at leaf family stands each =
    let within : net.len ≤ width six = subst (λ s. net.len ≤ width s) family net.within in
    rw stands (omega arith)
fewer_behind nodes six bit net at (branch lower row zero one) family (k, node, at_is, node_is, net_is, row_is, zeros, ones) each =
    let within : net.len ≤ width six = subst (λ s. net.len ≤ width s) family net.within in
    let longer : net.len < lower.len = each.0.longer in
    let len : node.net.len ≡ lower.len = ap (λ n. n.len) net_is in
    rw (at_is, node_is) (omega arith)

one_way : (b : Bool) (net : Network) (row : Option ℕ) (zero one : Tree) (ip : Ip) (best : Option ℕ) → bit_at ip net.len ≡ b → is_inside net ip ≡ true → descend (branch net row zero one) ip best ≡ descend (cond b one zero) ip (option_or row best)
one_way true net row zero one ip best bit inside = rw (inside, bit) refl
one_way false net row zero one ip best bit inside = rw (inside, bit) refl

by_bit : (b : Bool) (nodes : List TrieNode) (six : Bool) (ip : Ip) (best : Option ℕ) (node : TrieNode) (zero one : Tree) → bit_at ip node.net.len ≡ b → is_inside node.net ip ≡ true
    → IsTree nodes node.zero zero → IsTree nodes node.one one → IsOrderly six (branch node.net node.row zero one) → GoesOn nodes six ip best node (branch node.net node.row zero one)
by_bit true nodes six ip best node zero one bit inside zeros ones orderly = record {
  rest = one;
  stands = rw bit ones;
  orderly = orderly.4;
  same = sym (one_way true node.net node.row zero one ip best bit inside);
  fewer = rw bit (fewer_behind nodes six true node.net node.one one orderly.0 ones orderly.2);
}
by_bit false nodes six ip best node zero one bit inside zeros ones orderly = record {
  rest = zero;
  stands = rw bit zeros;
  orderly = orderly.3;
  same = sym (one_way false node.net node.row zero one ip best bit inside);
  fewer = rw bit (fewer_behind nodes six false node.net node.zero zero orderly.0 zeros orderly.1);
}

-- a node that the list shows is the root of its trie
pub record IsRoot (nodes : List TrieNode) (node : TrieNode) (tree : Tree) : Type 0 where
  pub zero : Tree
  pub one : Tree
  pub is : tree ≡ branch node.net node.row zero one
  pub zeros : IsTree nodes node.zero zero
  pub ones : IsTree nodes node.one one

pub root_of : (nodes : List TrieNode) (k : ℕ) (node : TrieNode) (tree : Tree) → slice_get nodes k ≡ Some node → IsTree nodes (Some k) tree → IsRoot nodes node tree
root_of nodes k node leaf shown stands = absurd (cc)
root_of nodes k node (branch net row zero one) shown (k', node', at_is, node_is, net_is, row_is, zeros, ones) =
    let place : k ≡ k' = some_same k k' at_is in
    let same : node' ≡ node = some_same node' node (sym node_is ∙ ap (slice_get nodes) (sym place) ∙ shown) in
    record {
      zero = zero;
      one = one;
      is = ap (λ n. branch n row zero one) (sym net_is ∙ ap (λ n. n.net) same) ∙ ap (λ r. branch node.net r zero one) (sym row_is ∙ ap (λ n. n.row) same);
      zeros = subst (λ n. IsTree nodes n.zero zero) same zeros;
      ones = subst (λ n. IsTree nodes n.one one) same ones;
    }

bit_either : (nodes : List TrieNode) (six : Bool) (ip : Ip) (best : Option ℕ) (node : TrieNode) (zero one : Tree) → is_inside node.net ip ≡ true
    → IsTree nodes node.zero zero → IsTree nodes node.one one → IsOrderly six (branch node.net node.row zero one) → GoesOn nodes six ip best node (branch node.net node.row zero one)
bit_either nodes six ip best node zero one inside zeros ones orderly = by_bit (bit_at ip node.net.len) nodes six ip best node zero one refl inside zeros ones orderly

pub goes_on : (nodes : List TrieNode) (six : Bool) (ip : Ip) (best : Option ℕ) (k : ℕ) (node : TrieNode) (tree : Tree) → slice_get nodes k ≡ Some node → is_inside node.net ip ≡ true → IsTree nodes (Some k) tree → IsOrderly six tree → GoesOn nodes six ip best node tree
goes_on nodes six ip best k node tree shown inside stands orderly =
    let root = root_of nodes k node tree shown stands in
    subst (λ t. GoesOn nodes six ip best node t) (sym root.is)
    (bit_either nodes six ip best node root.zero root.one inside root.zeros root.ones (subst (λ t. IsOrderly six t) root.is orderly))

-- where it doesn't hold the address, the look-up ends
pub stops : (nodes : List TrieNode) (ip : Ip) (best : Option ℕ) (k : ℕ) (node : TrieNode) (tree : Tree) → slice_get nodes k ≡ Some node → is_inside node.net ip ≡ false → IsTree nodes (Some k) tree → descend tree ip best ≡ best
stops nodes ip best k node tree shown outside stands =
    let root = root_of nodes k node tree shown stands in
    subst (λ t. descend t ip best ≡ best) (sym root.is) (rw outside refl)

pub ends : (nodes : List TrieNode) (ip : Ip) (best : Option ℕ) (tree : Tree) → IsTree nodes None tree → descend tree ip best ≡ best
ends nodes ip best leaf stands = refl
ends nodes ip best (branch net row zero one) (k, node, at_is, node_is, net_is, row_is, zeros, ones) = absurd (cc)

-- a node of a trie is one of the list
pub within : (nodes : List TrieNode) (k : ℕ) (tree : Tree) → IsTree nodes (Some k) tree → (node : TrieNode) × (slice_get nodes k ≡ Some node)
within nodes k leaf stands = absurd (cc)
within nodes k (branch net row zero one) (k', node', at_is, node_is, net_is, row_is, zeros, ones) = (node', ap (slice_get nodes) (some_same k k' at_is) ∙ node_is)

-- so many nodes at most
pub most : (nodes : List TrieNode) (six : Bool) (at : Option ℕ) → left_below six nodes at ≤ width six + 1
most nodes six None = omega arith
most nodes six (Some k) = most_at (slice_get nodes k)
  where
    most_at : (o : Option TrieNode) → left_at six o ≤ width six + 1
    most_at None = omega arith
    most_at (Some node) = omega arith

-- the node itself is one of them
pub one_left : (nodes : List TrieNode) (six : Bool) (k : ℕ) (node : TrieNode) (tree : Tree) → slice_get nodes k ≡ Some node → IsTree nodes (Some k) tree → IsOrderly six tree
    → (left_below six nodes (Some k) ≡ width six + 1 - node.net.len) × (node.net.len ≤ width six)
one_left nodes six k node tree shown stands orderly =
    let root = root_of nodes k node tree shown stands in
    let here : IsOrderly six (branch node.net node.row root.zero root.one) = subst (λ t. IsOrderly six t) root.is orderly in
    (rw shown refl, subst (λ s. node.net.len ≤ width s) here.0 node.net.within)
