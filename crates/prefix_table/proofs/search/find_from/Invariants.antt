use Rattle.std.proofs.Common.{◌≡◌, ◌≤◌, ◌+◌, None}
use Rattle.scalar_net.specs.Family.{width}
use Rattle.prefix_table.specs.Trie.{Tree, IsTree, IsOrderly, descend, left_below}
use Rattle.prefix_table.proofs.search.find_from.Given as goal

-- what is found from here is what is found from the root
abbrev pub invariant-way : goal.invariant-way
invariant-way g l = record {
  here : (tree : Tree) × IsTree l.nodes l.at tree × IsOrderly l.ip.six tree;
  found : (tree : Tree) → IsTree l.nodes l.fn.root tree → IsOrderly l.ip.six tree → (rest : Tree) × IsTree l.nodes l.at rest × IsOrderly l.ip.six rest × (descend rest l.ip l.best ≡ descend tree l.ip None);
  cost : l.steps + left_below l.ip.six l.nodes l.at ≤ l.fn.steps + width l.ip.six + 1;
}

abbrev pub decreases-way : goal.decreases-way
decreases-way g l = left_below l.ip.six l.nodes l.at
