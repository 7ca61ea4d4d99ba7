-- What the look-up finds is the longest of the rows.
use Rattle.std.proofs.Common.{◌≡◌, ◌<◌, ◌≤◌, ◌-◌, ◌∙◌, ℕ, Bool, List, Option, Some, None, refl, sym, ap, subst, inl, inr, ⊎_elim, arith, length}
use Rattle.std.specs.Prelude.{IfSome}
use Rattle.std.proofs.lemmas.Bool.{cases_eq}
use Rattle.std.proofs.lemmas.Option.{slice_get_within}
use Rattle.scalar_net.specs.declared.address.Ip.{Ip}
use Rattle.scalar_net.specs.declared.network.Network.{Network}
use Rattle.scalar_net.specs.Family.{width, front_bits}
use Rattle.scalar_net.specs.Network.{IsInside}
use Rattle.prefix_table.specs.Longest.{IsLongest, longest}
use Rattle.prefix_table.specs.declared.nodes.TrieNode.{TrieNode}
use Rattle.prefix_table.specs.Trie.{Tree, IsOrderly, IsOf, IsSame, IsTree, descend}
use Rattle.prefix_table.specs.Growing.{HasTrie}
use Rattle.prefix_table.proofs.Fronts.{same_held}
use Rattle.prefix_table.proofs.Longest.{Finds, nothing, found, finds}
use Rattle.prefix_table.proofs.Greatest.{longest_is, longest_is_none, longest-Some}

-- networks that are the same hold the same
inside_same : (a b : Network) (ip : Ip) → IsSame a b → IsInside a ip → IsInside b ip
inside_same a b ip same held =
    let host : width a.ip.six - a.len ≡ width b.ip.six - b.len = ap (λ s. width s - a.len) same.family ∙ ap (λ n. width b.ip.six - n) same.length in
    (held.0 ∙ same.family, subst (λ h. front_bits h ip.bits ≡ front_bits h b.ip.bits) host (held.1 ∙ ap (front_bits (width a.ip.six - a.len)) same.bits))

same_back : (a b : Network) → IsSame a b → IsSame b a
same_back a b same = record { family = sym same.family; bits = sym same.bits; length = sym same.length }

of_finds : (rows : List Network) (six : Bool) (tree : Tree) (ip : Ip) → IsOf rows six tree → ip.six ≡ six → Finds tree ip None → longest rows ip ≡ descend tree ip None
of_finds rows six tree ip is family (nothing e none) = longest_is_none rows ip (λ j other here held.
    let (net, i, has, same) = is.complete j other here (sym held.0 ∙ family) in
    none net i has (inside_same other net ip same held)) ∙ sym e
of_finds rows six tree ip is family (found net i e has held most) = longest_is rows ip i longest_row ∙ sym e
  where
    longest_row : IsLongest rows ip i
    longest_row =
        let (row, stands, same) = is.sound net i has in
        record {
          row = row;
          stands = stands;
          holds = inside_same net row ip (same_back row net same) held;
          best = λ j other here holds.
              let (lower, k, there, alike) = is.complete j other here (sym holds.0 ∙ family) in
              let most_len : lower.len ≤ net.len = most lower k there (inside_same other lower ip alike holds) in
              let len : other.len ≡ lower.len = alike.length in
              let row_len : row.len ≡ net.len = same.length in
              ⊎_elim
              (λ (equal : other.len ≡ row.len). inr (equal, is.first net i j other has here (same_held other net ip holds held (equal ∙ row_len))))
              (λ (differs : other.len ≡ row.len → ⊥). inl (omega arith))
              (cases_eq other.len row.len);
        }

pub finds_longest : (rows : List Network) (six : Bool) (tree : Tree) (ip : Ip) → IsOf rows six tree → IsOrderly six tree → ip.six ≡ six → longest rows ip ≡ descend tree ip None
finds_longest rows six tree ip is orderly family = of_finds rows six tree ip is family (finds six tree ip None orderly)

-- what a look-up from the root finds is the longest of the rows
pub found_by_trie : (rows : List Network) (nodes : List TrieNode) (root : Option ℕ) (ip : Ip) (result : Option ℕ) → HasTrie rows nodes ip.six root
    → ((tree : Tree) → IsTree nodes root tree → IsOrderly ip.six tree → result ≡ descend tree ip None) → result ≡ longest rows ip
found_by_trie rows nodes root ip result trie is = is trie.tree trie.stands trie.orderly ∙ sym (finds_longest rows ip.six trie.tree ip trie.rows_are trie.orderly refl)

-- what is found is the number of a row
pub found_within : (rows : List Network) (ip : Ip) (result : Option ℕ) → result ≡ longest rows ip → IfSome result (λ i. i < length rows)
found_within rows ip None is = tt
found_within rows ip (Some i) is = let it = longest-Some rows ip i (sym is) in slice_get_within rows i it.row it.stands
