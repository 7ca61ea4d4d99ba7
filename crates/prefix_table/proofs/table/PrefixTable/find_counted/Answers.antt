use Rattle.std.proofs.Common.{◌∙◌, ap, inl, inr}
use Rattle.prefix_table.specs.Longest.{longest}
use Rattle.prefix_table.proofs.Found.{found_by_trie, found_within}
use Rattle.prefix_table.proofs.Grown.{root_of_family}
use Rattle.prefix_table.proofs.table.PrefixTable.find_counted.Goals.{then-ip, else-ip}
use Rattle.prefix_table.proofs.table.PrefixTable.find_counted.Goals as goal

pub find_from-requires : goal.find_from-requires
find_from-requires g c =
    let trie = root_of_family c.self.inside.rows.value c.self.inside.nodes c.self.inside.four c.self.inside.six c.if-ip.root c.args.ip.now.six c.self.invariant.2
    (elim c.if-ip.branch [
      | then-ip w ↦ inl (w.if-ip.true, w.root-is)
      | else-ip w ↦ inr (w.if-ip.false, w.root-is)
    ]) in
    (trie.tree, trie.stands, trie.orderly)

pub returns-clause-longest : goal.returns-clause-longest
returns-clause-longest g c =
    let trie = root_of_family c.self.inside.rows.value c.self.inside.nodes c.self.inside.four c.self.inside.six c.if-ip.root c.args.ip.now.six c.self.invariant.2
    (elim c.if-ip.branch [
      | then-ip w ↦ inl (w.if-ip.true, w.root-is)
      | else-ip w ↦ inr (w.if-ip.false, w.root-is)
    ]) in
    found_by_trie c.self.inside.rows.value c.self.inside.nodes c.if-ip.root c.args.ip.now c.find_from.result trie c.find_from.ensures.found ∙ ap (λ r. longest r c.args.ip.now) c.self.view_is

pub returns-clause-row : goal.returns-clause-row
returns-clause-row g c =
    let trie = root_of_family c.self.inside.rows.value c.self.inside.nodes c.self.inside.four c.self.inside.six c.if-ip.root c.args.ip.now.six c.self.invariant.2
    (elim c.if-ip.branch [
      | then-ip w ↦ inl (w.if-ip.true, w.root-is)
      | else-ip w ↦ inr (w.if-ip.false, w.root-is)
    ]) in
    found_within c.args.self.now c.args.ip.now c.find_from.result
    (found_by_trie c.self.inside.rows.value c.self.inside.nodes c.if-ip.root c.args.ip.now c.find_from.result trie c.find_from.ensures.found ∙ ap (λ r. longest r c.args.ip.now) c.self.view_is)
