use Rattle.std.proofs.Common.{sym, ap, subst, [], length, true, false}
use Rattle.std.proofs.lemmas.List.{append-nil}
use Rattle.prefix_table.specs.Growing.{AreTries, HasTrie}
use Rattle.prefix_table.proofs.Grown.{trie_of}
use Rattle.prefix_table.proofs.table.PrefixTable.build.Goals as goal

pub grow-requires : goal.grow-requires
grow-requires c = (0, λ i has. (c.in_ok-fours.ensures i).0 has)

pub grow-requires-2 : goal.grow-requires-2
grow-requires-2 c = (0, λ i has. (c.in_ok-sixes.ensures i).0 has)

pub invariant_of-result : goal.invariant_of-result
invariant_of-result c =
    let rows = c.as_slice-networks.result.now in
    let nodes = c.grow.new.nodes in
    let grown = c.in_ok-six.ensures in
    let fours : HasTrie rows c.grow-2.new.nodes false c.in_ok-four.four =
    subst (λ n. HasTrie rows n false c.in_ok-four.four) (sym grown.appended) (trie_of rows false c.in_ok-fours.fours.items _ nodes grown.more c.in_ok-four.four c.in_ok-fours.ensures c.in_ok-four.ensures) in
    let sixes : HasTrie rows c.grow-2.new.nodes true c.in_ok-six.six =
    subst (λ n. HasTrie rows n true c.in_ok-six.six) (append-nil c.grow-2.new.nodes) (trie_of rows true c.in_ok-sixes.sixes.items _ c.grow-2.new.nodes [] c.in_ok-six.six c.in_ok-sixes.ensures grown) in
    rw c.of.ensures (c.requires, ap length c.as_slice-networks.ensures, subst (λ l. AreTries l c.grow-2.new.nodes c.in_ok-four.four c.in_ok-six.six) c.as_slice-networks.ensures (record { fours = fours; sixes = sixes }))
