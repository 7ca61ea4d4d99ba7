use Rattle.std.proofs.Common.{◌≡◌, ◌∙◌, sym, refl, subst, ap, arith, true, false}
use Rattle.std.proofs.lemmas.Option.{slice_get_within}
use Rattle.scalar_net.specs.Network.{is_inside}
use Rattle.prefix_table.specs.Trie.{IsTree, left_below}
use Rattle.prefix_table.proofs.Ways.{goes_on, stops, ends, within, most, one_left}
use Rattle.prefix_table.proofs.search.find_from.Goals as goal

pub way-init : goal.way-init
way-init g c = record {
  here = c.requires;
  found = λ tree stands orderly. (tree, stands, orderly, refl);
  cost = omega (arith, most c.args.nodes.now c.args.ip.now.six c.args.root);
}

pub at-node-requires : goal.at-node-requires
at-node-requires g c =
    let (tree, stands, orderly) = c.way.invariant.here in
    let (node, shown) = within c.args.nodes.now c.in-Some.k tree (subst (λ a. IsTree c.args.nodes.now a tree) c.in-Some.is stands) in
    slice_get_within c.args.nodes.now c.in-Some.k node shown

pub returns-then-not-holds-clause-found : goal.returns-then-not-holds-clause-found
returns-then-not-holds-clause-found g c = λ tree stands orderly.
    let (rest, here, good, same) = c.way.invariant.found tree stands orderly in
    let outside : is_inside c.at-node.result.now.net c.args.ip.now ≡ false = sym c.holds.ensures.test ∙ c.if-not-holds.true in
    sym (stops c.args.nodes.now c.args.ip.now c.way.best c.in-Some.k c.at-node.result.now rest c.at-node.ensures.node outside (subst (λ a. IsTree c.args.nodes.now a rest) c.in-Some.is here)) ∙ same

pub returns-then-not-holds-clause-cost : goal.returns-then-not-holds-clause-cost
returns-then-not-holds-clause-cost g c =
    let (tree, stands, orderly) = c.way.invariant.here in
    let one = one_left c.args.nodes.now c.args.ip.now.six c.in-Some.k c.at-node.result.now tree c.at-node.ensures.node (subst (λ a. IsTree c.args.nodes.now a tree) c.in-Some.is stands) orderly in
    let same = ap (left_below c.args.ip.now.six c.args.nodes.now) c.in-Some.is in
    omega (arith, one.0, one.1, same, c.way.invariant.cost, c.at-node.ensures.counted)

pub way-smaller : goal.way-smaller
way-smaller g c =
    let (tree, stands, orderly) = c.way.invariant.here in
    let here = subst (λ a. IsTree c.args.nodes.now a tree) c.in-Some.is stands in
    let inside : is_inside c.at-node.result.now.net c.args.ip.now ≡ true = sym c.holds.ensures.test ∙ c.if-not-holds.false in
    let one = one_left c.args.nodes.now c.args.ip.now.six c.in-Some.k c.at-node.result.now tree c.at-node.ensures.node here orderly in
    let next = goes_on c.args.nodes.now c.args.ip.now.six c.args.ip.now c.way.best c.in-Some.k c.at-node.result.now tree c.at-node.ensures.node inside here orderly in
    rw (c.child_of-at.ensures, c.in-Some.is, one.0) next.fewer

pub way-preserved : goal.way-preserved
way-preserved g c =
    let (tree, stands, orderly) = c.way.invariant.here in
    let here = subst (λ a. IsTree c.args.nodes.now a tree) c.in-Some.is stands in
    let inside : is_inside c.at-node.result.now.net c.args.ip.now ≡ true = sym c.holds.ensures.test ∙ c.if-not-holds.false in
    let one = one_left c.args.nodes.now c.args.ip.now.six c.in-Some.k c.at-node.result.now tree c.at-node.ensures.node here orderly in
    let next = goes_on c.args.nodes.now c.args.ip.now.six c.args.ip.now c.way.best c.in-Some.k c.at-node.result.now tree c.at-node.ensures.node inside here orderly in
    let same = ap (left_below c.args.ip.now.six c.args.nodes.now) c.in-Some.is in
    record {
      here = rw c.child_of-at.ensures (next.rest, next.stands, next.orderly);
      found = λ whole at_root sound.
          let (rest, there, good, found) = c.way.invariant.found whole at_root sound in
          let on = goes_on c.args.nodes.now c.args.ip.now.six c.args.ip.now c.way.best c.in-Some.k c.at-node.result.now rest c.at-node.ensures.node inside (subst (λ a. IsTree c.args.nodes.now a rest) c.in-Some.is there) good in
          rw (c.child_of-at.ensures, c.or-best.ensures) (on.rest, on.stands, on.orderly, on.same ∙ found);
      cost = rw c.child_of-at.ensures (omega (arith, one.0, next.fewer, same, c.way.invariant.cost, c.at-node.ensures.counted));
    }

pub returns-clause-found : goal.returns-clause-found
returns-clause-found g c = λ tree stands orderly.
    let (rest, here, good, same) = c.way.invariant.found tree stands orderly in
    sym (ends c.args.nodes.now c.args.ip.now c.way.best rest (subst (λ a. IsTree c.args.nodes.now a rest) c.in_default.is here)) ∙ same
