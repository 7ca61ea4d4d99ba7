use Rattle.std.proofs.Common.{◌≡◌, ◌∙◌, Option, None, Some, IsSome, IfSome, Bor, option_copied, option_map, ap, sym, subst, refl, arith}
use Rattle.std.proofs.lemmas.List.{length-map}
use Rattle.link_store.specs.declared.node.Node.{Node}
use Rattle.link_store.specs.Links.{HasItem, LinksView}
use Rattle.link_store.specs.Kept.{lists_in}
use Rattle.link_store.proofs.Found.{node_item}
use Rattle.link_store.proofs.Reading.{IsWithin, held_within}
use Rattle.link_store.proofs.Seen.{has_item, has_node, seen}
use Rattle.link_store.proofs.links.Links.get.Goals as goal

some_of : {T : Type 0} (answer : Option (Bor T)) (value : T) → option_copied answer ≡ Some value → IsSome answer
some_of None value e = absurd (cc)
some_of (Some found) value e = refl

value_of : {T : Type 0} (node : Node) (answer : Option (Bor T)) (value : T) (v : LinksView T) → option_copied answer ≡ Some value → HasItem (record { node = node; value = value }) v → IfSome answer (λ found. HasItem (record { node = node; value = found.now }) v)
value_of node None value v e has = tt
value_of {T} node (Some found) value v e has = let same : found.now ≡ value = cc in subst (λ (w : T). HasItem (record { node = node; value = w }) v) (sym same) has

pub returns-then-not-holds-clause-live : goal.returns-then-not-holds-clause-live
returns-then-not-holds-clause-live g c =
    let links = c.self.inside in
    let has = has_node links.slots.items links.heads.items links.lens.items links.room links.pushed c.args.node c.self.invariant.linked in
    rw (← c.self.view_is) ((λ some. absurd (cc (some))), λ is. absurd (cc (c.if-not-holds.true, (rw c.deref.ensures.value at c.holds.ensures).1 (has.1 is))))

pub value_at-requires : goal.value_at-requires
value_at-requires g c =
    let links = c.self.inside in
    let (held, is, number) = (rw c.deref.ensures.value at c.holds.ensures).0 c.if-not-holds.false in
    let within : IsWithin links.slots.items c.args.node.slot = held_within links.slots.items links.heads.items links.lens.items c.args.node.slot held c.self.invariant.linked is in
    rw c.deref-2.ensures.value (omega (arith, within.slot, length-map links.slots.items (λ s. s.next)))

pub returns-clause-live : goal.returns-clause-live
returns-clause-live g c =
    let links = c.self.inside in
    let has = has_node links.slots.items links.heads.items links.lens.items links.room links.pushed c.args.node c.self.invariant.linked in
    let holds = (rw c.deref.ensures.value at c.holds.ensures).0 c.if-not-holds.false in
    let value : option_copied c.value_at.result ≡ Some holds.0.value = (rw c.deref-2.ensures.value at c.value_at.ensures) ∙ ap (option_map (λ held. held.value)) holds.1 in
    rw (← c.self.view_is) ((λ some. has.0 holds), λ is. some_of c.value_at.result holds.0.value value)

pub returns-clause-value : goal.returns-clause-value
returns-clause-value g c =
    let links = c.self.inside in
    let v = seen (lists_in links.slots.items links.heads.items links.lens.items) links.room links.pushed in
    let (held, is, number) = (rw c.deref.ensures.value at c.holds.ensures).0 c.if-not-holds.false in
    let value : option_copied c.value_at.result ≡ Some held.value = (rw c.deref-2.ensures.value at c.value_at.ensures) ∙ ap (option_map (λ held. held.value)) is in
    rw (← c.self.view_is) (value_of c.args.node c.value_at.result held.value v value
    (subst (λ i. HasItem i v) (node_item c.args.node held number) (has_item links.slots.items links.heads.items links.lens.items links.room links.pushed c.args.node.slot held c.self.invariant.linked is)))
