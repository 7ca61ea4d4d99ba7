use Rattle.std.proofs.Common.{◌≡◌, ◌∙◌, ◌↔◌, ℕ, get_or, Option, Some, None, option_map, ap, sym, refl}
use Rattle.link_store.specs.declared.node.Node.{Node}
use Rattle.link_store.specs.declared.slots.Held.{Held}
use Rattle.link_store.specs.Slots.{cells}
use Rattle.link_store.proofs.Bounds.{equal_same, same_of}
use Rattle.link_store.proofs.slots.holds.Goals as goal

by_number : {T : Type 0} (cell : Option (Held T)) (k n : ℕ) (found : Node) → Some found ≡ option_map (λ held. record { slot = k; number = held.number }) cell → (found.number ≡ n) ↔ ((held : Held T) × (cell ≡ Some held) × (held.number ≡ n))
by_number None k n found e = absurd (cc)
by_number {T} (Some held) k n found e =
    let same : found.number ≡ held.number = number e in
    ((λ is. (held, refl, sym same ∙ is)), λ has. same ∙ alike has.0 has.1 ∙ has.2)
  where
    number : Some found ≡ Some (record { slot = k; number = held.number }) → found.number ≡ held.number
    number e = let node : found ≡ record { slot = k; number = held.number } = cc in ap (λ n. n.number) node

    alike : (other : Held T) → Some held ≡ Some other → held.number ≡ other.number
    alike other e = let same : held ≡ other = cc in ap (λ h. h.number) same

pub returns-in-Some : goal.returns-in-Some
returns-in-Some g c =
    let is = by_number (get_or (cells c.args.slots.now) c.args.node.slot None) c.args.node.slot c.args.node.number c.in-Some.found c.in-Some.ensures in
    (λ e. is.0 (same_of c.in-Some.found.number c.args.node.number e), λ has. equal_same c.in-Some.found.number c.args.node.number (is.1 has))
