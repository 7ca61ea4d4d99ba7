-- The state of a new store.
use Rattle.std.proofs.Common.{◌≡◌, ◌↔◌, List, Bool, true, Some, unwrap_or, sym, ap, ◌∙◌}
use Rattle.step_code.specs.declared.base.Base.{Base}
use Rattle.step_code.specs.declared.rules.Facts.{Facts}
use Rattle.step_code.specs.History.{first}
use Rattle.step_code.specs.Rules.{Meaning}
use Rattle.store_audit.specs.Audit.{IsFirst}

-- a state is that of a new store exactly where a copy of it is the one that its bundle's bots give
pub first_by : (m : Meaning) (state base made : Base) (bots given : List Facts) (is : Bool) → base ≡ state → m.facts state.bundle ≡ Some bots → given ≡ bots → made ≡ first given base.bundle
    → (is ≡ true) ↔ (base ≡ made) → (is ≡ true) ↔ IsFirst m state
first_by m state base made bots given is copy loads same makes both =
    let makes_it : made ≡ first bots state.bundle = makes ∙ ap (λ bs. first bs base.bundle) same ∙ ap (λ (b : Base). first bots b.bundle) copy in (
      λ yes. record { bots = bots; loads = loads; state = sym copy ∙ both.0 yes ∙ makes_it },
      λ found.
          let one : found.bots ≡ bots = ap (λ o. unwrap_or o bots) (sym found.loads ∙ loads) in
          both.1 (copy ∙ found.state ∙ ap (λ bs. first bs state.bundle) one ∙ sym makes_it),
    )
