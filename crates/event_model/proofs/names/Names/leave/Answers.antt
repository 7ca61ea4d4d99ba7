use Rattle.std.proofs.Common.{ℕ, List, min, sym, subst}
use Rattle.event_model.specs.Noted.{Agree, least_of}
use Rattle.event_model.proofs.Noting.{agree_cut}
use Rattle.event_model.proofs.names.Names.leave.Goals as goal

pub invariant_of-self : goal.invariant_of-self
invariant_of-self c =
    subst (λ n. Agree n c.truncate.new.self.items (least_of c.self.inside.least)) (sym c.min-self-inside.ensures)
    (subst (λ (name : List ℕ). Agree (min c.self.inside.shared c.args.len) name (least_of c.self.inside.least)) (sym c.truncate.ensures.items)
    (agree_cut c.self.inside.shared c.args.len c.self.inside.name.items (least_of c.self.inside.least) c.self.invariant))
