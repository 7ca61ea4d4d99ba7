use Rattle.std.proofs.Common.{◌≡◌, List, ℕ, Option, refl, ap, ◌∙◌}
use Rattle.event_model.specs.Lenient.{member_name}
use Rattle.event_model.proofs.Gathering.{one_more, next_member, same_least, cut_back}
use Rattle.event_model.proofs.leaves.+leaves.Goals as goal

pub gather_members-members-preserved : goal.gather_members-members-preserved
gather_members-members-preserved t c =
    let key = c.args.found.now.names.0 in
    let inner = c.as_str.result.now in
    let named : c.enter.new.self.0 ≡ member_name key inner = ap (λ (n : List ℕ × Option (List ℕ)). n.0) c.in_ok-enter.ensures ∙ ap (λ (k : List ℕ). member_name k inner) c.members.invariant.0 in (
      ap (λ (n : List ℕ × Option (List ℕ)). n.0) c.leave.ensures ∙ cut_back key inner c.gather.new.found.names.0 _ c.members.invariant.1 (c.in_ok-gather.ensures.name ∙ named),
      c.members.invariant.1,
      one_more _ _ _ _ _ _ _
          (next_member key c.enter.new.self.0 _ _ (c.in-Some.inner.now, c.in-Some.tree.now) c.in-Some.ensures.steps (named ∙ ap (member_name key) c.as_str.ensures.value))
          c.members.invariant.2
          (same_least _ c.members.found _ c.gather.new.found _ refl (ap (λ (n : List ℕ × Option (List ℕ)). n.1) c.in_ok-enter.ensures) refl (ap (λ (n : List ℕ × Option (List ℕ)). n.1) c.leave.ensures) c.in_ok-gather.ensures.found),
    )
