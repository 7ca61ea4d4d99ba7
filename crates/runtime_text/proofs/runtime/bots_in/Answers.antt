use Rattle.std.proofs.Common.{◌∙◌, Bool, Some, ap, subst}
use Rattle.std.proofs.lemmas.List.{append-nil}
use Rattle.serde_json.specs.View.{view, members_view}
use Rattle.event_model.proofs.Written.{in_front}
use Rattle.runtime_text.proofs.Bots.{bots_rise, member_added, member_refused}
use Rattle.runtime_text.specs.Read.{entries_of, IsAdded}
use Rattle.runtime_text.specs.Runtime.{bots_in}
use Rattle.runtime_text.proofs.runtime.bots_in.Goals as goal

pub members-preserved : goal.members-preserved
members-preserved c =
    let old = entries_of c.members.bots.items in
    let new = entries_of c.add_member.new.bots.items in
    member_added _ c.members.name-iterator c.next.new.self (c.in-Some.name.now, c.in-Some.tree.now) c.as_str.result.now old new c.members.invariant c.in-Some.ensures.steps c.as_str.ensures.value
    (subst (λ (b : Bool). IsAdded c.as_str.result.now (view c.in-Some.tree.now) b old new) c.if-not-branch.false c.in_ok-add_member.ensures)

pub returns-then-not-branch-clause-bots : goal.returns-then-not-branch-clause-bots
returns-then-not-branch-clause-bots c =
    let old = entries_of c.members.bots.items in
    let new = entries_of c.add_member.new.bots.items in
    member_refused _ c.members.name-iterator c.next.new.self (c.in-Some.name.now, c.in-Some.tree.now) c.as_str.result.now old new c.members.invariant c.in-Some.ensures.steps c.as_str.ensures.value
    (subst (λ (b : Bool). IsAdded c.as_str.result.now (view c.in-Some.tree.now) b old new) c.if-not-branch.true c.in_ok-add_member.ensures)

pub returns-clause-order : goal.returns-clause-order
returns-clause-order c =
    let done = entries_of c.members.bots.items in
    bots_rise c.args.members.now.entries done c.iter-name-items.ensures.ordered
    (c.members.invariant ∙ ap (λ es. in_front done (bots_in (members_view es))) c.in-None.ensures.steps.0 ∙ ap Some (append-nil done))
