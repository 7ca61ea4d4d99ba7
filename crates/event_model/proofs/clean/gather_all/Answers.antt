use Rattle.std.proofs.Common.{[], ◌∙◌, ap, refl}
use Rattle.serde_json.specs.View.{view, members_view}
use Rattle.event_model.specs.Gathered.{nothing_found}
use Rattle.event_model.specs.Lenient.{bad_names, leaves_at, leaves_of, pairs_of}
use Rattle.event_model.proofs.Gathering.{one_more, at_end, all_set, next_of_message}
use Rattle.event_model.proofs.Least.{best_is_least}
use Rattle.event_model.proofs.clean.gather_all.Goals as goal

-- src/clean.rt:70:5
pub members-preserved : goal.members-preserved
members-preserved c = one_more (leaves_of (members_view c.args.members.now.entries)) (leaves_of (members_view c.members.key-iterator))
    (leaves_at c.as_str.result.now (view c.in-Some.tree.now)) (leaves_of (members_view c.next.new.self))
    nothing_found c.members.found c.gather_member.new.found
    (next_of_message c.as_str.result.now c.members.key-iterator c.next.new.self _ c.in-Some.ensures.steps c.as_str.ensures.value)
    c.members.invariant
    c.in_ok-gather_member.ensures

-- src/clean.rt:62:1
pub returns-clause-fields : goal.returns-clause-fields
returns-clause-fields c = (at_end _ (leaves_of (members_view c.members.key-iterator)) nothing_found c.members.found c.members.invariant (ap (λ es. leaves_of (members_view es)) c.in-None.ensures.steps.0)).fields ∙ all_set (pairs_of (leaves_of (members_view c.args.members.now.entries)))

-- src/clean.rt:62:1
pub returns-clause-bad : goal.returns-clause-bad
returns-clause-bad c = best_is_least c.members.found.names.1 (bad_names (leaves_of (members_view c.args.members.now.entries)))
    ((at_end _ (leaves_of (members_view c.members.key-iterator)) nothing_found c.members.found c.members.invariant (ap (λ es. leaves_of (members_view es)) c.in-None.ensures.steps.0)).bad [] refl)
