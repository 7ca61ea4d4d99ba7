use Rattle.std.proofs.Common.{subst}
use Rattle.event_model.specs.Edits.{IsPush}
use Rattle.event_text.proofs.PairTexts.{found_none, found_some, no_pair, no_field, not_above, taken, shorter, refused, accepted}
use Rattle.event_text.proofs.pairs.take_field.Goals as goal

pub returns-in_default-clause-none : goal.returns-in_default-clause-none
returns-in_default-clause-none c =
    λ _. no_pair c.args.text.now c.args.fields.now (found_none c.args.text.now c.in_ok-name.field-0 c.in_ok-name.ensures c.in_default.is)

pub returns-then-not-branch-clause-none : goal.returns-then-not-branch-clause-none
returns-then-not-branch-clause-none c =
    λ _. no_field c.args.text.now c.args.fields.now (c.in-Some.name, c.in-Some.value) c.in-Some.behind.now
    (found_some c.args.text.now c.in_ok-name.field-0 c.in-Some.name c.in-Some.value c.in-Some.behind c.in_ok-name.ensures c.in-Some.is)
    (refused c.in-Some.name c.in-Some.value c.in_ok-is_field.field-0 c.in_ok-is_field.ensures c.if-not-branch.true)

pub returns-then-branch-clause-some : goal.returns-then-branch-clause-some
returns-then-branch-clause-some c =
    taken c.args.text.now c.in-Some.behind.now c.args.fields.now c.push.new.self (c.in-Some.name, c.in-Some.value)
    (found_some c.args.text.now c.in_ok-name.field-0 c.in-Some.name c.in-Some.value c.in-Some.behind c.in_ok-name.ensures c.in-Some.is)
    (accepted c.in-Some.name c.in-Some.value c.in_ok-is_field.field-0 c.in_ok-is_field.ensures c.if-not-branch.false)
    (subst (λ pushed. IsPush pushed c.in-Some.name c.in-Some.value c.args.fields.now c.push.new.self) c.if-branch.true c.in_ok-push.ensures.ok)

pub returns-then-branch-clause-shorter : goal.returns-then-branch-clause-shorter
returns-then-branch-clause-shorter c =
    shorter c.args.text.now c.in-Some.behind.now (c.in-Some.name, c.in-Some.value)
    (found_some c.args.text.now c.in_ok-name.field-0 c.in-Some.name c.in-Some.value c.in-Some.behind c.in_ok-name.ensures c.in-Some.is)

pub returns-else-branch-clause-none : goal.returns-else-branch-clause-none
returns-else-branch-clause-none c =
    λ _. not_above c.args.text.now c.args.fields.now (c.in-Some.name, c.in-Some.value) c.in-Some.behind.now
    (found_some c.args.text.now c.in_ok-name.field-0 c.in-Some.name c.in-Some.value c.in-Some.behind c.in_ok-name.ensures c.in-Some.is)
    (subst (λ pushed. IsPush pushed c.in-Some.name c.in-Some.value c.args.fields.now c.push.new.self) c.if-branch.false c.in_ok-push.ensures.ok).0
