use Rattle.std.proofs.Common.{◌≡◌, Some, None, refl, subst}
use Rattle.serde_json.specs.Find.{get_member}
use Rattle.event_model.specs.Lenient.{kind_of, type_key}
use Rattle.event_model.specs.Trees.{lexeme_in}
use Rattle.event_json.specs.Direct.{data_members, named_values, ended, PutsAll, ReadsInOrder}
use Rattle.event_json.proofs.Reading.{message_is}
use Rattle.event_json.proofs.Slices.{of_some}
use Rattle.event_json.proofs.direct.write_members.Goals as goal

pub returns : goal.returns
returns c = λ taken.
    let ordered = named_values c.in-Some.ordered.items in
    let puts = c.in_ok-push_all.ensures c.if-not-branch.false in
    message_is _ ordered c.in-Some-kind_of.kind c.begin.new.self c.push_all.new.line (ended c.push_all.new.line)
    (of_some _ _ (λ found. ReadsInOrder c.args.members.now (named_values found.items)) c.in-Some.is c.in_ok-ordered.ensures)
    (subst (λ ms. lexeme_in (data_members (named_values ms)) ≡ None) c.deref.ensures.value (c.if-may_be_decimal.ensures refl))
    (subst (λ ms. kind_of (get_member type_key (data_members (named_values ms))) ≡ Some c.in-Some-kind_of.kind) c.deref-2.ensures.value c.in-Some-kind_of.ensures)
    c.in_ok-begin.ensures
    (subst (λ ms. PutsAll (named_values ms) c.begin.new.self c.push_all.new.line) c.deref-3.ensures.value puts)
    refl
