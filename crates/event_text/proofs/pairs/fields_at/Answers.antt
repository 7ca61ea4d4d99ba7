use Rattle.std.proofs.Common.{IfSome, sym, ap, subst, ◌∙◌, Some}
use Rattle.std.specs.Option.{option_copied}
use Rattle.event_text.specs.Decode.{IsReading, TakesField}
use Rattle.event_text.proofs.PairTexts.{reading_start, reading_step, only_ends, end_here, comma_here, neither, none_found}
use Rattle.event_text.proofs.pairs.fields_at.Goals as goal

pub fields-init : goal.fields-init
fields-init c = subst (λ fields. IsReading c.args.text.now c.args.text.now fields) (sym c.in_ok-fields.ensures) (reading_start c.args.text.now)

pub returns-then-is_end-clause-complete : goal.returns-then-is_end-clause-complete
returns-then-is_end-clause-complete c =
    λ all is. ap Some (only_ends c.args.text.now c.fields.rest.now c.fields.fields all c.fields.invariant (end_here c.fields.rest.now _ c.is_end.ensures c.if-is_end.true) is)

pub returns-in_default-clause-complete : goal.returns-in_default-clause-complete
returns-in_default-clause-complete c =
    λ all is. absurd (neither c.args.text.now c.fields.rest.now c.fields.fields all c.fields.invariant
    (sym c.is_end.ensures ∙ c.if-is_end.false) (sym c.behind_comma.ensures ∙ ap option_copied c.in_default.is) is)

pub returns-in_default-2-clause-complete : goal.returns-in_default-2-clause-complete
returns-in_default-2-clause-complete c =
    λ all is. none_found c.args.text.now c.fields.rest.now c.in-Some.pair.now c.fields.fields all c.fields.invariant
    (sym c.behind_comma.ensures ∙ ap option_copied c.in-Some.is) (c.in_ok-behind.ensures.none c.in_default-2.is) is

pub fields-preserved : goal.fields-preserved
fields-preserved c =
    reading_step c.args.text.now c.fields.rest.now c.in-Some.pair.now c.in-Some-2.behind.now c.fields.fields c.take_field.new.fields c.fields.invariant
    (comma_here c.fields.rest.now c.in-Some.pair.now (sym c.behind_comma.ensures ∙ ap option_copied c.in-Some.is))
    (subst (λ found. IfSome found (λ behind. TakesField c.in-Some.pair.now behind.now c.fields.fields c.take_field.new.fields)) c.in-Some-2.is c.in_ok-behind.ensures.some)
