use Rattle.std.proofs.Common.{sym, subst, ◌∙◌, IfSome}
use Rattle.std.proofs.lemmas.Option.{none-some}
use Rattle.event_text.specs.Decode.{IsTextOfFields}
use Rattle.event_text.proofs.Exact.{strict-none, strict-reads}
use Rattle.event_text.proofs.Messages.{read_message, no_message, the_message, same_message}
use Rattle.event_text.proofs.strict.message_in.Goals as goal

pub returns-in_default-clause-complete : goal.returns-in_default-clause-complete
returns-in_default-clause-complete c = λ message of. absurd (no_message c.args.bytes.now message c.in_default.ensures of)

pub returns-in-Some-2-clause-sound : goal.returns-in-Some-2-clause-sound
returns-in-Some-2-clause-sound c =
    read_message c.args.bytes.now c.in-Some.text.now c.in-Some.kind c.in-Some-2.fields c.in-Some.ensures
    (subst (λ found. IfSome found (IsTextOfFields c.in-Some.text.now)) c.in-Some-2.is c.in_ok-fields.ensures.sound)

pub returns-in-Some-2-clause-complete : goal.returns-in-Some-2-clause-complete
returns-in-Some-2-clause-complete c =
    λ message of. same_message c.in-Some.kind c.in-Some-2.fields c.in_ok-fields.field-0 message c.in-Some-2.is
    (the_message c.args.bytes.now c.in-Some.text.now c.in-Some.kind c.in_ok-fields.field-0 message c.in-Some.ensures c.in_ok-fields.ensures.complete of)

pub returns-in-None-clause-complete : goal.returns-in-None-clause-complete
returns-in-None-clause-complete c =
    λ message of. absurd (none-some message.fields (sym c.in-None.is
    ∙ (the_message c.args.bytes.now c.in-Some.text.now c.in-Some.kind c.in_ok-fields.field-0 message c.in-Some.ensures c.in_ok-fields.ensures.complete of).1))

pub returns-in_default-clause-exact : goal.returns-in_default-clause-exact
returns-in_default-clause-exact c = sym (strict-none c.args.bytes.now (λ message of. no_message c.args.bytes.now message c.in_default.ensures of))

pub returns-in-Some-2-clause-exact : goal.returns-in-Some-2-clause-exact
returns-in-Some-2-clause-exact c =
    sym (strict-reads c.args.bytes.now _ (read_message c.args.bytes.now c.in-Some.text.now c.in-Some.kind c.in-Some-2.fields c.in-Some.ensures
    (subst (λ found. IfSome found (IsTextOfFields c.in-Some.text.now)) c.in-Some-2.is c.in_ok-fields.ensures.sound)))

pub returns-in-None-clause-exact : goal.returns-in-None-clause-exact
returns-in-None-clause-exact c =
    sym (strict-none c.args.bytes.now (λ message of. absurd (none-some message.fields (sym c.in-None.is
    ∙ (the_message c.args.bytes.now c.in-Some.text.now c.in-Some.kind c.in_ok-fields.field-0 message c.in-Some.ensures c.in_ok-fields.ensures.complete of).1))))
