use Rattle.std.proofs.Common.{◌∙◌, length, sym, ap, subst}
use Rattle.sieve_reader.specs.Leaf.{judged}
use Rattle.sieve_reader.specs.Outcome.{cause_of, IsReadFault}
use Rattle.sieve_reader.specs.Parse.{file}
use Rattle.sieve_reader.specs.Refusal.{place}
use Rattle.sieve_reader.proofs.Answering.{left_fits, of_refused, rest_is, told_at}
use Rattle.sieve_reader.proofs.FixedRead.{read_fixed}
use Rattle.sieve_reader.proofs.sieve.read_items.Goals as goal

pub place-requires-clause-left : goal.place-requires-clause-left
place-requires-clause-left c =
    let (rest, e, long) = of_refused c.args.text.now c.args.tokens.now c.new-cursor.result c.new-cursor.ensures c.in-Err-Refused.field-0 c.in-Err-Refused.cause c.in-Err-Refused.left c.in-Err-Refused.field-0-is c.in-Err-Refused.ensures in
    left_fits c.args.text.now c.args.tokens.now (cause_of c.in-Err-Refused.cause) rest c.in-Err-Refused.left e long

pub returns-in-Ok-clause-items : goal.returns-in-Ok-clause-items
returns-in-Ok-clause-items c = (c.file.new.tokens, ap (file judged 64) (sym c.new-cursor.ensures) ∙ c.in-Ok.ensures)

pub returns-in-Err-Refused-clause-fault : goal.returns-in-Err-Refused-clause-fault
returns-in-Err-Refused-clause-fault c =
    let (rest, e, long) = of_refused c.args.text.now c.args.tokens.now c.new-cursor.result c.new-cursor.ensures c.in-Err-Refused.field-0 c.in-Err-Refused.cause c.in-Err-Refused.left c.in-Err-Refused.field-0-is c.in-Err-Refused.ensures in
    let at = c.place.ensures ∙ ap (place (length c.args.text.now)) (rest_is c.args.text.now c.args.tokens.now (cause_of c.in-Err-Refused.cause) rest c.in-Err-Refused.left e long) in
    subst (IsReadFault c.args.text.now c.args.tokens.now) (sym c.fault_at.ensures) (told_at c.args.text.now c.args.tokens.now c.in-Err-Refused.cause c.place.result (rest, e, at))

pub returns-in-Ok-clause-fixed : goal.returns-in-Ok-clause-fixed
returns-in-Ok-clause-fixed c =
    read_fixed c.args.text.now c.args.tokens.now c.requires.tokens c.in-Ok.items (c.file.new.tokens, ap (file judged 64) (sym c.new-cursor.ensures) ∙ c.in-Ok.ensures)
