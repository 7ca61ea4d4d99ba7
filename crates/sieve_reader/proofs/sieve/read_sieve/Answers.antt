use Rattle.std.proofs.Common.{sym, subst}
use Rattle.sieve_tokens.specs.Token.{AreTokens, IsTokenFault}
use Rattle.sieve_reader.proofs.Answering.{bad_writes_none, if_refused, if_sound, read_complete}
use Rattle.sieve_reader.proofs.sieve.read_sieve.Goals as goal

pub returns-in-Ok-clause-sound : goal.returns-in-Ok-clause-sound
returns-in-Ok-clause-sound c =
    let are = subst (AreTokens c.args.text.now) (sym c.as_slice.ensures) c.in-Ok.ensures.ok in
    if_sound c.args.text.now c.as_slice.result.now are c.read_tokens.result c.read_tokens.ensures.sieve

pub returns-in-Ok-clause-complete : goal.returns-in-Ok-clause-complete
returns-in-Ok-clause-complete c =
    let are = subst (AreTokens c.args.text.now) (sym c.as_slice.ensures) c.in-Ok.ensures.ok in
    read_complete c.args.text.now c.as_slice.result.now are c.read_tokens.result c.read_tokens.ensures.sieve c.read_tokens.ensures.fault

pub returns-in-Ok-clause-refused : goal.returns-in-Ok-clause-refused
returns-in-Ok-clause-refused c =
    let are = subst (AreTokens c.args.text.now) (sym c.as_slice.ensures) c.in-Ok.ensures.ok in
    if_refused c.args.text.now c.as_slice.result.now are c.read_tokens.result c.read_tokens.ensures.fault

pub returns-in-Err-Bad-clause-complete : goal.returns-in-Err-Bad-clause-complete
returns-in-Err-Bad-clause-complete c sieve writes = absurd (bad_writes_none c.args.text.now c.in-Err-Bad.at (subst (IsTokenFault c.args.text.now) c.in-Err-Bad.field-0-is c.in-Err-Bad.ensures.bad) sieve writes)
