use Rattle.std.proofs.Common.{◌-◌, length, sym}
use Rattle.sieve_reader.proofs.Answering.{place_end, place_of}
use Rattle.sieve_reader.proofs.sieve.place.Goals as goal

pub returns-in-Some : goal.returns-in-Some
returns-in-Some c =
    let found = c.in-Some.ensures.lookup in
    sym (place_of (length c.args.text.now) c.args.text.now (length c.args.tokens.now - c.args.left) c.args.tokens.now 0 c.in-Some.token.now found.3.0 found.1)

pub returns-in-None : goal.returns-in-None
returns-in-None c = sym (place_end (length c.args.text.now) c.args.text.now (length c.args.tokens.now - c.args.left) c.args.tokens.now 0 c.in-None.ensures.lookup.3)
