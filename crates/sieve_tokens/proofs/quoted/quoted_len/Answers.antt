use Rattle.sieve_tokens.proofs.Scans.{no_text_closed, text_closed}
use Rattle.sieve_tokens.proofs.quoted.quoted_len.Goals as goal

pub returns-in-Ok : goal.returns-in-Ok
returns-in-Ok c = text_closed c.args.quote c.args.behind.now c.in_ok-at.at c.in_ok-at.ensures.place c.in-Ok.ensures.cases.1

pub returns-in-Err : goal.returns-in-Err
returns-in-Err c = no_text_closed c.args.quote c.args.behind.now c.in_ok-at.at c.in_ok-at.ensures.place c.in-Err.ensures.cases.0
