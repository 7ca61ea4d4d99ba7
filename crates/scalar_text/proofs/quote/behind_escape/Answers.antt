use Rattle.scalar_text.specs.Quote.{quote_escape, quote_string}
use Rattle.scalar_text.proofs.Quoted.{behind_at, keeps_escape}
use Rattle.scalar_text.proofs.quote.behind_escape.Goals as goal

pub returns-in-len1-up-clause-kept : goal.returns-in-len1-up-clause-kept
returns-in-len1-up-clause-kept c =
    let text = c.args.text.now in
    behind_at quote_escape quote_string text text 1 (keeps_escape text c.in-len1-up.len_at_least)
