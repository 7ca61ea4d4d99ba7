use Rattle.event_text.specs.Decode.{string_end, escape_end}
use Rattle.event_text.proofs.Ends.{end_at, keeps_covered}
use Rattle.event_text.proofs.string.behind_escape.Goals as goal

pub returns-in-len1-up-clause-kept : goal.returns-in-len1-up-clause-kept
returns-in-len1-up-clause-kept c =
    let bytes = c.args.bytes.now in
    end_at escape_end string_end bytes bytes 1 (keeps_covered bytes c.in-len1-up.len_at_least)
