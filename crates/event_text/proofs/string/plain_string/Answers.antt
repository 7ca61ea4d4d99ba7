use Rattle.std.proofs.Common.{refl}
use Rattle.std.specs.List.{prefix_len}
use Rattle.base_types.specs.Plain.{is_plain_ascii}
use Rattle.event_text.proofs.PlainStrings.{plain_ends, plain_run, plain_utf8}
use Rattle.event_text.proofs.string.plain_string.Goals as goal

pub returns-clause-ends : goal.returns-clause-ends
returns-clause-ends c =
    plain_ends c.args.inside.now c.split_plain_ascii.result.0.now c.split_plain_ascii.result.1.now (prefix_len is_plain_ascii c.args.inside.now) refl c.split_plain_ascii.ensures.front c.split_plain_ascii.ensures.back
    c.in-len1-up.len_at_least c.if-mark-ne34.false

pub returns-clause-plain : goal.returns-clause-plain
returns-clause-plain c = plain_run c.args.inside.now c.split_plain_ascii.result.0.now (prefix_len is_plain_ascii c.args.inside.now) refl c.split_plain_ascii.ensures.front

pub returns-clause-utf8 : goal.returns-clause-utf8
returns-clause-utf8 c = plain_utf8 c.args.inside.now c.split_plain_ascii.result.0.now (prefix_len is_plain_ascii c.args.inside.now) refl c.split_plain_ascii.ensures.front
