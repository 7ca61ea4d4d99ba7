use Rattle.std.proofs.Common.{subst}
use Rattle.std.specs.Prelude.{IsUtf8}
use Rattle.std.proofs.lemmas.Str.{is_utf8-from_IsUtf8}
use Rattle.event_json.proofs.text_line.TextLine.enter.Goals as goal

pub returns-then-not-is_below-clause-utf8 : goal.returns-then-not-is_below-clause-utf8
returns-then-not-is_below-clause-utf8 c = is_utf8-from_IsUtf8 c.args.name.now (subst IsUtf8 c.as_str.ensures c.as_str.utf8)

pub returns-clause-utf8 : goal.returns-clause-utf8
returns-clause-utf8 c = is_utf8-from_IsUtf8 c.args.name.now (subst IsUtf8 c.as_str.ensures c.as_str.utf8)
