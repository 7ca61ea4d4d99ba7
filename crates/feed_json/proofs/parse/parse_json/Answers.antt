use Rattle.std.proofs.Common.{◌≡◌, None}
use Rattle.std.specs.FinMap.{get}
use Rattle.feed_rows.specs.Reports.{raw_key}
use Rattle.feed_json.proofs.Causes.{never_raw}
use Rattle.feed_json.proofs.parse.parse_json.Goals as goal

pub returns-clause-absent : goal.returns-clause-absent
returns-clause-absent c =
    never_raw c.args.rule.now.style c.args.rule.now.defaults c.in_ok-fields.fields c.bytes-2.result.now (get c.args.report.now raw_key ≡ None)
    c.parse_content.result c.parse_content.ensures
