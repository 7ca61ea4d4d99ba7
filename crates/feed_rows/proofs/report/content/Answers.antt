use Rattle.std.proofs.Common.{◌≡◌, None, subst}
use Rattle.std.specs.FinMap.{get}
use Rattle.event_model.specs.Fields.{IsField}
use Rattle.feed_rows.specs.Reports.{raw_key}
use Rattle.feed_rows.proofs.Raws.{never_absent}
use Rattle.feed_rows.proofs.report.content.Goals as goal

pub returns-in-Some-clause-absent : goal.returns-in-Some-clause-absent
returns-in-Some-clause-absent c =
    never_absent (get c.args.report.now raw_key ≡ None) c.raw_bytes.result c.in-Some.value.now
    (subst (λ key. IsField key c.in-Some.value.now) c.in_ok-key.ensures c.in-Some.ensures.field) c.raw_bytes.ensures
