use Rattle.std.proofs.Common.{ap, subst, ◌∙◌}
use Rattle.feed_reader.specs.Beginning.{Begins, IsNew}
use Rattle.collector_feeds.specs.Open.{IsCutBy}
use Rattle.collector_feeds.proofs.Finding.{found_within}
use Rattle.collector_feeds.proofs.open_feed.begin.Goals as goal

pub returns-in-Ok-Cutter-clause-found : goal.returns-in-Ok-Cutter-clause-found
returns-in-Ok-Cutter-clause-found g c = λ feed told.
    let begins = subst (Begins c.rule_of.result feed c.args.at) c.in-Ok-Cutter.field-0-is (c.in-Ok-Cutter.ensures.begins feed told) in
    let new = subst (IsNew c.rule_of.result c.args.at) c.in-Ok-Cutter.field-0-is c.in-Ok-Cutter.ensures.new in
    found_within _ c.new.result.rule feed c.args.at c.new.result.at c.read_on.result.1 begins.1
    (ap (λ r. r.rule) c.new.ensures ∙ ap (λ k. k.rule) new.0 ∙ c.rule_of.ensures)
    (ap (λ r. r.at) c.new.ensures ∙ ap (λ k. k.at) new.0)
    (c.read_on.ensures.found feed (ap (λ r. r.source.told) c.new.ensures ∙ c.begin_at.ensures.told ∙ told))

pub returns-in-Ok-Cutter-clause-rule : goal.returns-in-Ok-Cutter-clause-rule
returns-in-Ok-Cutter-clause-rule g c =
    let new = subst (IsNew c.rule_of.result c.args.at) c.in-Ok-Cutter.field-0-is c.in-Ok-Cutter.ensures.new in
    subst (λ r. IsCutBy r c.read_on.result.0) (ap (λ r. r.rule) c.new.ensures ∙ ap (λ k. k.rule) new.0 ∙ c.rule_of.ensures) c.read_on.ensures.rule
