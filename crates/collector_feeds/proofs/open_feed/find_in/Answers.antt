use Rattle.std.proofs.Common.{◌≡◌, ◌≤◌, ℕ, length, IfOk, IfSome, sym, ap, subst, ◌∙◌}
use Rattle.collector_feeds.specs.Found.{IsAhead, rule_of}
use Rattle.collector_feeds.specs.Open.{read_of, source_of, IsCutBy, IsReadWithin}
use Rattle.collector_feeds.proofs.Finding.{found_within}
use Rattle.collector_feeds.proofs.open_feed.find_in.Goals as goal

pub returns-in-Reading-clause-found : goal.returns-in-Reading-clause-found
returns-in-Reading-clause-found g c = λ content told read.
    let reader = c.in-Reading.reader in
    let here : reader.at ≡ c.args.at = subst (λ o. IfSome (read_of o) (λ read. read ≡ c.args.at)) c.in-Reading.is c.standing_at.ensures.read in
    let rule = subst (IsCutBy (rule_of c.args.facts.now)) c.in-Reading.is (c.standing_at.ensures.rule (rule_of c.args.facts.now) c.requires.rule) in
    let within : reader.at ≤ length content = subst (λ o. IsReadWithin content (read_of o)) c.in-Reading.is (c.standing_at.ensures.within content read) in
    let source = ap (λ s. s.told) (sym (ap (source_of g.S.Source.source) c.in-Reading.is) ∙ c.standing_at.ensures.source) in
    found_within _ reader.rule content c.args.at reader.at c.read_on.result.1 (subst (λ (n : ℕ). n ≤ length content) here within) rule here (c.read_on.ensures.found content (source ∙ told))

pub returns-in-Reading-clause-ahead : goal.returns-in-Reading-clause-ahead
returns-in-Reading-clause-ahead g c =
    let here : c.in-Reading.reader.at ≡ c.args.at = subst (λ o. IfSome (read_of o) (λ read. read ≡ c.args.at)) c.in-Reading.is c.standing_at.ensures.read in
    subst (λ (n : ℕ). IfOk c.read_on.result.1 (IsAhead n)) here c.read_on.ensures.ahead

pub returns-in-Reading-clause-within : goal.returns-in-Reading-clause-within
returns-in-Reading-clause-within g c = λ content told read.
    let source = ap (λ s. s.told) (sym (ap (source_of g.S.Source.source) c.in-Reading.is) ∙ c.standing_at.ensures.source) in
    c.read_on.ensures.within content (source ∙ told) (subst (λ o. IsReadWithin content (read_of o)) c.in-Reading.is (c.standing_at.ensures.within content read))

pub returns-in-Reading-clause-rule : goal.returns-in-Reading-clause-rule
returns-in-Reading-clause-rule g c =
    let rule = subst (IsCutBy (rule_of c.args.facts.now)) c.in-Reading.is (c.standing_at.ensures.rule (rule_of c.args.facts.now) c.requires.rule) in
    subst (λ r. IsCutBy r c.read_on.result.0) rule c.read_on.ensures.rule
