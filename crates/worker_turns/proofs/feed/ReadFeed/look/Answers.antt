use Rattle.std.proofs.Common.{ap, ◌∙◌}
use Rattle.worker_turns.proofs.feed.ReadFeed.look.Goals as goal

pub returns-clause-found : goal.returns-clause-found
returns-clause-found g c = λ content told.
    let inside = ap (λ s. s.told) c.self.view_is ∙ told in
    let source = ap (λ s. s.told) c.cut_by-open.ensures.source ∙ inside in
    c.find_in-open.ensures.found content source (c.cut_by-open.ensures.within content (c.self.invariant.1 content inside))
