use Rattle.std.proofs.Common.{ℕ, ◌+◌, ◌≤◌, ◌++◌, OnOk, length, subst}
use Rattle.report_cut.specs.Cutter.{ShowsLong}
use Rattle.report_cut.specs.Pending.{held_of}
use Rattle.report_cut.proofs.Growing.{bounded, counted_after}
use Rattle.report_cut.proofs.cutter.Cutter.feed.Goals as goal

pub returns-clause-no_long : goal.returns-clause-no_long
returns-clause-no_long c =
    subst (λ s. OnOk c.feed.result ((at : ℕ) → ShowsLong s (s.held ++ c.args.piece.now) at → ⊥)) c.self.view_is c.feed.ensures.no_long

pub returns-clause-bounded : goal.returns-clause-bounded
returns-clause-bounded c = bounded c.feed.new.self c.feed.ensures.sound

pub returns-clause-counted : goal.returns-clause-counted
returns-clause-counted c =
    let q = c.feed.new.self in
    subst (λ s. q.at + length (held_of q) ≤ s.at + length s.held + length c.args.piece.now) c.self.view_is (counted_after c.self.inside.pending q c.args.piece.now c.feed.result c.feed.ensures.follows c.feed.ensures.fault)
