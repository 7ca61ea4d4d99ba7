use Rattle.std.proofs.Common.{◌+◌, ap, arith}
use Rattle.store_image.proofs.Standing.{replay_steps}
use Rattle.journal_book.proofs.book.Book.durable.Goals as goal

pub overflow_sub-result-2 : goal.overflow_sub-result-2
overflow_sub-result-2 g c =
    let i = c.self.inside in
    omega (arith, c.steps.ensures, c.len.ensures, ap (λ s. s.steps) c.self.invariant.1.behind, replay_steps g.R.Rules.meaning i.base.value i.steps)

pub returns : goal.returns
returns g c =
    let i = c.self.inside in
    omega (arith, c.steps.ensures, c.len.ensures, c.self.invariant.1.within, ap (λ s. s.steps) c.self.invariant.1.behind, replay_steps g.R.Rules.meaning i.base.value i.steps, ap (λ b. b.base.steps + b.kept) c.self.view_is)
