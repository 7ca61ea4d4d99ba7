use Rattle.std.proofs.Common.{ap, ◌∙◌}
use Rattle.edge_memory.proofs.Steps.{step_idle}
use Rattle.edge_memory.proofs.disk.MemDisk.look.Goals as goal

pub returns-in-Goes-clause-time : goal.returns-in-Goes-clause-time
returns-in-Goes-clause-time c = step_idle _ _ _ _ c.args.self.now.log.numbered c.in-Goes.ensures.entries c.in-Goes.ensures.course.1

pub returns-in-Fails-clause-time : goal.returns-in-Fails-clause-time
returns-in-Fails-clause-time c =
    let same = c.fail.ensures.same in
    step_idle _ _ _ _ c.args.self.now.log.numbered (ap (λ d. d.log.entries.items) same ∙ c.in-Fails.ensures.entries) (ap (λ d. d.log.calls) same ∙ c.in-Fails.ensures.course.1)
