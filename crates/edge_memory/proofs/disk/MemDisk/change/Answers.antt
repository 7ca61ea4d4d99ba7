use Rattle.std.proofs.Common.{sym, ◌∙◌, subst}
use Rattle.edge_memory.specs.declared.disk.MemDisk.{MemDisk}
use Rattle.edge_memory.specs.Moments.{IsStep}
use Rattle.edge_memory.proofs.Steps.{step_of_note, step_of_part}
use Rattle.edge_memory.proofs.disk.MemDisk.change.Goals as goal

pub returns-in-Ok-clause-time : goal.returns-in-Ok-clause-time
returns-in-Ok-clause-time c =
    step_of_note c.note.result c.args.self.now.log.entries.items c.begin.new.self.log.entries.items c.note.new.self.log.entries.items c.args.self.now.log.calls c.begin.new.self.log.calls c.note.new.self.log.calls c.args.file c.args.change c.args.self.now.log.numbered c.in-Goes.ensures.entries c.in-Goes.ensures.course.1 c.note.ensures.calls c.note.ensures.ok c.note.ensures.err

pub returns-in-Err-clause-time : goal.returns-in-Err-clause-time
returns-in-Err-clause-time c =
    subst (λ (d : MemDisk). IsStep c.args.self.now.log.entries.items c.args.self.now.log.calls d.log.entries.items d.log.calls) (sym c.starve.ensures.same)
    (step_of_part c.args.self.now.log.entries.items c.note.new.self.log.entries.items c.note_part.new.self.log.entries.items c.args.self.now.log.calls c.note.new.self.log.calls c.note_part.new.self.log.calls c.args.file c.args.part c.args.self.now.log.numbered (c.in-Err.ensures.err ∙ c.in-Goes.ensures.entries) (c.note.ensures.calls ∙ c.in-Goes.ensures.course.1) c.note_part.ensures.calls c.note_part.ensures.entries)

pub returns-in-Fails-clause-time : goal.returns-in-Fails-clause-time
returns-in-Fails-clause-time c =
    subst (λ (d : MemDisk). IsStep c.args.self.now.log.entries.items c.args.self.now.log.calls d.log.entries.items d.log.calls) (sym c.fail.ensures.same)
    (step_of_part c.args.self.now.log.entries.items c.begin.new.self.log.entries.items c.note_part-in-Fails.new.self.log.entries.items c.args.self.now.log.calls c.begin.new.self.log.calls c.note_part-in-Fails.new.self.log.calls c.args.file c.args.part c.args.self.now.log.numbered c.in-Fails.ensures.entries c.in-Fails.ensures.course.1 c.note_part-in-Fails.ensures.calls c.note_part-in-Fails.ensures.entries)
