use Rattle.std.proofs.Common.{ℕ, subst, arith}
use Rattle.disk_journal.specs.declared.header.Heading.{Heading}
use Rattle.disk_journal.specs.GateFile.{HasBodies}
use Rattle.disk_journal.specs.Journal.{IsFaultOf}
use Rattle.disk_journal.proofs.Reopening.{read_bodies_of}
use Rattle.journal_book.proofs.Histories.{gate_length}
use Rattle.journal_book.proofs.past.read_generation.Goals as goal
use Rattle.step_code.specs.Code.{first_format}
use Rattle.store_image.specs.Files.{heading_of}

pub returns-in-Ok-clause-short : goal.returns-in-Ok-clause-short
returns-in-Ok-clause-short g c = omega (arith, c.in-Ok.ensures.place, c.in-Ok.ensures.length, gate_length c.heading_of.result c.in-Ok.bodies 0)

pub returns-in-Ok-clause-bodies : goal.returns-in-Ok-clause-bodies
returns-in-Ok-clause-bodies g c = λ files told.
    let found = c.in-Ok.ensures.bodies files told in
    subst (λ (n : ℕ). HasBodies (heading_of first_format c.args.generation) c.in-Ok.bodies (files n)) c.generation_file.ensures
    (subst (λ (h : Heading). HasBodies h c.in-Ok.bodies (files c.generation_file.result)) c.heading_of.ensures
    (read_bodies_of c.heading_of.result c.in-Ok.bodies _ (files c.generation_file.result) found.0 found.1))

pub returns-in-Err-clause-fault : goal.returns-in-Err-clause-fault
returns-in-Err-clause-fault g c = λ files told. subst (λ (n : ℕ). IsFaultOf (heading_of first_format c.args.generation) (files n) c.in-Err.fault) c.generation_file.ensures
    (subst (λ (h : Heading). IsFaultOf h (files c.generation_file.result) c.in-Err.fault) c.heading_of.ensures (c.in-Err.ensures.fault files told))
