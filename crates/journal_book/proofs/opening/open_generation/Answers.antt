use Rattle.std.proofs.Common.{List, ℕ, length, ap, subst, ◌∙◌}
use Rattle.disk_journal.specs.declared.header.Heading.{Heading}
use Rattle.disk_journal.specs.GateFile.{gate_file, HasBodies}
use Rattle.store_image.specs.Damage.{AreNoHistory}
use Rattle.store_image.specs.Files.{generation_file, heading_of}
use Rattle.generation_reading.specs.Reading.{AreHistory}
use Rattle.journal_book.proofs.Histories.{bad_bodies}
use Rattle.journal_book.proofs.opening.open_generation.Goals as goal
use Rattle.step_code.specs.Code.{first_format}

pub returns-in-Ok-history_of-clause-history : goal.returns-in-Ok-history_of-clause-history
returns-in-Ok-history_of-clause-history g c = (
  c.in-Ok.found.1,
  subst (λ (bodies : List (List ℕ)). AreHistory g.R.Rules.meaning bodies c.in-Ok-history_of.history.base.value c.in-Ok-history_of.history.steps) c.as_slice.ensures c.in-Ok-history_of.ensures.history,
  c.in-Ok.ensures.length ∙ ap (λ (h : Heading). length (gate_file h c.in-Ok.found.1 0)) c.heading_of.ensures,
  λ files told.
      subst (λ (n : ℕ). HasBodies (heading_of first_format c.args.generation) c.in-Ok.found.1 (files n)) c.generation_file.ensures
      (subst (λ (h : Heading). HasBodies h c.in-Ok.found.1 (files c.generation_file.result)) c.heading_of.ensures (c.in-Ok.ensures.bodies files told)),
  c.in-Ok.ensures.at_rest,
)

pub returns-in-Err-history_of-clause-fault : goal.returns-in-Err-history_of-clause-fault
returns-in-Err-history_of-clause-fault g c = λ files told.
    bad_bodies (heading_of first_format c.args.generation) (AreNoHistory g.R.Rules.meaning) c.in-Ok.found.1 c.as_slice.result.now (files (generation_file c.args.generation)) c.in-Err-history_of.fault c.as_slice.ensures
    (subst (λ (n : ℕ). HasBodies (heading_of first_format c.args.generation) c.in-Ok.found.1 (files n)) c.generation_file.ensures
    (subst (λ (h : Heading). HasBodies h c.in-Ok.found.1 (files c.generation_file.result)) c.heading_of.ensures (c.in-Ok.ensures.bodies files told))) c.in-Err-history_of.ensures.fault
