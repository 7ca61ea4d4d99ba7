use Rattle.std.proofs.Common.{option_map, ◌∙◌, subst}
use Rattle.disk_journal.specs.declared.header.Heading.{Heading}
use Rattle.disk_journal.specs.GateFile.{HasRecords}
use Rattle.disk_journal.specs.Journal.{IsHeadFault}
use Rattle.store_audit.proofs.Generations.{headless_wrong, records_wrong}
use Rattle.store_audit.proofs.generation.audit_generation.Goals as goal

pub returns-in-Err-Damaged-clause-wrong : goal.returns-in-Err-Damaged-clause-wrong
returns-in-Err-Damaged-clause-wrong g c = λ files told.
    headless_wrong g.R.Rules.meaning files c.args.generation (option_map (λ core. core.now.state) c.args.before) c.in-Err-Damaged.field-0 c.in-Err-Damaged.at _ c.generation_file-file.result c.in-Err-Damaged.field-0-is c.in-Err-Damaged.at-is c.generation_file-file.ensures
    (subst (λ (h : Heading). IsHeadFault h (files c.generation_file-file.result) c.in-Err-Damaged.field-0) c.heading_of-heading.ensures (c.in-Err-Damaged.ensures.fault files told))

pub returns-clause-wrong : goal.returns-clause-wrong
returns-clause-wrong g c = λ files told.
    records_wrong g.R.Rules.meaning files c.args.generation (option_map (λ core. core.now.state) c.args.before) c.in-Ok.found.0 c.as_slice.result.now c.in-Ok.found.1 c.generation_file-file.result c.generation_file-file.ensures c.as_slice.ensures
    (subst (λ (h : Heading). HasRecords h c.in-Ok.found.0 c.in-Ok.found.1 (files c.generation_file-file.result)) c.heading_of-heading.ensures (c.in-Ok.ensures.records files told)) c.in-Err.end (c.in-Err.ensures.wrong files (c.in-Ok.ensures.reads.told ∙ told))
