use Rattle.std.proofs.Common.{sym, ◌∙◌, subst}
use Rattle.disk_journal.specs.declared.header.Heading.{Heading}
use Rattle.disk_journal.specs.GateFile.{HasRecords}
use Rattle.disk_journal.specs.Journal.{IsHeadFault}
use Rattle.store_audit.proofs.Roots.{cut_root, headless_root, whole_root}
use Rattle.store_audit.proofs.root.generation_in_force.Goals as goal

pub returns-in-Err-Damaged-clause-named : goal.returns-in-Err-Damaged-clause-named
returns-in-Err-Damaged-clause-named g c = λ files told. headless_root files c.in-Err-Damaged.field-0 _ c.in-Err-Damaged.field-0-is
    (subst (λ (h : Heading). IsHeadFault h (files 0) c.in-Err-Damaged.field-0) c.root_heading.ensures (c.in-Err-Damaged.ensures.fault files told))

pub returns-then-is_some-clause-named : goal.returns-then-is_some-clause-named
returns-then-is_some-clause-named g c = λ files told. cut_root files c.in-Ok.found.0 c.in-Ok.found.1 (sym c.is_some.ensures ∙ c.if-is_some.true) (subst (λ (h : Heading). HasRecords h c.in-Ok.found.0 c.in-Ok.found.1 (files 0)) c.root_heading.ensures (c.in-Ok.ensures.records files told))

pub returns-clause-named : goal.returns-clause-named
returns-clause-named g c = λ files told. whole_root files c.in-Ok.found.0 c.as_slice.result.now c.as_slice.ensures c.in-Ok.found.1 (sym c.is_some.ensures ∙ c.if-is_some.false) (subst (λ (h : Heading). HasRecords h c.in-Ok.found.0 c.in-Ok.found.1 (files 0)) c.root_heading.ensures (c.in-Ok.ensures.records files told)) c.last_named.result c.last_named.ensures.named
