use Rattle.std.proofs.Common.{ℕ, Option, MatchOption, inl, refl, subst, ◌∙◌}
use Rattle.store_image.specs.Files.{root_file}
use Rattle.store_image.specs.Stored.{NamesLast}
use Rattle.store_audit.specs.Ends.{IsDamagedRoot}
use Rattle.store_audit.proofs.audit.audit_store.Goals as goal

pub returns-in-Ok-clause-verdict : goal.returns-in-Ok-clause-verdict
returns-in-Ok-clause-verdict g c = λ files told. record {
  generation = c.in-Ok-Some.generation;
  named = subst (λ (o : Option ℕ). MatchOption o (IsDamagedRoot files) (NamesLast (files root_file))) c.in-Ok-Some.field-0-is (c.in-Ok-Some.ensures.named files told);
  comes = c.in-Ok.ensures.verdict files (c.in-Ok-Some.ensures.reads.told ∙ told);
}

pub returns-in-Ok-None-clause-verdict : goal.returns-in-Ok-None-clause-verdict
returns-in-Ok-None-clause-verdict g c = λ files told.
    let damaged = subst (λ (o : Option ℕ). MatchOption o (IsDamagedRoot files) (NamesLast (files root_file))) c.in-Ok-None.field-0-is (c.in-Ok-None.ensures.named files told) in
    (damaged.0, inl (refl, damaged.1))
