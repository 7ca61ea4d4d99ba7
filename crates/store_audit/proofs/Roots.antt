-- What the root names.
use Rattle.std.proofs.Common.{◌≡◌, inl, inr, ℕ, List, true, false, is_some, Option, Some, None, Result, Ok, Err, IfOk, MatchOption, sym, subst}
use Rattle.edge_traits.specs.Disk.{Image}
use Rattle.disk_journal.specs.GateFile.{HasBodies, HasRecords}
use Rattle.disk_journal.specs.Journal.{IsHeadFault}
use Rattle.disk_journal.specs.declared.journal.JournalFault.{JournalFault}
use Rattle.disk_journal.specs.declared.journal.JournalFault.TheVariants as fault
use Rattle.disk_journal.proofs.Walking.{head_is_damage}
use Rattle.store_image.specs.Damage.{NameNone}
use Rattle.store_image.specs.Files.{root_file, root_heading}
use Rattle.store_image.specs.Stored.{NamesLast}
use Rattle.generation_reading.specs.Reading.{AreGenerations}
use Rattle.store_audit.specs.Ends.{IsDamagedRoot}
use Rattle.store_audit.specs.declared.verdict.AuditFault.{AuditFault}

-- a root without records is damaged
pub headless_root : (files : Image) (e : JournalFault) (at : ℕ) → e ≡ fault.Damaged at → IsHeadFault root_heading (files root_file) e → IsDamagedRoot files
headless_root files e at is head = (at, inl (head_is_damage (fault.Damaged at) root_heading (files root_file) (subst (IsHeadFault root_heading (files root_file)) is head)))

-- so is one whose last record is cut
pub cut_root : (files : Image) (bodies : List (List ℕ)) (cut : Option ℕ) → is_some cut ≡ true → HasRecords root_heading bodies cut (files root_file) → IsDamagedRoot files
cut_root files bodies None some has = let none = some in absurd (cc)
cut_root files bodies (Some at) some has = (at, inl (inr (inr has.0)))

-- whole records name a generation, or the root is damaged
module _ (files : Image) (bodies given : List (List ℕ)) (same : given ≡ bodies) where
  found_root : (cut : Option ℕ) → is_some cut ≡ false → HasRecords root_heading bodies cut (files root_file) → HasBodies root_heading given (files root_file)
  found_root None none has = subst (λ (bs : List (List ℕ)). HasBodies root_heading bs (files root_file)) (sym same) has
  found_root (Some at) none has = let some = none in absurd (cc)

  named_or_damaged : (found : Option ℕ) → HasBodies root_heading given (files root_file) → MatchOption found ((at : ℕ) × NameNone given at) (AreGenerations given) → MatchOption found (IsDamagedRoot files) (NamesLast (files root_file))
  named_or_damaged None has is = (is.0, inr (given, has, is.1))
  named_or_damaged (Some generation) has is =
      record { before = is.before; bodies = subst (λ (bs : List (List ℕ)). HasBodies root_heading bs (files root_file)) is.is has; given = is.given }

  pub whole_root : (cut : Option ℕ) → is_some cut ≡ false → HasRecords root_heading bodies cut (files root_file)
      → (r : Result (Option ℕ) AuditFault) → IfOk r (λ found. MatchOption found ((at : ℕ) × NameNone given at) (AreGenerations given)) → IfOk r (λ found. MatchOption found (IsDamagedRoot files) (NamesLast (files root_file)))
  whole_root cut none has (Ok found) is = named_or_damaged found (found_root cut none has) is
  whole_root cut none has (Err why) is = tt
