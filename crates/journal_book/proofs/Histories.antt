-- Files whose bodies are bad.
use Rattle.std.proofs.Common.{◌≡◌, ◌+◌, inr, ℕ, List, [], ◌∷◌, ◌++◌, length, subst, arith, length-append}
use Rattle.disk_journal.specs.GateFile.{gate_file, header, open_records, HasBodies}
use Rattle.disk_journal.proofs.GateFiles.{length_header}
use Rattle.disk_journal.specs.declared.header.Heading.{Heading}
use Rattle.disk_journal.specs.declared.journal.JournalFault.{JournalFault}
use Rattle.disk_journal.specs.declared.journal.JournalFault.TheVariants as fault
use Rattle.store_image.specs.Damage.{behind_bodies, IsDamagedFile}
use Rattle.journal_book.specs.Opening.{IsFileFault}
use Rattle.generation_reading.specs.Reading.{IsBodyFault}

-- whole records and a gate
pub gate_length : (heading : Heading) (bodies : List (List ℕ)) (gate : ℕ) → length (gate_file heading bodies gate) ≡ behind_bodies bodies + 1
gate_length heading bodies gate = omega (arith, length-append (header heading ++ open_records bodies) (gate ∷ []), length-append (header heading) (open_records bodies), length_header heading)

-- bodies that stand whole in a file and are bad damage it
pub bad_bodies : (heading : Heading) (bad : List (List ℕ) → ℕ → Type 0) (bodies seen : List (List ℕ)) (file : List ℕ) (e : JournalFault) → seen ≡ bodies → HasBodies heading bodies file → IsBodyFault (bad seen) e → IsFileFault (IsDamagedFile heading bad file) e
bad_bodies heading bad bodies seen file (fault.Damaged at) same has is = inr (bodies, has, subst (λ (bs : List (List ℕ)). bad bs at) same is)
bad_bodies heading bad bodies seen file fault.Disk same has is = tt
bad_bodies heading bad bodies seen file fault.OutOfMemory same has is = tt
