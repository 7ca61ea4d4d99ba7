-- Journals that tests append to, after a call.
use Rattle.std.proofs.Common.{◌≡◌, ◌↔◌, ◌≤◌, ◌+◌, ◌^◌, ◌++◌, [], ◌∷◌, ℕ, List, length, Bool, true, false, Result, Ok, Err, IsErrOf, OnOk, refl, sym, ap, ◌∙◌, subst, arith}
use Rattle.edge_memory.specs.Disk.{files_of, may_leave}
use Rattle.edge_memory.specs.declared.disk.MemDisk.{MemDisk}
use Rattle.disk_journal.specs.Journal.{JournalView, IsAtRest}
use Rattle.disk_journal.specs.declared.journal.AppendFault.{AppendFault}
use Rattle.disk_journal.specs.declared.journal.AppendFault.TheVariants as fault
use Rattle.tests_store.specs.Usable.{IsUsable}

-- with other room
pub with_room : (old : JournalView) (room : ℕ) (disk : MemDisk) → IsUsable old disk → IsUsable (record old { room = room }) disk
with_room old room disk usable = record {
  file = usable.file;
  at_rest = λ whole.
      let found = usable.at_rest whole in
      let rest = found.1 in (
        found.0,
        record { whole = rest.whole; gate = rest.gate; closed = rest.closed; lengths = rest.lengths; content = rest.content; end = rest.end; durable = rest.durable },
      );
  small = usable.small;
}

-- its length, over a file that isn't large
pub short : (broken : Bool) (journal : JournalView) (disk : MemDisk) → journal.broken ≡ broken → IsUsable journal disk → length (files_of disk 7) ≤ 1000000 → journal.length ≤ 2 ^ 61
short true journal disk is usable small = usable.small is
short false journal disk is usable small =
    let rest = (usable.at_rest is).1 in
    omega (arith, rest.end, ap (λ (f : ℕ). length (files_of disk f)) usable.file, small)

pub after_append : (result : Result (Unit {0}) AppendFault) (old new : JournalView) (before after : MemDisk) (body : List ℕ)
    → IsUsable old before → old.length ≤ 2 ^ 61
    → OnOk result (new ≡ record old { length = old.length + length body + 9 })
    → ((bodies : List (List ℕ)) → IsAtRest old (may_leave before) bodies (files_of before) → OnOk result (IsAtRest new (may_leave after) (bodies ++ body ∷ []) (files_of after)))
    → (IsErrOf result fault.Disk → new ≡ record old { broken = true })
    → ((result ≡ Err fault.Broken) ↔ (old.broken ≡ true))
    → (old.broken ≡ true → (new ≡ old) × (after ≡ before))
    → IsUsable new after
after_append (Ok _) old new before after body usable small ok at_rest disk broken nothing =
    let same : new.broken ≡ old.broken = ap (λ (j : JournalView). j.broken) ok in
    record {
      file = ap (λ (j : JournalView). j.file) ok ∙ usable.file;
      at_rest = λ whole. let found = usable.at_rest (sym same ∙ whole) in (found.0 ++ body ∷ [], at_rest found.0 found.1);
      small = λ is. let kept = (nothing (sym same ∙ is)).0 in omega (arith, small, ap (λ (j : JournalView). j.length) kept);
    }
after_append (Err fault.Disk) old new before after body usable small ok at_rest disk broken nothing =
    let is = disk refl in
    record {
      file = ap (λ (j : JournalView). j.file) is ∙ usable.file;
      at_rest = λ whole. let clash : true ≡ false = sym (ap (λ (j : JournalView). j.broken) is) ∙ whole in absurd (cc clash);
      small = λ _. omega (arith, small, ap (λ (j : JournalView). j.length) is);
    }
after_append (Err fault.Broken) old new before after body usable small ok at_rest disk broken nothing =
    let same = nothing (broken.0 refl) in
    subst (λ (j : JournalView). IsUsable j after) (sym same.0) (subst (λ (d : MemDisk). IsUsable old d) (sym same.1) usable)
