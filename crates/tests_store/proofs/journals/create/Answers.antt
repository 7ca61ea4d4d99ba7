use Rattle.std.proofs.Common.{◌≡◌, true, false, refl, sym, ap, ◌∙◌}
use Rattle.edge_memory.specs.Disk.{files_of}
use Rattle.disk_journal.specs.Journal.{JournalView}
use Rattle.tests_store.proofs.journals.create.Goals as goal

pub returns : goal.returns
returns c =
    let is = c.in_ok-journal.ensures.journal in
    let rest = c.in_ok-journal.ensures.at_rest (files_of c.args.disk.now) (files_of c.create.new.disk) refl refl in
    record {
      file = ap (λ (j : JournalView). j.file) is;
      at_rest = λ whole. (_, rest);
      small = λ broken. let clash : false ≡ true = sym (ap (λ (j : JournalView). j.broken) is) ∙ broken in absurd (cc clash);
    }
