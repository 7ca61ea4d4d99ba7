-- A journal at rest.
use Rattle.std.proofs.Common.{◌≡◌, ◌<◌, ◌+◌, ◌^◌, ℕ, List, [], ◌∷◌, ◌++◌, length, take, ◌∙◌, ap, arith, length-append}
use Rattle.std.proofs.lemmas.List.{take_at}
use Rattle.edge_traits.specs.Disk.{Image, Only}
use Rattle.disk_journal.specs.declared.header.Heading.{Heading}
use Rattle.disk_journal.specs.GateFile.{header, open_record, open_records, gate_file}
use Rattle.disk_journal.specs.Appending.{shut_record, IsRecordOf, IsAtEnd}
use Rattle.disk_journal.specs.Journal.{JournalView, IsAtRest}
use Rattle.disk_journal.proofs.Appends.{have_lengths_push, open_records_push}

pub at_end : (journal : JournalView) (may_leave : ℕ → List ℕ → Type 0) (bodies : List (List ℕ)) (files : Image) → IsAtRest journal may_leave bodies files
    → IsAtEnd journal.heading bodies journal.length (may_leave journal.file) (files journal.file)
at_end journal may_leave bodies files rest = record { gate = rest.gate; closed = rest.closed; lengths = rest.lengths; content = rest.content; place = rest.end; durable = rest.durable }

length_gate_file : (heading : Heading) (bodies : List (List ℕ)) (gate : ℕ) → length (gate_file heading bodies gate) ≡ length (open_records bodies) + 17
length_gate_file heading bodies gate = omega (arith, length-append (header heading ++ open_records bodies) (gate ∷ []), length-append (header heading) (open_records bodies))

pub length_open_record : (body : List ℕ) → length (open_record body) ≡ 9 + length body
length_open_record body = omega arith

-- one record more
pub length_more : (heading : Heading) (bodies : List (List ℕ)) (body : List ℕ) (gate : ℕ) → length (gate_file heading (bodies ++ body ∷ []) 0) ≡ length (gate_file heading bodies gate) + (9 + length body)
length_more heading bodies body gate =
    omega (arith, length_gate_file heading (bodies ++ body ∷ []) 0, length_gate_file heading bodies gate, ap length (open_records_push bodies body), length-append (open_records bodies) (open_record body), length_open_record body)

-- the bytes that were laid out in a buffer, seen in the whole
pub laid_out : (result new rest body : List ℕ) (len : ℕ) → result ≡ take len (new ++ rest) → length new ≡ len → take (length body + 9) new ≡ shut_record body → length body < 2 ^ 64 → IsRecordOf body (take (9 + length body) result)
laid_out result new rest body len is size filled short = record {
  short = short;
  content = ap (take (9 + length body)) (is ∙ take_at new rest len size) ∙ ap (λ k. take k new) same ∙ filled;
}
  where
    same : 9 + length body ≡ length body + 9
    same = omega arith

pub rests_again : (old new : JournalView) (before now : ℕ → List ℕ → Type 0) (bodies : List (List ℕ)) (files after : Image) (body : List ℕ) → IsAtRest old before bodies files → length body < 2 ^ 64
    → new.file ≡ old.file → new.heading ≡ old.heading → new.length ≡ old.length + (9 + length body) → new.broken ≡ old.broken
    → after new.file ≡ gate_file new.heading (bodies ++ body ∷ []) 0 → Only (after new.file) (now new.file) → IsAtRest new now (bodies ++ body ∷ []) after
rests_again old new before now bodies files after body rest short same_file same_heading longer same_broken content only = record {
  whole = same_broken ∙ rest.whole;
  gate = 0;
  closed = omega arith;
  lengths = have_lengths_push bodies body rest.lengths short;
  content = content;
  end = longer ∙ omega (arith, rest.end, ap length rest.content, length_more old.heading bodies body rest.gate, ap (λ g. length (gate_file g (bodies ++ body ∷ []) 0)) same_heading, ap length content);
  durable = only;
}
