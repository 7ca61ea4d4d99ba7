-- Reading a gate file from its header to the first gate that isn't open.
use Rattle.std.proofs.Common.{◌≡◌, ◌<◌, ◌+◌, ◌^◌, ⊎_elim, inl, inr, ℕ, Bool, true, List, [], ◌∷◌, ◌++◌, length, take, drop, false, Result, Ok, Err, OnOk, is_err, refl, sym, ◌∙◌, ap, arith, append_assoc, length-append}
use Rattle.std.specs.Prelude.{Some}
use Rattle.std.specs.Int.{to_be_bytes, w64}
use Rattle.std.proofs.Math.Seq.{drop-append_seam}
use Rattle.std.proofs.lemmas.List.{take-append-drop, length-take-le, drop-drop, length-drop}
use Rattle.edge_traits.specs.Disk.{DiskView, Image}
use Rattle.disk_journal.specs.declared.header.Heading.{Heading}
use Rattle.disk_journal.specs.GateFile.{header, header_length, open_record, open_records, HasRecords, IsCutAt}
use Rattle.disk_journal.specs.Journal.{IsFaultOf, IsHeadFault}
use Rattle.disk_journal.specs.declared.journal.JournalFault.{JournalFault}
use Rattle.disk_journal.specs.declared.journal.JournalFault.TheVariants as fault
use Rattle.disk_journal.proofs.Appends.{have_lengths_push, open_records_push}
use Rattle.disk_journal.proofs.Resting.{length_open_record}
use Rattle.disk_journal.specs.Reads.{OnlyReads, BeginsWithBody, IsReadOf, IsReadTo, IsCutShort, IsOpen}

-- one run of reads after another
pub reads_on : {old mid new : DiskView} → OnlyReads old mid → OnlyReads mid new → OnlyReads old new
reads_on first then = record {
  told = then.told ∙ first.told;
  crash = λ file passes c left. first.crash file passes c (then.crash file passes c left);
  later = omega (arith, first.later, then.later);
  nothing_else = λ t image le left. ⊎_elim (first.nothing_else t image le) (λ now. inr (λ file. first.crash file tt (image file) (now file))) (then.nothing_else t image (omega (arith, le, first.later)) left);
  count = omega (arith, first.count, then.count);
}

-- how far the loop is
pub record HaveRead (old now : DiskView) (file end : ℕ) (bodies : List (List ℕ)) (at : ℕ) : Type 0 where
  pub reads : OnlyReads old now
  pub place : at ≡ header_length + length (open_records bodies)
  pub within : at < end
  pub to : (files : Image) (heading : Heading) → old.told ≡ Some files → end ≡ length (files file) → take header_length (files file) ≡ header heading
      → IsReadTo heading bodies at (drop at (files file)) (files file)

pub pushed : {T E P : Type 0} (r : Result T E) → OnOk r P → is_err r ≡ false → P
pushed (Ok x) holds ok = holds
pushed (Err e) holds ok = absurd (cc)

-- one body more
pub place_more : (at size : ℕ) (bodies more : List (List ℕ)) (body : List ℕ) → at ≡ header_length + length (open_records bodies) → more ≡ bodies ++ body ∷ [] → size ≡ length body
    → at + (9 + size) ≡ header_length + length (open_records more)
place_more at size bodies more body place pushed is =
    omega (arith, ap (λ bs. length (open_records bs)) pushed, ap length (open_records_push bodies body), length-append (open_records bodies) (open_record body), length_open_record body)

-- a record that isn't whole is where the file is cut
pub cut_at : (heading : Heading) (bodies : List (List ℕ)) (at : ℕ) (file : List ℕ) → IsReadTo heading bodies at (drop at file) file → IsCutShort (drop at file) → IsCutAt heading file at
cut_at heading bodies at file to short = record {
  bodies = bodies;
  behind = short.behind;
  lengths = to.lengths;
  content = to.content ∙ ap (λ l. header heading ++ open_records bodies ++ l) short.opened;
  place = to.place;
  cut = short.cut;
}

-- the records up to such a gate, or up to one that isn't open
pub records_of : (heading : Heading) (bodies : List (List ℕ)) (at : ℕ) (is_cut : Bool) (file : List ℕ) → IsReadOf heading bodies at is_cut file → is_cut ≡ true → HasRecords heading bodies (Some at) file
unfolding cut_at
records_of heading bodies at is_cut file is cut = (cut_at heading bodies at file is.to (is.cut cut), refl)

-- a file without records is damaged there
pub head_is_damage : (e : JournalFault) (heading : Heading) (file : List ℕ) → IsHeadFault heading file e → IsFaultOf heading file e
head_is_damage (fault.Damaged at) heading file (inl other) = inl other
head_is_damage (fault.Damaged at) heading file (inr ends) = inr (inl ends)
head_is_damage fault.Disk heading file told = tt
head_is_damage fault.OutOfMemory heading file told = tt

-- behind an open gate and a length stands a body of that length
pub body_read : (at size : ℕ) (body file : List ℕ) → size < 2 ^ 64 → IsOpen (drop at file) size → body ≡ take size (drop (at + 9) file) → BeginsWithBody (drop at file) body
body_read at size body file small opened is =
    let behind = opened.behind in
    let word = to_be_bytes w64 size in
    let rest : drop (at + 9) file ≡ behind = sym (drop-drop 9 at file) ∙ ap (drop 9) opened.content in
    let is_body : body ≡ take size behind = is ∙ ap (take size) rest in
    let length_body : length body ≡ size = ap length is_body ∙ length-take-le size behind (omega (arith, opened.fits)) in
    let whole : open_record body ++ drop size behind ≡ drop at file =
    ap (λ n. 1 ∷ to_be_bytes w64 n ++ body ++ drop size behind) length_body
    ∙ append_assoc (1 ∷ word) body (drop size behind)
    ∙ ap (λ b. 1 ∷ word ++ (b ++ drop size behind)) is_body
    ∙ ap (λ l. 1 ∷ word ++ l) (take-append-drop size behind)
    ∙ sym opened.content in
    record {
      behind = drop size behind;
      small = omega (arith, small, length_body);
      content = sym whole;
      ends = omega (arith, opened.fits, length-drop size behind);
    }

-- a whole record more
pub record_read : (heading : Heading) (bodies : List (List ℕ)) (at : ℕ) (body file : List ℕ) → IsReadTo heading bodies at (drop at file) file → BeginsWithBody (drop at file) body
    → IsReadTo heading (bodies ++ body ∷ []) (at + (9 + length body)) (drop (at + (9 + length body)) file) file
record_read heading bodies at body file to here =
    let front = header heading ++ open_records bodies in
    let size : length (open_record body) ≡ 9 + length body = length_open_record body in
    let after : drop (at + (9 + length body)) file ≡ here.behind =
    sym (drop-drop (9 + length body) at file) ∙ ap (drop (9 + length body)) here.content ∙ ap (λ n. drop n (open_record body ++ here.behind)) (sym size) ∙ drop-append_seam (open_record body) here.behind in
    let longer : header heading ++ open_records (bodies ++ body ∷ []) ≡ front ++ open_record body =
    ap (λ l. header heading ++ l) (open_records_push bodies body) ∙ sym (append_assoc (header heading) (open_records bodies) (open_record body)) in
    record {
      lengths = have_lengths_push bodies body to.lengths here.small;
      content =
          to.content ∙ ap (λ l. front ++ l) here.content ∙ sym (append_assoc front (open_record body) here.behind)
          ∙ ap (λ l. l ++ here.behind) (sym longer) ∙ ap (λ l. header heading ++ open_records (bodies ++ body ∷ []) ++ l) (sym after);
      place = omega (arith, to.place, ap length longer, length-append front (open_record body), size);
    }
