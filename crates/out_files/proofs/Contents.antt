-- What a write, or a cut, leaves at a file's front.
use Rattle.std.proofs.Common.{◌≡◌, ◌<◌, ◌≤◌, ◌+◌, ⊎_elim, ℕ, min, List, [], ◌∷◌, ◌++◌, length, get_or, take, drop, sym, ◌∙◌, ap, arith, length-append, append_assoc}
use Rattle.std.proofs.lemmas.List.{get_or_default, length-take, length-take-le, take-take, take_at, take_more, take-append-drop, append-nil, nil_from_length}
use Rattle.std.proofs.lemmas.Bool.{cases_lt}
use Rattle.std.proofs.lemmas.Grind.{flat_map-append}
use Rattle.edge_traits.specs.Disk.{Torn, Cut, overwritten}
use Rattle.out_files.specs.Output.{lines_text, completed}
use Rattle.out_files.specs.Run.{IsSoFar}

-- content that begins with so many bytes has them
long_enough : (sealed : ℕ) (front c : List ℕ) → length front ≡ sealed → take sealed c ≡ front → sealed ≤ length c
long_enough sealed front c long begins = omega (arith, length-take sealed c, ap length begins)

-- a write that a crash cuts short keeps what stands before it
pub torn_keeps : (sealed at n : ℕ) (front old new : List ℕ) → sealed ≤ at → length front ≡ sealed → take sealed old ≡ front → Torn at n old new → take sealed new ≡ front
torn_keeps sealed at n front old new above long begins torn =
    let has = long_enough sealed front old long begins in
    sym (take-take sealed (min at (length old)) new (omega arith)) ∙ ap (take sealed) torn.before ∙ take-take sealed at old above ∙ begins

-- so does a cut
pub cut_keeps : (sealed end : ℕ) (front old new : List ℕ) → sealed ≤ end → length front ≡ sealed → take sealed old ≡ front → Cut end old new → take sealed new ≡ front
cut_keeps sealed end front old new above long begins cut =
    let has = long_enough sealed front old long begins in
    let shorter = cut.no_shorter in
    ap (take sealed) (sym cut.front) ∙ take-take sealed (length new) old (omega arith) ∙ begins

-- the gathered bytes, written at the offset
pub written_out : (at : ℕ) (gathered text old new : List ℕ) → IsSoFar old at gathered text → new ≡ overwritten old at gathered → IsSoFar new (at + length gathered) [] text
written_out at gathered text old new before written =
    let has = before.within in
    let rest = drop (at + length gathered) old in
    let whole : new ≡ text ++ rest = written ∙ ap (λ (l : List ℕ). l ++ rest) before.so_far in
    let long : length text ≡ at + length gathered = omega (arith, ap length before.so_far, length-append (take at old) gathered, length-take-le at old has) in
    record {
      within = omega (arith, ap length whole, length-append text rest);
      so_far = append-nil (take (at + length gathered) new) ∙ ap (take (at + length gathered)) whole ∙ take_at text rest (at + length gathered) long;
    }

-- one line more
pub lines_more : (lines : List (List ℕ)) (i : ℕ) (line : List ℕ) → i < length lines → line ≡ get_or lines i line → lines_text (take (i + 1) lines) ≡ lines_text (take i lines) ++ (line ++ 10 ∷ [])
lines_more lines i line within is =
    ap lines_text (take_more lines i line within ∙ ap (λ (l : List ℕ). take i lines ++ l ∷ []) (sym is))
    ∙ flat_map-append (λ (l : List ℕ). l ++ 10 ∷ []) (take i lines) (line ∷ [])
    ∙ ap (λ (l : List ℕ). lines_text (take i lines) ++ l) (append-nil (line ++ 10 ∷ []))

pub pushed_same : (more gathered line item : List ℕ) → more ≡ gathered ++ line ++ 10 ∷ [] → line ≡ item → more ≡ gathered ++ item ++ 10 ∷ []
pushed_same more gathered line item pushed same = pushed ∙ ap (λ (l : List ℕ). gathered ++ l ++ 10 ∷ []) same

pub lines_no_longer : (lines : List (List ℕ)) (i : ℕ) → length (lines_text (take i lines)) ≤ length (lines_text lines)
lines_no_longer lines i =
    let parts = ap lines_text (take-append-drop i lines) in
    let joined = flat_map-append (λ (l : List ℕ). l ++ 10 ∷ []) (take i lines) (drop i lines) in
    omega (arith, ap length parts, ap length joined, length-append (lines_text (take i lines)) (lines_text (drop i lines)))

pub gathered_more : (content : List ℕ) (at : ℕ) (gathered more front : List ℕ) (sealed : ℕ) (lines : List (List ℕ)) (i : ℕ) (line : List ℕ)
    → i < length lines → line ≡ get_or lines i line → more ≡ gathered ++ line ++ 10 ∷ []
    → IsSoFar content at gathered (completed front sealed (take i lines)) → IsSoFar content at more (completed front sealed (take (i + 1) lines))
gathered_more content at gathered more front sealed lines i line within is pushed before = record {
  within = before.within;
  so_far =
      let added = line ++ 10 ∷ [] in
      let one = pushed ∙ append_assoc gathered line (10 ∷ []) in
      ap (λ (l : List ℕ). take at content ++ l) one ∙ sym (append_assoc (take at content) gathered added) ∙ ap (λ (l : List ℕ). l ++ added) before.so_far
      ∙ append_assoc (take sealed front) (lines_text (take i lines)) added ∙ ap (λ (l : List ℕ). take sealed front ++ l) (sym (lines_more lines i line within is));
}

-- before the first line
pub nothing_gathered : (sealed : ℕ) (gathered old new : List ℕ) → gathered ≡ [] → sealed ≤ length old → old ≡ new → IsSoFar new sealed gathered (completed old sealed [])
nothing_gathered sealed gathered old new none within same = record {
  within = omega (arith, ap length same);
  so_far = ap (λ (l : List ℕ). take sealed l ++ gathered) (sym same) ∙ ap (λ (l : List ℕ). take sealed old ++ l) none;
}

-- when nothing is gathered any more
pub all_written : (content : List ℕ) (n : ℕ) (gathered text all : List ℕ) → length gathered < 1 → text ≡ all → IsSoFar content n gathered text → IsSoFar content n [] all
all_written content n gathered text all none same before = record {
  within = before.within;
  so_far = ap (λ (l : List ℕ). take n content ++ l) (sym (nil_from_length gathered (omega arith))) ∙ before.so_far ∙ same;
}

pub size_more : (at sealed : ℕ) (gathered more : List ℕ) (lines : List (List ℕ)) (i : ℕ) (line : List ℕ)
    → i < length lines → line ≡ get_or lines i line → more ≡ gathered ++ line ++ 10 ∷ []
    → at + length gathered ≡ sealed + length (lines_text (take i lines)) → at + length more ≡ sealed + length (lines_text (take (i + 1) lines))
size_more at sealed gathered more lines i line within is pushed before =
    let added = line ++ 10 ∷ [] in
    let one = pushed ∙ append_assoc gathered line (10 ∷ []) in
    omega (arith, ap length one, length-append gathered added, ap length (lines_more lines i line within is), length-append (lines_text (take i lines)) added)

-- no line is longer, one line later
pub longest_more : (lines : List (List ℕ)) (i : ℕ) (item : List ℕ) (before now : ℕ) → i < length lines → item ≡ get_or lines i item
    → ((k : ℕ) (line : List ℕ) → k < i → line ≡ get_or lines k line → length line ≤ before) → before ≤ now → length item ≤ now
    → (k : ℕ) (line : List ℕ) → k < i + 1 → line ≡ get_or lines k line → length line ≤ now
longest_more lines i item before now within is each rose fits k line lt here =
    ⊎_elim (λ earlier. (let le = each k line earlier here in omega (arith, le, rose))) (λ last.
    let at : k ≡ i = omega (arith, last, lt) in
    let same : line ≡ item = here ∙ ap (λ j. get_or lines j line) at ∙ get_or_default lines i line item within ∙ sym is in
    omega (arith, ap length same, fits)) (cases_lt k i)
