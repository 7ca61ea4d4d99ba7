-- What the bodies of a store's files say.
use Rattle.std.proofs.Common.{◌≡◌, ◌≢◌, ◌≤◌, ◌<◌, ◌+◌, inr, ℕ, suc, List, [], ◌∷◌, ◌++◌, length, map, take, drop, get_or, Option, Some, MatchOption, refl, sym, ap, subst, ◌∙◌, arith, append_assoc, length-append}
use Rattle.std.specs.List.{AllByRecursion}
use Rattle.std.proofs.Math.Seq.{take-suc}
use Rattle.std.proofs.lemmas.Grind.{flat_map-append}
use Rattle.std.proofs.lemmas.List.{append-nil, map-append, nil_from_length, take-append-drop}
use Rattle.base_types.proofs.Everywhere.{all-append}
use Rattle.disk_journal.specs.GateFile.{frame_length, open_record, open_records}
use Rattle.disk_journal.proofs.Appends.{open_records_push}
use Rattle.disk_journal.proofs.Resting.{length_open_record}
use Rattle.stored_types.specs.Code.{number}
use Rattle.stored_types.proofs.Readers.{one_code}
use Rattle.step_code.specs.declared.base.Base.{Base}
use Rattle.step_code.specs.Code.{code_of_base, first_format, IsWritableBase}
use Rattle.step_code.specs.Rules.{Meaning}
use Rattle.step_code.specs.Sound.{IsSound}
use Rattle.step_code.specs.Spent.{last_given}
use Rattle.step_code.proofs.StateLaws.{base_law}
use Rattle.store_image.specs.Damage.{behind_bodies, NameNone}
use Rattle.generation_reading.specs.Reading.{IsBase}

-- ---- going through bodies

pub taken_more : (bodies : List (List ℕ)) (i : ℕ) (body : List ℕ) → i < length bodies → body ≡ get_or bodies i body → take (i + 1) bodies ≡ take i bodies ++ body ∷ []
taken_more bodies i body inside is = let next : i + 1 ≡ suc i = omega arith in ap (λ n. take n bodies) next ∙ take-suc bodies i body inside ∙ ap (λ b. take i bodies ++ b ∷ []) (sym is)

pub split_there : (bodies : List (List ℕ)) (i : ℕ) (body : List ℕ) → i < length bodies → body ≡ get_or bodies i body → bodies ≡ take i bodies ++ body ∷ drop (i + 1) bodies
split_there bodies i body inside is =
    sym (take-append-drop (i + 1) bodies) ∙ ap (λ front. front ++ drop (i + 1) bodies) (taken_more bodies i body inside is) ∙ append_assoc (take i bodies) (body ∷ []) (drop (i + 1) bodies)

pub behind_within : (bodies : List (List ℕ)) (i : ℕ) (body : List ℕ) → i < length bodies → body ≡ get_or bodies i body → length (open_records (take i bodies)) + (frame_length + length body) ≤ length (open_records bodies)
behind_within bodies i body inside is =
    omega (
      arith,
      ap (λ bs. length (open_records bs)) (split_there bodies i body inside is),
      ap length (flat_map-append open_record (take i bodies) (body ∷ drop (i + 1) bodies)),
      length-append (open_records (take i bodies)) (open_record body ++ open_records (drop (i + 1) bodies)),
      length-append (open_record body) (open_records (drop (i + 1) bodies)),
      length_open_record body,
    )

-- the offset behind one body more
pub behind_more : (bodies : List (List ℕ)) (body : List ℕ) → length (open_records (bodies ++ body ∷ [])) ≡ length (open_records bodies) + (frame_length + length body)
behind_more bodies body = omega (arith, ap length (open_records_push bodies body), length-append (open_records bodies) (open_record body), length_open_record body)

-- ---- generations

-- these bodies are numbers of generations, of which this is the last, and the next gate stands at this offset
pub record HaveNamed (front : List (List ℕ)) (last : Option ℕ) (at : ℕ) : Type 0 where
  pub named : List ℕ
  pub bodies : front ≡ map number named
  pub given : AllByRecursion (λ n. n ≤ last_given) named
  pub last_is : MatchOption last (named ≡ []) (λ n. (before : List ℕ) × (named ≡ before ++ n ∷ []))
  pub place : at ≡ behind_bodies front

pub named_more : (front : List (List ℕ)) (last : Option ℕ) (at : ℕ) (body : List ℕ) (n : ℕ) → HaveNamed front last at → body ≡ number n → n ≤ last_given → HaveNamed (front ++ body ∷ []) (Some n) (at + (9 + length body))
named_more front last at body n was is small = record {
  named = was.named ++ n ∷ [];
  bodies = (λ i. was.bodies i ++ is i ∷ []) ∙ sym (map-append number was.named (n ∷ []));
  given = all-append (λ k. k ≤ last_given) was.named (n ∷ []) was.given (small, tt);
  last_is = (was.named, refl);
  place = omega (arith, was.place, behind_more front body);
}

pub no_generation : (bodies front later : List (List ℕ)) (last : Option ℕ) (at : ℕ) (body : List ℕ) → HaveNamed front last at → bodies ≡ front ++ body ∷ later → ((n : ℕ) → n ≤ last_given → body ≢ number n) → NameNone bodies at
no_generation bodies front later last at body was splits bad = inr (record {
  before = was.named;
  body = body;
  later = later;
  splits = splits ∙ ap (λ bs. bs ++ body ∷ later) was.bodies;
  given = was.given;
  bad = bad;
  place = was.place ∙ ap behind_bodies was.bodies;
})

-- ---- a state

pub base_whole : (m : Meaning) (base : Base) (body rest : List ℕ) (len : ℕ) → IsWritableBase first_format base → IsSound m base → body ≡ code_of_base first_format base ++ rest → len ≡ length (code_of_base first_format base) → len ≡ length body
    → IsBase m body base
base_whole m base body rest len writable sound code size whole =
    let none : rest ≡ [] = nil_from_length rest (omega (arith, ap length code, length-append (code_of_base first_format base) rest, size, whole)) in
    record { code = code ∙ ap (λ r. code_of_base first_format base ++ r) none ∙ append-nil (code_of_base first_format base); writable = writable; sound = sound }

pub base_longer : (base other : Base) (body rest : List ℕ) (len : ℕ) → IsWritableBase first_format base → body ≡ code_of_base first_format base ++ rest → len ≡ length (code_of_base first_format base) → len ≢ length body
    → IsWritableBase first_format other → body ≢ code_of_base first_format other
base_longer base other body rest len writable code size longer fits is =
    let same = one_code base_law base other rest [] writable fits (sym code ∙ is ∙ sym (append-nil (code_of_base first_format other))) in
    longer (omega (arith, ap length code, length-append (code_of_base first_format base) rest, size, ap length same.1))

pub base_refused : (m : Meaning) (base other : Base) (body rest : List ℕ) → IsWritableBase first_format base → body ≡ code_of_base first_format base ++ rest → (IsSound m base → ⊥) → IsWritableBase first_format other → IsSound m other
    → body ≢ code_of_base first_format other
base_refused m base other body rest writable code refused fits sound is =
    let same = one_code base_law base other rest [] writable fits (sym code ∙ is ∙ sym (append-nil (code_of_base first_format other))) in
    refused (subst (IsSound m) (sym same.0) sound)
