-- Steps of a generation's bodies that are taken as values.
use Rattle.std.proofs.Common.{◌≡◌, ◌≤◌, ◌<◌, ◌+◌, ◌-◌, ℕ, List, [], ◌∷◌, ◌++◌, length, take, drop, get_or, sym, ap, subst, ◌∙◌, arith, append_assoc, length-append}
use Rattle.std.specs.List.{AllByRecursion}
use Rattle.std.proofs.Math.Seq.{drop-append_seam}
use Rattle.std.proofs.lemmas.Grind.{flat_map-append}
use Rattle.std.proofs.lemmas.List.{append-nil, take_all}
use Rattle.base_types.proofs.Everywhere.{all-append}
use Rattle.stored_types.proofs.Readers.{one_code}
use Rattle.step_code.specs.declared.base.Base.{Base}
use Rattle.step_code.specs.declared.step.Step.{Step}
use Rattle.step_code.specs.Code.{code_of_base, code_of_step, first_format, IsWritable, IsWritableBase}
use Rattle.step_code.specs.Rules.{Meaning}
use Rattle.step_code.proofs.StateLaws.{base_law}
use Rattle.store_image.specs.Stored.{codes_of, AreRecords, IsRecord}
use Rattle.store_image.proofs.Standing.{records_more}
use Rattle.store_image.proofs.Stored.{records_are_one}
use Rattle.generation_reading.specs.Reading.{AreHistory, BeginsWithCode}
use Rattle.generation_reading.proofs.Bodies.{taken_more}

pub codes_one_more : (front : List Step) (step : Step) → codes_of (front ++ step ∷ []) ≡ codes_of front ++ code_of_step step
codes_one_more front step = flat_map-append code_of_step front (step ∷ []) ∙ ap (λ c. codes_of front ++ c) (append-nil (code_of_step step))

-- a front of a body is the codes of these steps, and this is the rest
pub record HasTaken (body rest : List ℕ) (front : List Step) : Type 0 where
  pub coded : AllByRecursion IsWritable front
  pub code : body ≡ codes_of front ++ rest

module _ (body rest : List ℕ) (front : List Step) (was : HasTaken body rest front) (step : Step) (len : ℕ) (found : BeginsWithCode rest step len) where
  rest_is : drop len rest ≡ found.rest
  rest_is = (λ i. drop (found.size i) (found.code i)) ∙ drop-append_seam (code_of_step step) found.rest

  code_more : body ≡ codes_of (front ++ step ∷ []) ++ found.rest
  code_more = was.code ∙ ap (λ r. codes_of front ++ r) found.code ∙ sym (append_assoc (codes_of front) (code_of_step step) found.rest) ∙ ap (λ c. c ++ found.rest) (sym (codes_one_more front step))

  pub taken_on : HasTaken body (drop len rest) (front ++ step ∷ [])
  taken_on = record { coded = all-append IsWritable front (step ∷ []) was.coded (found.writable, tt); code = code_more ∙ ap (λ r. codes_of (front ++ step ∷ []) ++ r) (sym rest_is) }

-- a body that ends behind a step
pub all_taken : (body rest : List ℕ) (front : List Step) (step : Step) → HasTaken body rest (front ++ step ∷ []) → rest ≡ [] → IsRecord body (front ++ step ∷ [])
all_taken body rest front step is none = record {
  some = omega (arith, length-append front (step ∷ []));
  writable = is.coded;
  code = is.code ∙ ap (λ r. codes_of (front ++ step ∷ []) ++ r) none ∙ append-nil (codes_of (front ++ step ∷ []));
}

-- the next body holds these steps
pub records_on : (bodies : List (List ℕ)) (i : ℕ) (item bytes : List ℕ) (steps more now : List Step) → i < length bodies → item ≡ get_or bodies i item → bytes ≡ item → AreRecords (take i bodies) steps → IsRecord bytes more → now ≡ steps ++ more
    → AreRecords (take (i + 1) bodies) now
records_on bodies i item bytes steps more now inside is same was holds now_is =
    subst (λ (ss : List Step). AreRecords (take (i + 1) bodies) ss) (sym now_is)
    (subst (λ (front : List (List ℕ)). AreRecords front (steps ++ more)) (sym (taken_more bodies i item inside is))
    (records_more (take i bodies) steps item more was (subst (λ (b : List ℕ). IsRecord b more) same holds)))

-- what is decoded is the history that the bodies hold
pub decoded_is : (m : Meaning) (bodies : List (List ℕ)) (item body rest : List ℕ) (base found : Base) (steps taken : List Step) → 1 ≤ length bodies → item ≡ get_or bodies 0 item → body ≡ item → AreHistory m bodies base steps
    → IsWritableBase first_format found → body ≡ code_of_base first_format found ++ rest → AreRecords (take (length bodies - 1) (drop 1 bodies)) taken → (found ≡ base) × (taken ≡ steps)
decoded_is m [] item body rest base found steps taken some is same history writable code holds = absurd (omega (arith, some))
decoded_is m (one ∷ others) item body rest base found steps taken some is same history writable code holds =
    let all : take (length (one ∷ others) - 1) others ≡ others = take_all (length (one ∷ others) - 1) others (omega arith) in
    let first : one ≡ code_of_base first_format base = cc (history.splits) in
    let records : others ≡ history.records = cc (history.splits) in
    let whole : code_of_base first_format found ++ rest ≡ code_of_base first_format base ++ [] = sym code ∙ same ∙ is ∙ first ∙ sym (append-nil (code_of_base first_format base)) in (
      (one_code base_law found base rest [] writable history.writable whole).0,
      records_are_one history.records taken steps (subst (λ (bs : List (List ℕ)). AreRecords bs taken) (all ∙ records) holds) history.holds.content,
    )
