-- The length of a word.
use Rattle.std.proofs.Common.{◌≡◌, ◌≤◌, ℕ, Bool, true, false, List, ◌∷◌, ◌++◌, length, take, drop, refl, sym, ap, ◌∙◌, inl, inr, arith, ⊎_elim}
use Rattle.std.specs.List.{list_all, prefix_len, starts_with}
use Rattle.std.specs.Prelude.{codes, nat_eq, if◌then◌else◌}
use Rattle.std.proofs.lemmas.Bool.{and_from}
use Rattle.std.proofs.lemmas.List.{take-append-drop, length-take-le}
use Rattle.std.proofs.lemmas.List.Sums.{prefix_len-le-length}
use Rattle.std.proofs.lemmas.Bool.Decides.{nat_tests}
use Rattle.base_types.specs.Name.{is_name_byte}
use Rattle.sieve_tokens.specs.Bytes.{is_word_start}
use Rattle.sieve_tokens.specs.Scan.{word_len}
use Rattle.sieve_tokens.specs.Word.{IsPlainWord, IsWord}
use Rattle.sieve_tokens.proofs.Comments.{begins_so, behind_front}
use Rattle.sieve_tokens.proofs.Runs.{run_has, run_passes}

start_is_name : (b : ℕ) → is_word_start b ≡ true → is_name_byte b ≡ true
start_is_name b is = grind (arith, nat_tests)

abbrev Worded : ℕ → List ℕ → Type 0
Worded n text = (bytes : List ℕ) × (rest : List ℕ) × (text ≡ bytes ++ rest) × (length bytes ≡ n) × IsWord bytes

word_by : (b : ℕ) (bs : List ℕ) (t : Bool) → is_word_start b ≡ true → starts_with nat_eq (b ∷ bs) (codes "add!") ≡ t → Worded (if t then 4 else prefix_len is_name_byte (b ∷ bs)) (b ∷ bs)
word_by b bs true start is = (codes "add!", drop 4 (b ∷ bs), behind_front (b ∷ bs) (codes "add!") is, refl, inr refl)
word_by b bs false start is =
    let k = prefix_len is_name_byte bs in
    let size = length-take-le k bs (prefix_len-le-length is_name_byte bs) in
    rw (start_is_name b start) (b ∷ take k bs, drop k bs, ap (λ (l : List ℕ). b ∷ l) (sym (take-append-drop k bs)), omega arith, inl (b, take k bs, refl, start, run_passes is_name_byte bs))

-- a text that begins as a word does begins with a word of that length
pub word_sound : (b : ℕ) (bs : List ℕ) → is_word_start b ≡ true → Worded (word_len (b ∷ bs)) (b ∷ bs)
unfolding word_len
word_sound b bs start = word_by b bs (starts_with nat_eq (b ∷ bs) (codes "add!")) start refl

three : (text rest : List ℕ) → text ≡ codes "add!" ++ rest → prefix_len is_name_byte text ≡ 3
three text rest is = ap (prefix_len is_name_byte) is

plain_most : (t : Bool) (bytes rest : List ℕ) → IsPlainWord bytes → starts_with nat_eq (bytes ++ rest) (codes "add!") ≡ t → length bytes ≤ (if t then 4 else prefix_len is_name_byte (bytes ++ rest))
plain_most t bytes rest h is =
    let (b, bs, at, start, all) = h in
    let names : list_all is_name_byte bytes ≡ true = ap (list_all is_name_byte) at ∙ and_from (is_name_byte b) _ (start_is_name b start) all in
    by t is (run_has is_name_byte bytes rest names)
  where
    by : (t : Bool) → starts_with nat_eq (bytes ++ rest) (codes "add!") ≡ t → length bytes ≤ prefix_len is_name_byte (bytes ++ rest) → length bytes ≤ (if t then 4 else prefix_len is_name_byte (bytes ++ rest))
    by true is most = let e = three (bytes ++ rest) _ (behind_front (bytes ++ rest) (codes "add!") is) in omega arith
    by false is most = most

-- no word there is longer
pub word_most : (bytes rest : List ℕ) → IsWord bytes → length bytes ≤ word_len (bytes ++ rest)
unfolding word_len
word_most bytes rest h = ⊎_elim
    (λ p. plain_most (starts_with nat_eq (bytes ++ rest) (codes "add!")) bytes rest p refl)
    (λ (is : bytes ≡ codes "add!"). let e = ap length is in rw (begins_so (bytes ++ rest) (codes "add!") rest (ap (λ (l : List ℕ). l ++ rest) is)) (omega arith))
    h
