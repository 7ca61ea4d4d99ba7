-- Looking up and changing the count of a name.
use Rattle.std.proofs.Common.{◌≡◌, ◌≢◌, ◌<◌, ℕ, zero, suc, List, [], ◌∷◌, ◌++◌, Bool, true, false, cond, Option, Some, None, IsSome, is_some, unwrap_or, length, position, get_or, refl, sym, ◌∙◌, ap, arith}
use Rattle.std.proofs.Math.ListN.{set}
use Rattle.std.specs.Str.{bytes_eq}
use Rattle.std.specs.List.{position_or_len}
use Rattle.std.proofs.lemmas.List.Quantifiers.{position-Some}
use Rattle.std.proofs.lemmas.List.Sums.{fails_before_first}
use Rattle.std.proofs.lemmas.Slice.Eq.{bytes_eq-Decides}
use Rattle.base_types.proofs.Positions.{place_missing}
use Rattle.edge_traits.specs.Named.{find_named}

abbrev Pairs : Type 0
Pairs = List (List ℕ × ℕ)

-- ---- found

pub found_at : (name : List ℕ) (pairs : Pairs) (i : ℕ) (d : List ℕ × ℕ) → i < length pairs → bytes_eq name (get_or pairs i d).0 ≡ true → ((k : ℕ) → k < i → bytes_eq name (get_or pairs k d).0 ≡ false) → find_named name pairs ≡ Some (get_or pairs i d).1
found_at name [] i d within is before = absurd (omega arith)
found_at name (pair ∷ pairs) zero d within is before = ap (λ b. cond b (Some pair.1) (find_named name pairs)) is
found_at name (pair ∷ pairs) (suc i) d within is before =
    ap (λ b. cond b (Some pair.1) (find_named name pairs)) (before 0 (omega arith))
    ∙ found_at name pairs i d (omega arith) is (λ k below. before (suc k) (omega arith))

none_named : (name : List ℕ) (pairs : Pairs) (d : List ℕ × ℕ) → ((k : ℕ) → k < length pairs → bytes_eq name (get_or pairs k d).0 ≡ false) → find_named name pairs ≡ None
none_named name [] d others = refl
none_named name (pair ∷ pairs) d others =
    ap (λ b. cond b (Some pair.1) (find_named name pairs)) (others 0 (omega arith))
    ∙ none_named name pairs d (λ k below. others (suc k) (omega arith))

pub missing : (name : List ℕ) (pairs : Pairs) → position (λ pair. bytes_eq name pair.0) pairs ≡ None → find_named name pairs ≡ None
missing name pairs none =
    let end = place_missing _ (position_or_len (λ pair. bytes_eq name pair.0) pairs) (length pairs) refl none in
    none_named name pairs ([], 0) (λ k below. fails_before_first (λ pair. bytes_eq name pair.0) pairs k ([], 0) (omega arith))

-- ---- a count that is changed

pub found_set : (name named : List ℕ) (pairs : Pairs) (i count : ℕ) (d : List ℕ × ℕ) → i < length pairs → bytes_eq name named ≡ true → ((k : ℕ) → k < i → bytes_eq name (get_or pairs k d).0 ≡ false) → find_named name (set pairs i (named, count)) ≡ Some count
found_set name named [] i count d within is before = absurd (omega arith)
found_set name named (pair ∷ pairs) zero count d within is before = ap (λ b. cond b (Some count) (find_named name pairs)) is
found_set name named (pair ∷ pairs) (suc i) count d within is before =
    ap (λ b. cond b (Some pair.1) (find_named name (set pairs i (named, count)))) (before 0 (omega arith))
    ∙ found_set name named pairs i count d (omega arith) is (λ k below. before (suc k) (omega arith))

pub other_set : (other named : List ℕ) (pairs : Pairs) (i count : ℕ) (d : List ℕ × ℕ) → i < length pairs → bytes_eq other named ≡ false → bytes_eq other (get_or pairs i d).0 ≡ false → find_named other (set pairs i (named, count)) ≡ find_named other pairs
other_set other named [] i count d within is_not was_not = absurd (omega arith)
other_set other named (pair ∷ pairs) zero count d within is_not was_not =
    ap (λ b. cond b (Some count) (find_named other pairs)) is_not ∙ sym (ap (λ b. cond b (Some pair.1) (find_named other pairs)) was_not)
other_set other named (pair ∷ pairs) (suc i) count d within is_not was_not =
    ap (cond (bytes_eq other pair.0) (Some pair.1)) (other_set other named pairs i count d (omega arith) is_not was_not)

not_named : (b : Bool) (other name : List ℕ) → bytes_eq other name ≡ b → other ≢ name → b ≡ false
not_named true other name test differ = absurd (differ ((bytes_eq-Decides other name).0 test))
not_named false other name test differ = refl

pub bytes_differ : (other name : List ℕ) → other ≢ name → bytes_eq other name ≡ false
bytes_differ other name differ = not_named (bytes_eq other name) other name refl differ

-- ---- a name that is listed

unwrap_cond : (b : Bool) (n : ℕ) (o p : Option ℕ) → unwrap_or o 0 ≡ unwrap_or p 0 → unwrap_or (cond b (Some n) o) 0 ≡ unwrap_or (cond b (Some n) p) 0
unwrap_cond true n o p e = refl
unwrap_cond false n o p e = e

unwrap_zero : (b : Bool) (n : ℕ) → unwrap_or (cond b (Some n) None) n ≡ n
unwrap_zero true n = refl
unwrap_zero false n = refl

-- no count changes
pub count_listed : (other name : List ℕ) (pairs : Pairs) → unwrap_or (find_named other (pairs ++ (name, 0) ∷ [])) 0 ≡ unwrap_or (find_named other pairs) 0
count_listed other name [] = unwrap_zero (bytes_eq other name) 0
count_listed other name (pair ∷ pairs) =
    unwrap_cond (bytes_eq other pair.0) pair.1 (find_named other (pairs ++ (name, 0) ∷ [])) (find_named other pairs) (count_listed other name pairs)

some_cond : (b : Bool) (n : ℕ) (o p : Option ℕ) → (IsSome o → IsSome p) → IsSome (cond b (Some n) o) → IsSome (cond b (Some n) p)
some_cond true n o p keep some = some
some_cond false n o p keep some = keep some

pub stays_listed : (other name : List ℕ) (pairs : Pairs) → IsSome (find_named other pairs) → IsSome (find_named other (pairs ++ (name, 0) ∷ []))
stays_listed other name [] some = absurd (cc)
stays_listed other name (pair ∷ pairs) some =
    some_cond (bytes_eq other pair.0) pair.1 (find_named other pairs) (find_named other (pairs ++ (name, 0) ∷ [])) (stays_listed other name pairs) some

some_or : (b : Bool) (n : ℕ) (o : Option ℕ) → IsSome o → IsSome (cond b (Some n) o)
some_or true n o some = refl
some_or false n o some = some

pub is_listed : (name : List ℕ) (pairs : Pairs) → IsSome (find_named name (pairs ++ (name, 0) ∷ []))
is_listed name [] = ap (λ b. is_some {T = ℕ} (cond b (Some 0) None)) ((bytes_eq-Decides name name).1 refl)
is_listed name (pair ∷ pairs) = some_or (bytes_eq name pair.0) pair.1 (find_named name (pairs ++ (name, 0) ∷ [])) (is_listed name pairs)

-- ---- the changes, in the words of a shelf

-- the name is listed first at this place
pub record IsPlace (name : List ℕ) (pairs : Pairs) (i : ℕ) (d : List ℕ × ℕ) : Type 0 where
  pub within : i < length pairs
  pub here : bytes_eq name (get_or pairs i d).0 ≡ true
  pub before : (k : ℕ) → k < i → bytes_eq name (get_or pairs k d).0 ≡ false

pub place_is : (name : List ℕ) (pairs : Pairs) (i : ℕ) (d : List ℕ × ℕ) → position (λ pair. bytes_eq name pair.0) pairs ≡ Some i → IsPlace name pairs i d
place_is name pairs i d found =
    let at = position-Some (λ pair. bytes_eq name pair.0) pairs i d found in
    record { within = at.0; here = at.1; before = at.2 }

pub listed_at : (name : List ℕ) (pairs : Pairs) (i : ℕ) → position (λ pair. bytes_eq name pair.0) pairs ≡ Some i → IsSome (find_named name pairs)
listed_at name pairs i found =
    let at = place_is name pairs i ([], 0) found in
    ap is_some (found_at name pairs i ([], 0) at.within at.here at.before)

pub unlisted : (name : List ℕ) (pairs : Pairs) → position (λ pair. bytes_eq name pair.0) pairs ≡ None → IsSome (find_named name pairs) → ⊥
unlisted name pairs none some = let e = missing name pairs none in cc

-- the pair at this place with another count
pub count_there : (name : List ℕ) (pairs : Pairs) (i count : ℕ) (pair : List ℕ × ℕ) → position (λ p. bytes_eq name p.0) pairs ≡ Some i → pair ≡ get_or pairs i pair → (find_named name pairs ≡ Some pair.1) × (find_named name (set pairs i (pair.0, count)) ≡ Some count)
count_there name pairs i count pair found read =
    let at = place_is name pairs i pair found in
    let here : bytes_eq name pair.0 ≡ true = ap (λ p. bytes_eq name p.0) read ∙ at.here in
    (found_at name pairs i pair at.within at.here at.before ∙ ap (λ p. Some p.1) (sym read), found_set name pair.0 pairs i count pair at.within here at.before)

pub count_elsewhere : (name other : List ℕ) (pairs : Pairs) (i count : ℕ) (pair : List ℕ × ℕ) → position (λ p. bytes_eq name p.0) pairs ≡ Some i → pair ≡ get_or pairs i pair → other ≢ name → find_named other (set pairs i (pair.0, count)) ≡ find_named other pairs
count_elsewhere name other pairs i count pair found read differ =
    let at = place_is name pairs i pair found in
    let named : name ≡ pair.0 = (bytes_eq-Decides name pair.0).0 (ap (λ p. bytes_eq name p.0) read ∙ at.here) in
    let is_not : bytes_eq other pair.0 ≡ false = ap (bytes_eq other) (sym named) ∙ bytes_differ other name differ in
    other_set other pair.0 pairs i count pair at.within is_not (ap (λ p. bytes_eq other p.0) (sym read) ∙ is_not)

stays_by : (b : Bool) (name other : List ℕ) (pairs : Pairs) (i count : ℕ) (pair : List ℕ × ℕ) → bytes_eq other name ≡ b → position (λ p. bytes_eq name p.0) pairs ≡ Some i → pair ≡ get_or pairs i pair → IsSome (find_named other pairs) → IsSome (find_named other (set pairs i (pair.0, count)))
stays_by true name other pairs i count pair test found read some =
    let same : other ≡ name = (bytes_eq-Decides other name).0 test in
    ap (λ n. is_some (find_named n (set pairs i (pair.0, count)))) same ∙ ap is_some ((count_there name pairs i count pair found read).1)
stays_by false name other pairs i count pair test found read some =
    let differ : other ≢ name = λ same. let e = (bytes_eq-Decides other name).1 same in cc in
    ap is_some (count_elsewhere name other pairs i count pair found read differ) ∙ some

pub stays_there : (name other : List ℕ) (pairs : Pairs) (i count : ℕ) (pair : List ℕ × ℕ) → position (λ p. bytes_eq name p.0) pairs ≡ Some i → pair ≡ get_or pairs i pair → IsSome (find_named other pairs) → IsSome (find_named other (set pairs i (pair.0, count)))
stays_there name other pairs i count pair found read some = stays_by (bytes_eq other name) name other pairs i count pair refl found read some
