-- The bytes that are held under a number, before and after a change.
use Rattle.std.proofs.Common.{◌≡◌, ◌<◌, ◌+◌, ◌==◌, ℕ, zero, suc, Bool, true, false, if◌then◌else◌, List, [], ◌∷◌, ◌++◌, length, get_or, position, Option, Some, None, cond, refl, sym, ap, ◌∙◌, arith}
use Rattle.std.proofs.Math.ListN.{set}
use Rattle.std.specs.List.{position_from}
use Rattle.std.proofs.lemmas.Bool.Decides.{Decides-eqb}
use Rattle.std.proofs.lemmas.List.Quantifiers.{position-Some}
use Rattle.std.proofs.lemmas.Iterator.Adapters.{position_from-zero}
use Rattle.edge_memory.specs.declared.files.FileBytes.{FileBytes}
use Rattle.edge_memory.specs.declared.change.Entry.{Entry}
use Rattle.edge_memory.specs.Entries.{changed, content_after}
use Rattle.edge_memory.specs.Files.{bytes_in}

-- the place of a number in the list
abbrev pub place : ℕ → List FileBytes → Option ℕ
place file held = position (λ h. h.number == file) held

-- the first with the number stands at this place
record IsPlace (file : ℕ) (held : List FileBytes) (i : ℕ) (d : FileBytes) : Type 0 where
  within : i < length held
  here : ((get_or held i d).number == file) ≡ true
  before : (k : ℕ) → k < i → ((get_or held k d).number == file) ≡ false

is_place : (file : ℕ) (held seen : List FileBytes) (i : ℕ) (d : FileBytes) (r : Option ℕ) → seen ≡ held → r ≡ place file seen → r ≡ Some i → IsPlace file held i d
is_place file held seen i d r same looked is =
    let facts = position-Some (λ h. h.number == file) held i d (sym (looked ∙ ap (place file) same) ∙ is) in
    record { within = facts.0; here = facts.1; before = facts.2 }

found_at : (file : ℕ) (held : List FileBytes) (i : ℕ) (d : FileBytes) → IsPlace file held i d → bytes_in file held ≡ (get_or held i d).bytes.items
found_at file [] i d is = absurd (omega (arith, is.within))
found_at file (x ∷ held) zero d is = let here : (x.number == file) ≡ true = is.here in rw here
found_at file (x ∷ held) (suc i) d is =
    let first : (x.number == file) ≡ false = is.before zero (omega arith) in
    let rest : IsPlace file held i d = record { within = omega (arith, is.within); here = is.here; before = λ k lt. is.before (suc k) (omega arith) } in
    rw first (found_at file held i d rest)

pub found_here : (file : ℕ) (held seen : List FileBytes) (i : ℕ) (d : FileBytes) (r : Option ℕ) → seen ≡ held → r ≡ place file seen → r ≡ Some i → d ≡ get_or held i d → bytes_in file held ≡ d.bytes.items
found_here file held seen i d r same looked is at = found_at file held i d (is_place file held seen i d r same looked is) ∙ ap (λ h. h.bytes.items) (sym at)

-- of two numbers that differ one at most is a third
either : (a b other : ℕ) (x y z : List ℕ) → (a == b) ≡ false → (if a == other then x else if b == other then y else z) ≡ (if b == other then y else if a == other then x else z)
either a b other x y z differs = by_tests (a == other) (b == other) refl refl
  where
    by_tests : (t u : Bool) → t ≡ (a == other) → u ≡ (b == other) → (if t then x else if u then y else z) ≡ (if u then y else if t then x else z)
    by_tests true true e f =
        let same : a ≡ b = (Decides-eqb a other).0 (sym e) ∙ sym ((Decides-eqb b other).0 (sym f)) in
        let both = (Decides-eqb a b).1 same in
        absurd (cc)
    by_tests true false e f = refl
    by_tests false true e f = refl
    by_tests false false e f = refl

same_test : (a b other : ℕ) (x y z : List ℕ) → a ≡ b → (if a == other then x else z) ≡ (if b == other then x else if a == other then y else z)
same_test a b other x y z same = by_test (b == other) refl
  where
    by_test : (t : Bool) → t ≡ (b == other) → (if a == other then x else z) ≡ (if t then x else if a == other then y else z)
    by_test true e = let here : (a == other) ≡ true = ap (λ n. n == other) same ∙ sym e in rw here
    by_test false e = let here : (a == other) ≡ false = ap (λ n. n == other) same ∙ sym e in rw here

set_at : (file : ℕ) (held : List FileBytes) (i : ℕ) (d y : FileBytes) → IsPlace file held i d → y.number ≡ file → (other : ℕ) → bytes_in other (set held i y) ≡ (if file == other then y.bytes.items else bytes_in other held)
set_at file [] i d y is same other = absurd (omega (arith, is.within))
set_at file (x ∷ held) zero d y is same other =
    let number : x.number ≡ file = (Decides-eqb x.number file).0 is.here in
    ap (λ n. if n == other then y.bytes.items else bytes_in other held) (same ∙ sym number)
    ∙ same_test x.number file other y.bytes.items x.bytes.items (bytes_in other held) number
set_at file (x ∷ held) (suc i) d y is same other =
    let first : (x.number == file) ≡ false = is.before zero (omega arith) in
    let rest : IsPlace file held i d = record { within = omega (arith, is.within); here = is.here; before = λ k lt. is.before (suc k) (omega arith) } in
    ap (λ bytes. if x.number == other then x.bytes.items else bytes) (set_at file held i d y rest same other)
    ∙ either x.number file other x.bytes.items y.bytes.items (bytes_in other held) first

-- other bytes at the place of the number
changed_at : (file : ℕ) (held seen : List FileBytes) (i : ℕ) (d y : FileBytes) (r : Option ℕ) → seen ≡ held → r ≡ place file seen → r ≡ Some i → d ≡ get_or held i d → y.number ≡ d.number
    → (other : ℕ) → bytes_in other (set held i y) ≡ (if file == other then y.bytes.items else bytes_in other held)
changed_at file held seen i d y r same looked is at same_number other =
    let place = is_place file held seen i d r same looked is in
    set_at file held i d y place (same_number ∙ ap (λ h. h.number) at ∙ (Decides-eqb (get_or held i d).number file).0 place.here) other

none_from : (file n : ℕ) (held : List FileBytes) → position_from (λ h. h.number == file) n held ≡ None → bytes_in file held ≡ []
none_from file n [] none = refl
none_from file n (x ∷ held) none = by_test (x.number == file) none (none_from file (n + 1) held)
  where
    by_test : (t : Bool) → cond t (Some n) (position_from (λ h. h.number == file) (n + 1) held) ≡ None → (position_from (λ h. h.number == file) (n + 1) held ≡ None → bytes_in file held ≡ []) → (if t then x.bytes.items else bytes_in file held) ≡ []
    by_test true none rest = absurd (cc)
    by_test false none rest = rest none

pushed_from : (file n : ℕ) (held : List FileBytes) (y : FileBytes) → position_from (λ h. h.number == file) n held ≡ None → y.number ≡ file
    → (other : ℕ) → bytes_in other (held ++ y ∷ []) ≡ (if file == other then y.bytes.items else bytes_in other held)
pushed_from file n [] y none same other = ap (λ k. if k == other then y.bytes.items else []) same
pushed_from file n (x ∷ held) y none same other = by_test (x.number == file) refl none (λ e. pushed_from file (n + 1) held y e same other)
  where
    by_test : (t : Bool) → t ≡ (x.number == file) → cond t (Some n) (position_from (λ h. h.number == file) (n + 1) held) ≡ None
        → (position_from (λ h. h.number == file) (n + 1) held ≡ None → bytes_in other (held ++ y ∷ []) ≡ (if file == other then y.bytes.items else bytes_in other held))
        → bytes_in other (x ∷ (held ++ y ∷ [])) ≡ (if file == other then y.bytes.items else bytes_in other (x ∷ held))
    by_test true e none rest = absurd (cc)
    by_test false e none rest =
        ap (λ bytes. if x.number == other then x.bytes.items else bytes) (rest none)
        ∙ either x.number file other x.bytes.items y.bytes.items (bytes_in other held) (sym e)

no_place : (file : ℕ) (held seen : List FileBytes) (r : Option ℕ) → seen ≡ held → r ≡ place file seen → r ≡ None → position_from (λ h. h.number == file) 0 held ≡ None
no_place file held seen r same looked is = sym (position_from-zero (λ h. h.number == file) held) ∙ sym (looked ∙ ap (place file) same) ∙ is

-- nothing is held under a number that has no place
pub none_here : (file : ℕ) (held seen : List FileBytes) (r : Option ℕ) → seen ≡ held → r ≡ place file seen → r ≡ None → bytes_in file held ≡ []
none_here file held seen r same looked is = none_from file 0 held (no_place file held seen r same looked is)

at_test : (a b : ℕ) (f : ℕ → List ℕ) (g : List ℕ → List ℕ) → (if a == b then g (f a) else f b) ≡ (if a == b then g (f b) else f b)
at_test a b f g = by_test (a == b) refl
  where
    by_test : (t : Bool) → t ≡ (a == b) → (if t then g (f a) else f b) ≡ (if t then g (f b) else f b)
    by_test true e = ap (λ n. g (f n)) ((Decides-eqb a b).0 (sym e))
    by_test false e = refl

if_same : (t : Bool) (x : List ℕ) → (if t then x else x) ≡ x
if_same true x = refl
if_same false x = refl

module _ (entry : Entry) (held seen : List FileBytes) (r : Option ℕ) (same : seen ≡ held) (looked : r ≡ place entry.file seen) where
  -- the entry changed the bytes at the place of its number
  pub changed_here : (i : ℕ) (d y : FileBytes) → r ≡ Some i → d ≡ get_or held i d → y.number ≡ d.number → y.bytes.items ≡ changed entry.change d.bytes.items
      → (file : ℕ) → bytes_in file (set held i y) ≡ content_after file entry (bytes_in file held)
  changed_here i d y is at number bytes file =
      changed_at entry.file held seen i d y r same looked is at number file
      ∙ ap (λ b. if entry.file == file then b else bytes_in file held) (bytes ∙ ap (changed entry.change) (sym (found_here entry.file held seen i d r same looked is at)))
      ∙ at_test entry.file file (λ f. bytes_in f held) (changed entry.change)

  -- they are the same as before
  pub kept_here : (i : ℕ) (d y : FileBytes) → r ≡ Some i → d ≡ get_or held i d → y.number ≡ d.number → y.bytes.items ≡ d.bytes.items
      → (file : ℕ) → bytes_in file (set held i y) ≡ bytes_in file held
  kept_here i d y is at number bytes file =
      changed_at entry.file held seen i d y r same looked is at number file
      ∙ ap (λ b. if entry.file == file then b else bytes_in file held) (bytes ∙ sym (found_here entry.file held seen i d r same looked is at))
      ∙ at_test entry.file file (λ f. bytes_in f held) (λ b. b)
      ∙ if_same (entry.file == file) (bytes_in file held)

  -- the entry is the first of its number
  pub first_here : (new : List FileBytes) (y : FileBytes) (empty : List ℕ) → r ≡ None → y.number ≡ entry.file → empty ≡ [] → y.bytes.items ≡ changed entry.change empty → new ≡ held ++ y ∷ []
      → (file : ℕ) → bytes_in file new ≡ content_after file entry (bytes_in file held)
  first_here new y empty is number none bytes pushed file =
      let nowhere = no_place entry.file held seen r same looked is in
      ap (bytes_in file) pushed ∙ pushed_from entry.file 0 held y nowhere number file
      ∙ ap (λ b. if entry.file == file then b else bytes_in file held) (bytes ∙ ap (changed entry.change) (none ∙ sym (none_from entry.file 0 held nowhere)))
      ∙ at_test entry.file file (λ f. bytes_in f held) (changed entry.change)
