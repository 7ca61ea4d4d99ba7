-- Options that have a value exactly where a relation holds.
use Rattle.std.proofs.Common.{◌≡◌, ◌↔◌, Bool, true, false, Option, Some, None, option_map, refl, sym, ap, ◌∙◌, if◌then◌else◌}
use Rattle.std.specs.Option.{option_and_then}
use Rattle.std.proofs.lemmas.Option.{none-some, same_Some}

-- the option has the value that the relation holds of, and no other
pub record IsFormOf {A : Type 0} (P : A → Type 0) (o : Option A) : Type 0 where
  pub sound : (v : A) → o ≡ Some v → P v
  pub complete : (v : A) → P v → o ≡ Some v

none_as : {A : Type 0} (P : A → Type 0) (o q : Option A) → IsFormOf P o → o ≡ q → ((v : A) → ¬ (P v)) → o ≡ None
none_as P o None form e none = e
none_as P o (Some v) form e none = absurd (none v (form.sound v e))

-- the option has no value where the relation holds of none
pub none_of : {A : Type 0} (P : A → Type 0) (o : Option A) → IsFormOf P o → ((v : A) → ¬ (P v)) → o ≡ None
none_of P o form none = none_as P o o form refl none

pub form_iff : {A : Type 0} (P : A → Type 0) (o : Option A) (v : A) → IsFormOf P o → (P v ↔ (o ≡ Some v))
form_iff P o v form = (form.complete v, form.sound v)

-- the same option, and the same relation
pub form_by : {A : Type 0} {P Q : A → Type 0} (o : Option A) → ((v : A) → P v → Q v) → ((v : A) → Q v → P v) → IsFormOf P o → IsFormOf Q o
form_by o to from form = record { sound = λ v e. to v (form.sound v e); complete = λ v q. form.complete v (from v q) }

mapped_sound : {A B : Type 0} (f : A → B) (P : A → Type 0) (o q : Option A) → o ≡ q → IsFormOf P o → (w : B) → option_map f q ≡ Some w → (v : A) × P v × (w ≡ f v)
mapped_sound f P o None e form w h = absurd (none-some w h)
mapped_sound f P o (Some v) e form w h = (v, form.sound v e, sym (same_Some (f v) w h))

pub form_map : {A B : Type 0} (f : A → B) (P : A → Type 0) (o : Option A) → IsFormOf P o → IsFormOf (λ w. (v : A) × P v × (w ≡ f v)) (option_map f o)
form_map f P o form = record {
  sound = mapped_sound f P o o refl form;
  complete = λ w h. ap (option_map f) (form.complete h.0 h.1) ∙ ap Some (sym h.2);
}

then_sound : {A B : Type 0} (f : A → Option B) (P : A → Type 0) (Q : A → B → Type 0) (o q : Option A) → o ≡ q → IsFormOf P o → ((v : A) → P v → IsFormOf (Q v) (f v)) → (w : B) → option_and_then f q ≡ Some w → (v : A) × P v × Q v w
then_sound f P Q o None e form each w h = absurd (none-some w h)
then_sound f P Q o (Some v) e form each w h = let p = form.sound v e in (v, p, (each v p).sound w h)

pub form_then : {A B : Type 0} (f : A → Option B) (P : A → Type 0) (Q : A → B → Type 0) (o : Option A) → IsFormOf P o → ((v : A) → P v → IsFormOf (Q v) (f v)) → IsFormOf (λ w. (v : A) × P v × Q v w) (option_and_then f o)
form_then f P Q o form each = record {
  sound = then_sound f P Q o o refl form each;
  complete = λ w h. ap (option_and_then f) (form.complete h.0 h.1) ∙ (each h.0 h.1).complete w h.2;
}

tested_sound : {A : Type 0} (T : Type 0) (P : A → Type 0) (b : Bool) (o : Option A) → (b ≡ true → T) → IsFormOf P o → (v : A) → (if b then o else None) ≡ Some v → T × P v
tested_sound T P true o test form v h = (test refl, form.sound v h)
tested_sound T P false o test form v h = absurd (none-some v h)

tested_complete : {A : Type 0} (T : Type 0) (P : A → Type 0) (b : Bool) (o : Option A) → (T → b ≡ true) → IsFormOf P o → (v : A) → T × P v → (if b then o else None) ≡ Some v
tested_complete T P b o test form v h = rw (test h.0) (form.complete v h.1)

-- where a test decides a condition besides
pub form_if : {A : Type 0} (T : Type 0) (P : A → Type 0) (b : Bool) (o : Option A) → ((b ≡ true) ↔ T) → IsFormOf P o → IsFormOf (λ v. T × P v) (if b then o else None)
form_if T P b o test form = record { sound = tested_sound T P b o test.0 form; complete = tested_complete T P b o test.1 form }

pub form_some : {A : Type 0} (x : A) → IsFormOf (λ v. v ≡ x) (Some x)
form_some x = record { sound = λ v e. sym (same_Some x v e); complete = λ v e. ap Some (sym e) }
