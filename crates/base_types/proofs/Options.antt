-- What there is, and what holds of it.
use Rattle.std.proofs.Common.{◌≡◌, true, is_some, Option, Some, None, refl}
use Rattle.std.specs.Option.{IsSomeAnd}

pub some_value : {A : Type 0} (o : Option A) → is_some o ≡ true → (x : A) × (o ≡ Some x)
some_value None is = absurd (cc)
some_value (Some x) is = (x, refl)

pub some_and : {A : Type 0} (o : Option A) (P Q : A → Type 0) → ((x : A) → P x → Q x) → IsSomeAnd o P → IsSomeAnd o Q
some_and None P Q wider found = found
some_and (Some x) P Q wider found = wider x found
