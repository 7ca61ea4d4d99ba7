-- What a test of two parts tells of each.
use Rattle.std.proofs.Common.{◌≡◌, Bool, true, false, ◌&&◌, refl}

pub and_left_true : (a b : Bool) → (a && b) ≡ true → a ≡ true
and_left_true true b h = refl
and_left_true false b h = absurd (cc)

pub and_right_true : (a b : Bool) → (a && b) ≡ true → b ≡ true
and_right_true true b h = h
and_right_true false b h = absurd (cc)

pub not_true : (b : Bool) → ¬ (b ≡ true) → b ≡ false
not_true false h = refl
not_true true h = absurd (h refl)
