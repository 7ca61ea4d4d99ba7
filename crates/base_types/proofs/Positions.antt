-- What a first place in a list says of its length: `position` gives the place only where it lies below the length.
use Rattle.std.proofs.Common.{◌≡◌, ◌≤◌, ℕ, Bool, true, false, cond, Some, None, nat_lt}
use Rattle.std.proofs.lemmas.Bool.{ltb-false}

pub place_missing : (b : Bool) (k n : ℕ) → nat_lt k n ≡ b → cond b (Some k) None ≡ None → n ≤ k
place_missing true k n test e = cc
place_missing false k n test e = ltb-false k n test
