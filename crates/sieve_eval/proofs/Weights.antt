-- Each call of a run is of something smaller.
use Rattle.std.proofs.Common.{◌≡◌, ℕ, suc, ◌+◌, ◌*◌, ◌<◌, ◌≤◌, arith}

pub chosen_falls : (n c o t : ℕ) → n ≡ suc (c + o) → 3 * n ≡ t → 3 * (c + o) + 2 < t
chosen_falls n c o t is at = omega arith

pub item_falls : (n all t : ℕ) → n ≤ all → 3 * all + 1 ≡ t → 3 * n < t
item_falls n all t less at = omega arith

pub case_falls : (m n c o t : ℕ) → m ≡ n → n ≤ c → 3 * (c + o) + 2 ≡ t → 3 * m + 1 < t
case_falls m n c o t same less at = omega arith
