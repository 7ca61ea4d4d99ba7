-- What a call does is one of the outcomes of a crash during it.
use Rattle.std.specs.Prelude.{◌≡◌, ◌≤◌, ◌+◌, ◌-◌, ℕ, List, [], ◌++◌, length, take, drop, min}
use Rattle.std.proofs.Common.{arith, length-append, length-drop}
use Rattle.std.proofs.Math.Seq.{take-append_seam}
use Rattle.std.proofs.lemmas.List.{length-take, take_min}
use Rattle.std.proofs.lemmas.Grind.{common_steps}
use Rattle.edge_traits.specs.Disk.{overwritten, Torn, Cut}

pub take_whole : {A : Type 0} (n : ℕ) (l : List A) → length l ≤ n → take n l ≡ l
take_whole n l le = grind (arith, common_steps)

drop_whole : (n : ℕ) (l : List ℕ) → length l ≤ n → drop n l ≡ []
drop_whole n l le = grind (arith, common_steps)

length_overwritten : (at : ℕ) (bytes old : List ℕ) → length (overwritten old at bytes) ≡ min at (length old) + length bytes + (length old - (at + length bytes))
length_overwritten at bytes old = simp (length-append, length-take, length-drop)

torn_before : (at : ℕ) (front rest : List ℕ) (n : ℕ) → length front ≡ n → take n (front ++ rest) ≡ front
torn_before at front rest n e = rw (← e) (take-append_seam front rest)

torn_behind : (at : ℕ) (bytes old : List ℕ) → drop (at + length bytes) (overwritten old at bytes) ≡ drop (at + length bytes) old
torn_behind at bytes old = grind (arith, common_steps)

pub torn_overwritten : (at : ℕ) (bytes old : List ℕ) → Torn at (length bytes) old (overwritten old at bytes)
torn_overwritten at bytes old = record {
  before = grind (arith, common_steps);
  behind = torn_behind at bytes old;
  no_shorter = omega (arith, length_overwritten at bytes old);
  no_longer = omega (arith, length_overwritten at bytes old);
}

pub cut_take : (len : ℕ) (old : List ℕ) → Cut len old (take len old)
cut_take len old = record { front = grind (arith, common_steps, take_min); no_shorter = omega (arith, length-take len old) }
