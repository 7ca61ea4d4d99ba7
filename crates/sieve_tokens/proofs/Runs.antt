-- The longest run of bytes that pass a test.
use Rattle.std.proofs.Common.{◌≡◌, ℕ, suc, ◌+◌, ◌≤◌, Bool, true, false, List, [], ◌∷◌, ◌++◌, length, take, drop, cond, refl, arith}
use Rattle.std.specs.List.{list_all, prefix_len}
use Rattle.std.proofs.lemmas.Bool.{and_parts, and_from}
use Rattle.sieve_tokens.specs.Bytes.{begins}

module _ (p : ℕ → Bool) where
  -- bytes that pass, before one that doesn't or the end
  pub run_is : (xs rest : List ℕ) → list_all p xs ≡ true → begins p rest ≡ false → prefix_len p (xs ++ rest) ≡ length xs
  run_is [] [] all stop = refl
  run_is [] (r ∷ rest) all stop = rw stop refl
  run_is (x ∷ xs) rest all stop =
      let parts = and_parts (p x) (list_all p xs) all in
      let more = run_is xs rest parts.1 stop in
      rw parts.0 (omega arith)

  pub run_has : (xs rest : List ℕ) → list_all p xs ≡ true → length xs ≤ prefix_len p (xs ++ rest)
  run_has [] rest all = omega arith
  run_has (x ∷ xs) rest all =
      let parts = and_parts (p x) (list_all p xs) all in
      let more = run_has xs rest parts.1 in
      rw parts.0 (omega arith)

  passes_first : (b : Bool) (x : ℕ) (xs : List ℕ) → p x ≡ b → list_all p (take (prefix_len p xs) xs) ≡ true → list_all p (take (cond b (1 + prefix_len p xs) 0) (x ∷ xs)) ≡ true
  passes_first false x xs is more = refl
  passes_first true x xs is more = let one : 1 + prefix_len p xs ≡ suc (prefix_len p xs) = omega arith in rw one (and_from (p x) _ is more)

  -- what stands before the first that doesn't pass
  pub run_passes : (xs : List ℕ) → list_all p (take (prefix_len p xs) xs) ≡ true
  run_passes [] = refl
  run_passes (x ∷ xs) = passes_first (p x) x xs refl (run_passes xs)

  stops_first : (b : Bool) (x : ℕ) (xs : List ℕ) → p x ≡ b → begins p (drop (prefix_len p xs) xs) ≡ false → begins p (drop (cond b (1 + prefix_len p xs) 0) (x ∷ xs)) ≡ false
  stops_first false x xs is more = is
  stops_first true x xs is more = let one : 1 + prefix_len p xs ≡ suc (prefix_len p xs) = omega arith in rw one more

  -- what stands behind it doesn't begin with one that passes
  pub run_stops : (xs : List ℕ) → begins p (drop (prefix_len p xs) xs) ≡ false
  run_stops [] = refl
  run_stops (x ∷ xs) = stops_first (p x) x xs refl (run_stops xs)
