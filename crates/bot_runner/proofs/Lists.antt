-- Lists of which each item has a property, and numbers that rise.
use Rattle.std.proofs.Common.{◌<◌, ◌≤◌, ◌+◌, ℕ, suc, List, [], ◌∷◌, ◌++◌, length, arith}
use Rattle.std.specs.List.{AllByRecursion}
use Rattle.step_code.specs.declared.step.Step.{Step}
use Rattle.worker_turns.specs.Holds.{numbers_of}
use Rattle.bot_runner.specs.Round.{AreRising}

module _ {A : Type 0} where
  pub all_map : (P Q : A → Type 0) → ((x : A) → P x → Q x) → (xs : List A) → AllByRecursion P xs → AllByRecursion Q xs
  all_map P Q f [] all = tt
  all_map P Q f (x ∷ xs) all = (f x all.0, all_map P Q f xs all.1)

  pub all_join : (P : A → Type 0) (xs ys : List A) → AllByRecursion P xs → AllByRecursion P ys → AllByRecursion P (xs ++ ys)
  all_join P [] ys a b = b
  all_join P (x ∷ xs) ys a b = (a.0, all_join P xs ys a.1 b)

-- what rises up to a number, and then from it on, rises
pub rising_on : (b : ℕ) (xs ys : List ℕ) → AreRising xs → AllByRecursion (λ n. n ≤ b) xs → AreRising ys → AllByRecursion (λ n. b < n) ys → AreRising (xs ++ ys)
rising_on b [] ys rx ux ry oy = ry
rising_on b (x ∷ xs) ys rx ux ry oy = (all_join (λ k. x < k) xs ys rx.0 (all_map (λ k. b < k) (λ k. x < k) (λ k over. omega (arith, ux.0, over)) ys oy), rising_on b xs ys rx.1 ux.1 ry oy)

-- the numbers of steps rise from the one before them
pub numbers_over : (n k : ℕ) (steps : List Step) → n ≤ k → AllByRecursion (λ i. n < i) (numbers_of k steps)
numbers_over n k [] least = tt
numbers_over n k (step ∷ steps) least = (omega (arith, least), numbers_over n (suc k) steps (omega (arith, least)))

pub numbers_rise : (n : ℕ) (steps : List Step) → AreRising (numbers_of n steps)
numbers_rise n [] = tt
numbers_rise n (step ∷ steps) = (numbers_over (suc n) (suc n) steps (omega arith), numbers_rise (suc n) steps)

pub numbers_upto : (n : ℕ) (steps : List Step) (b : ℕ) → n + length steps ≤ b → AllByRecursion (λ i. i ≤ b) (numbers_of n steps)
numbers_upto n [] b most = tt
numbers_upto n (step ∷ steps) b most = (omega (arith, most), numbers_upto (suc n) steps b (omega (arith, most)))
