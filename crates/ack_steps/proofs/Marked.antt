-- What a step that marks no key leaves of how many marks came to the caches.
use Rattle.std.proofs.Common.{◌≡◌, ◌≤◌, ◌+◌, ℕ, Result, Ok, Err, sym, subst, arith}
use Rattle.std.specs.Result.{OnErr, OnOk}
use Rattle.base_types.proofs.Everywhere.{all_wider}
use Rattle.core_state.specs.declared.caches.Marks.{Marks}
use Rattle.core_state.specs.declared.state.State.{State}
use Rattle.core_state.specs.Caches.{GotAtMost}

pub at_most_more : (n m : ℕ) → n ≤ m → (s : State) → GotAtMost n s.caches.items → GotAtMost m s.caches.items
at_most_more n m below s = all_wider (λ (x : Marks). x.marks.pushed ≤ n) (λ (x : Marks). x.marks.pushed ≤ m) s.caches.items (λ x most. omega (arith, most, below))

pub on_err_always : {E P : Type 0} (r : Result (Unit {0}) E) → P → OnErr r P
on_err_always (Ok x) p = tt
on_err_always (Err e) p = p

module _ (old new : State) (same : new.caches ≡ old.caches) where
  pub marks_stay : (n : ℕ) → GotAtMost n old.caches.items → GotAtMost n new.caches.items
  marks_stay n all = subst (λ caches. GotAtMost n caches.items) (sym same) all

  pub marks_and_one : (n : ℕ) → GotAtMost n old.caches.items → GotAtMost (n + 1) new.caches.items
  marks_and_one n all = at_most_more n (n + 1) (omega (arith)) new (marks_stay n all)

  pub marks_on_ok : {E : Type 0} (r : Result (Unit {0}) E) (n : ℕ) → GotAtMost n old.caches.items → OnOk r (GotAtMost (n + 1) new.caches.items)
  marks_on_ok (Ok x) n all = marks_and_one n all
  marks_on_ok (Err e) n all = tt

  pub marks_on_err : {E : Type 0} (r : Result (Unit {0}) E) (n : ℕ) → GotAtMost n old.caches.items → OnErr r (GotAtMost n new.caches.items)
  marks_on_err (Ok x) n all = tt
  marks_on_err (Err e) n all = marks_stay n all
