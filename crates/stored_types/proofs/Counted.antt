-- Reading items one after the other, as a loop does.
use Rattle.std.proofs.Common.{◌≡◌, ℕ, suc, ◌-◌, ◌+◌, ◌≤◌, ◌<◌, List, [], ◌∷◌, ◌++◌, Option, Some, None, refl, sym, ap, ◌∙◌, append_assoc, arith}
use Rattle.std.proofs.lemmas.List.{append-nil}
use Rattle.stored_types.specs.declared.code_fault.CodeFault.{CodeFault}
use Rattle.stored_types.specs.declared.code_fault.CodeFault.TheVariants as fault
use Rattle.stored_types.specs.Code.{items_at}
use Rattle.stored_types.specs.Coded.{◌>>=◌, Fails, Reader}

-- what was read before, and what is still read
abbrev pub with_front : {A : Type 0} → List A → Option (List A × List ℕ) → Option (List A × List ℕ)
with_front front read = read >>= λ x. Some (front ++ x.0, x.1)

module _ {A : Type 0} (item : Reader A) where
  regroup : (front : List A) (a : A) (read : Option (List A × List ℕ)) → with_front front (read >>= λ x. Some (a ∷ x.0, x.1)) ≡ with_front (front ++ a ∷ []) read
  regroup front a (Some x) = ap (λ (items : List A). Some (items, x.1)) (simp append_assoc)
  regroup front a None = refl

  pub goes_on : (front : List A) (count i : ℕ) (bytes : List ℕ) (a : A) (after : List ℕ) (total : Option (List A × List ℕ)) → i < count → item bytes ≡ Some (a, after)
      → with_front front (items_at item (count - i) bytes) ≡ total → with_front (front ++ a ∷ []) (items_at item (count - (i + 1)) after) ≡ total
  unfolding items_at
  goes_on front count i bytes a after total lt h so_far =
      let k : count - i ≡ suc (count - (i + 1)) = omega arith in
      let one : with_front front (items_at item (count - i) bytes) ≡ with_front (front ++ a ∷ []) (items_at item (count - (i + 1)) after) = rw (k, h) (regroup front a (items_at item (count - (i + 1)) after)) in
      sym one ∙ so_far

  pub ends : (e : CodeFault) (front : List A) (count i : ℕ) (bytes : List ℕ) (total : Option (List A × List ℕ)) → i < count → Fails e (item bytes)
      → with_front front (items_at item (count - i) bytes) ≡ total → Fails e total
  unfolding items_at
  ends fault.OutOfMemory front count i bytes total lt h so_far = tt
  ends fault.Bad front count i bytes total lt h so_far =
      let k : count - i ≡ suc (count - (i + 1)) = omega arith in
      let one : with_front front (items_at item (count - i) bytes) ≡ None = rw (k, h) refl in
      sym so_far ∙ one

  pub is_done : (front : List A) (count i : ℕ) (bytes : List ℕ) (total : Option (List A × List ℕ)) → count ≤ i → with_front front (items_at item (count - i) bytes) ≡ total → total ≡ Some (front, bytes)
  unfolding items_at
  is_done front count i bytes total le so_far =
      let k : count - i ≡ 0 = omega arith in
      let one : with_front front (items_at item (count - i) bytes) ≡ Some (front, bytes) = rw k (ap (λ (items : List A). Some (items, bytes)) (append-nil front)) in
      sym so_far ∙ one
