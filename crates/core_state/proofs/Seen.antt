-- Items of a vector that stand for entries of a list: the first entry that passes, by the place of its item.
use Rattle.std.proofs.Common.{◌≡◌, ◌<◌, ℕ, zero, suc, subst, Bool, List, [], ◌∷◌, ◌++◌, length, get_or, set, map, Option, Some, None, option_map, unwrap_or, sym, ◌∙◌, ap, arith, find, position, Result, Ok, Err, OnOk, OnErr}
use Rattle.std.proofs.lemmas.List.{get_or-map, length-map, map-set}
use Rattle.std.proofs.Math.Seq.{map-set_same}
use Rattle.std.specs.List.{AllByRecursion}
use Rattle.base_types.specs.Lists.{changed, changed_or_added}
use Rattle.step_code.specs.declared.cache.BotCache.{BotCache}
use Rattle.step_code.specs.State.{is_cache, marks_of}
use Rattle.core_state.specs.declared.caches.Marks.{Marks}
use Rattle.core_state.specs.Caches.{cache_of, caches_of, has_bot}
use Rattle.base_types.proofs.Found.{IsFirst, IsNowhere, first_at, nowhere, find_first, find_nowhere, changed_first, changed_nowhere, added_first, added_nowhere}

module _ {A B : Type 0} (view : A → B) (p : B → Bool) where
  mapped_first : (xs : List A) (i : ℕ) (x : A) → IsFirst (λ a. p (view a)) xs i → IsFirst p (map view xs) i
  mapped_first xs i x first = record {
    inside = omega (arith, first.inside, length-map xs view);
    passes = λ d. ap p (get_or-map view xs i x d first.inside) ∙ first.passes x;
    before = λ d k below. ap p (get_or-map view xs k x d (omega (arith, below, first.inside))) ∙ first.before x k below;
  }

  mapped_nowhere : (xs : List A) → IsNowhere (λ a. p (view a)) xs → IsNowhere p (map view xs)
  mapped_nowhere [] none = record { fails = λ d k inside. absurd (omega (arith, inside)) }
  mapped_nowhere (x ∷ xs) none = record {
    fails = λ d k inside.
        let here : k < length (x ∷ xs) = omega (arith, inside, length-map (x ∷ xs) view) in
        ap p (get_or-map view (x ∷ xs) k x d here) ∙ none.fails x k here;
  }

  -- the entry of the item at the place
  entry_at : (xs : List A) (i : ℕ) (x : A) → position (λ a. p (view a)) xs ≡ Some i → x ≡ get_or xs i x → get_or (map view xs) i (view x) ≡ view x
  entry_at xs i x is here = get_or-map view xs i x (view x) (first_at (λ a. p (view a)) xs i is).inside ∙ ap view (sym here)

  found_at : (xs : List A) (i : ℕ) (x : A) → position (λ a. p (view a)) xs ≡ Some i → x ≡ get_or xs i x → find p (map view xs) ≡ Some (view x)
  found_at xs i x is here = find_first p (map view xs) i (view x) (mapped_first xs i x (first_at (λ a. p (view a)) xs i is)) ∙ ap Some (entry_at xs i x is here)

  found_nowhere : (xs : List A) → position (λ a. p (view a)) xs ≡ None → find p (map view xs) ≡ None
  found_nowhere xs none = find_nowhere p (map view xs) (mapped_nowhere xs (nowhere (λ a. p (view a)) xs none))

  -- where the item at the place is replaced, its entry is changed
  pub changed_at : (change : B → B) (xs : List A) (i : ℕ) (x new : A) → position (λ a. p (view a)) xs ≡ Some i → x ≡ get_or xs i x → view new ≡ change (view x)
      → map view (set xs i new) ≡ changed p change (map view xs)
  changed_at change xs i x new is here changes =
      map-set view xs i new ∙ ap (set (map view xs) i) (changes ∙ ap change (sym (entry_at xs i x is here)))
      ∙ sym (changed_first p change (map view xs) i (view x) (mapped_first xs i x (first_at (λ a. p (view a)) xs i is)))

  pub unchanged : (change : B → B) (xs : List A) → position (λ a. p (view a)) xs ≡ None → map view xs ≡ changed p change (map view xs)
  unchanged change xs none = sym (changed_nowhere p change (map view xs) (mapped_nowhere xs (nowhere (λ a. p (view a)) xs none)))

  pub changed_there : (change : B → B) (other : B) (xs : List A) (i : ℕ) (x new : A) → position (λ a. p (view a)) xs ≡ Some i → x ≡ get_or xs i x → view new ≡ change (view x)
      → map view (set xs i new) ≡ changed_or_added p change other (map view xs)
  changed_there change other xs i x new is here changes =
      map-set view xs i new ∙ ap (set (map view xs) i) (changes ∙ ap change (sym (entry_at xs i x is here)))
      ∙ sym (added_first p change other (map view xs) i (view x) (mapped_first xs i x (first_at (λ a. p (view a)) xs i is)))

  pub added_behind : (change : B → B) (new : B) (xs : List A) → position (λ a. p (view a)) xs ≡ None → map view xs ++ new ∷ [] ≡ changed_or_added p change new (map view xs)
  added_behind change new xs none = sym (added_nowhere p change new (map view xs) (mapped_nowhere xs (nowhere (λ a. p (view a)) xs none)))

-- the marks of the bot whose cache is at the place, and of a bot that has none
module _ (bot : List ℕ) (xs : List Marks) where
  pub marks_at : (i : ℕ) (x : Marks) → position (has_bot bot) xs ≡ Some i → x ≡ get_or xs i x → marks_of bot (caches_of xs) ≡ x.marks.marks
  marks_at i x is here = ap (λ (o : Option BotCache). unwrap_or (option_map (λ (b : BotCache). b.marks) o) []) (found_at cache_of (is_cache bot) xs i x is here)

  pub marks_nowhere : position (has_bot bot) xs ≡ None → marks_of bot (caches_of xs) ≡ []
  marks_nowhere none = ap (λ (o : Option BotCache). unwrap_or (option_map (λ (b : BotCache). b.marks) o) []) (found_nowhere cache_of (is_cache bot) xs none)

-- what the item at a place stands for stays
pub seen_same : {A B : Type 0} (view : A → B) (xs : List A) (i : ℕ) (x new : A) → x ≡ get_or xs i x → view new ≡ view x → map view (set xs i new) ≡ map view xs
seen_same view xs i x new here same = map-set_same view xs i new x (same ∙ ap view here)

-- what follows from a fact on success follows on success, and the same of failures
pub ok_follows : {A B P Q : Type 0} (result : Result A B) → (P → Q) → OnOk result P → OnOk result Q
ok_follows (Ok x) follows holds = follows holds
ok_follows (Err e) follows holds = tt

pub err_follows : {A B P Q : Type 0} (result : Result A B) → (P → Q) → OnErr result P → OnErr result Q
err_follows (Ok x) follows holds = tt
err_follows (Err e) follows holds = follows holds

-- what holds of each item holds where one of them is replaced by one of which it holds
pub all_set : {A : Type 0} (P : A → Type 0) (xs : List A) (i : ℕ) (x new : A) → x ≡ get_or xs i x → (P x → P new) → AllByRecursion P xs → AllByRecursion P (set xs i new)
all_set P [] i x new is keeps all = tt
all_set P (y ∷ ys) zero x new is keeps all = (keeps (subst P (sym is) all.0), all.1)
all_set P (y ∷ ys) (suc i) x new is keeps all = (all.0, all_set P ys i x new is keeps all.1)

-- what holds of each item holds of the first that passes
pub at_place : {A : Type 0} (P : A → Type 0) (p : A → Bool) (xs : List A) (i : ℕ) (x : A) → position p xs ≡ Some i → x ≡ get_or xs i x → AllByRecursion P xs → P x
at_place {A = A} P p xs i x place is all = within xs i is (first_at p xs i place).inside all
  where
    within : (ys : List A) (k : ℕ) → x ≡ get_or ys k x → k < length ys → AllByRecursion P ys → P x
    within [] k is inside all = absurd (omega (arith, inside))
    within (y ∷ ys) zero is inside all = subst P (sym is) all.0
    within (y ∷ ys) (suc k) is inside all = within ys k is (omega (arith, inside)) all.1
