-- The sums over one more bot.
use Rattle.std.proofs.Common.{◌≡◌, ◌+◌, ◌*◌, ℕ, List, [], ◌∷◌, ◌++◌, Bool, true, false, ◌||◌, length, Option, Some, None, nat_lt, true≢false, refl, sym, ap, ◌∙◌, arith}
use Rattle.std.specs.Prelude.{filter_map, sum_by, unwrap_or, if◌then◌else◌}
use Rattle.std.specs.List.{list_any}
use Rattle.std.specs.Str.{bytes_eq}
use Rattle.std.proofs.lemmas.List.{append-nil}
use Rattle.std.proofs.lemmas.List.Elements.{filter_map-append}
use Rattle.std.proofs.lemmas.List.Folds.{list_any-append}
use Rattle.std.proofs.lemmas.List.Sums.{sum_by-append, sum_by-cons}
use Rattle.std.proofs.lemmas.Slice.Eq.{bytes_eq-Decides}
use Rattle.serde_json.specs.Data.{Members}
use Rattle.config_bundle.specs.declared.bundle.Bundle.{Bundle}
use Rattle.runtime_text.specs.Named.{file_of}
use Rattle.runtime_config.specs.Faults.{content, distinct, file_length, instances, longest_bundle, most_bots, most_instances, most_rows_in_all, pass_together, passes_own, rows, rows_in_all}
use Rattle.runtime_text.specs.Runtime.{Entry}
use Rattle.runtime_config.specs.Sums.{added, are_past, new_bytes, passes_by, with_file, AreNumbers, AreSums}
use Rattle.runtime_config.specs.declared.limits.Numbers.{Numbers}
use Rattle.runtime_config.specs.declared.limits.Sums.{Sums}

-- ---- a file counts once

eq_turned : (x y : List ℕ) (b : Bool) → bytes_eq x y ≡ b → bytes_eq y x ≡ b
eq_turned x y true is = (bytes_eq-Decides y x).1 (sym ((bytes_eq-Decides x y).0 is))
eq_turned x y false is = other (bytes_eq y x) refl
  where
    other : (b : Bool) → bytes_eq y x ≡ b → b ≡ false
    other true same = absurd (true≢false (sym ((bytes_eq-Decides x y).1 (sym ((bytes_eq-Decides y x).0 same))) ∙ is))
    other false same = refl

sum_when : (t : Bool) (f : List ℕ → ℕ) (y : List ℕ) (names : List (List ℕ)) → sum_by f (if t then names else y ∷ names) ≡ (if t then sum_by f names else f y + sum_by f names)
sum_when true f y names = refl
sum_when false f y names = sum_by-cons f y names

count_step : (a b c : Bool) (sum more fy fx zero : ℕ) → zero ≡ 0 → more ≡ sum + (if c then zero else fx) → (b ≡ true → (a ≡ c) × (fy ≡ fx))
    → (if a || (b || false) then more else fy + more) ≡ (if a then sum else fy + sum) + (if b || c then zero else fx)
count_step true true true sum more fy fx zero z is same = is
count_step true true false sum more fy fx zero z is same = absurd (true≢false (same refl).0)
count_step false true true sum more fy fx zero z is same = absurd (true≢false (sym (same refl).0))
count_step false true false sum more fy fx zero z is same = let fs = (same refl).1 in omega (arith, is, fs, z)
count_step true false c sum more fy fx zero z is same = is
count_step false false true sum more fy fx zero z is same = omega (arith, is)
count_step false false false sum more fy fx zero z is same = omega (arith, is)

same_counts : (f : List ℕ → ℕ) (ys : List (List ℕ)) (y x : List ℕ) → bytes_eq y x ≡ true → (list_any (bytes_eq y) ys ≡ list_any (bytes_eq x) ys) × (f y ≡ f x)
same_counts f ys y x is = let same : y ≡ x = (bytes_eq-Decides y x).0 is in (ap (λ (n : List ℕ). list_any (bytes_eq n) ys) same, ap f same)

pub distinct_last : (f : List ℕ → ℕ) (xs : List (List ℕ)) (x : List ℕ) → sum_by f (distinct (xs ++ x ∷ [])) ≡ sum_by f (distinct xs) + (if list_any (bytes_eq x) xs then 0 else f x)
distinct_last f [] x = omega arith
distinct_last f (y ∷ ys) x =
    sum_when (list_any (bytes_eq y) (ys ++ x ∷ [])) f y (distinct (ys ++ x ∷ []))
    ∙ ap (λ t. if t then sum_by f (distinct (ys ++ x ∷ [])) else f y + sum_by f (distinct (ys ++ x ∷ []))) (list_any-append (bytes_eq y) ys (x ∷ []))
    ∙ count_step (list_any (bytes_eq y) ys) (bytes_eq y x) (list_any (bytes_eq x) ys) (sum_by f (distinct ys)) (sum_by f (distinct (ys ++ x ∷ []))) (f y) (f x) 0 refl (distinct_last f ys x) (same_counts f ys y x)
    ∙ ap (λ n. n + (if bytes_eq y x || list_any (bytes_eq x) ys then 0 else f x)) (sym (sum_when (list_any (bytes_eq y) ys) f y (distinct ys)))
    ∙ ap (λ t. sum_by f (distinct (y ∷ ys)) + (if t || list_any (bytes_eq x) ys then 0 else f x)) (sym (eq_turned y x (bytes_eq y x) refl))

-- ---- one more bot

module _ (bundle : Bundle) (global : Members) where
  file_last : (bot : Entry) (o : Option (List ℕ)) (files : List (List ℕ)) → file_of global bot ≡ o → files ++ filter_map (file_of global) (bot ∷ []) ≡ with_file files o
  file_last bot None files is = rw is (append-nil files)
  file_last bot (Some name) files is = rw is refl

  files_added : (bots : List Entry) (bot : Entry) (files : List (List ℕ)) (file : Option (List ℕ)) → files ≡ filter_map (file_of global) bots → file ≡ file_of global bot
      → with_file files file ≡ filter_map (file_of global) (bots ++ bot ∷ [])
  files_added bots bot files file are is =
      sym (filter_map-append (file_of global) bots (bot ∷ []) ∙ ap (λ (fs : List (List ℕ)). fs ++ filter_map (file_of global) (bot ∷ [])) (sym are) ∙ file_last bot file files (sym is))

  length_of : (bot : Entry) (name : List ℕ) → file_of global bot ≡ Some name → length (unwrap_or (content bundle global bot) []) ≡ file_length bundle name
  length_of bot name is = rw is refl

  bytes_with : (files : List (List ℕ)) (file : Option (List ℕ)) (len : ℕ) → ((name : List ℕ) → file ≡ Some name → len ≡ file_length bundle name)
      → sum_by (file_length bundle) (distinct (with_file files file)) ≡ sum_by (file_length bundle) (distinct files) + new_bytes files file len
  bytes_with files None len is = omega arith
  bytes_with files (Some name) len is =
      distinct_last (file_length bundle) files name ∙ ap (λ n. sum_by (file_length bundle) (distinct files) + (if list_any (bytes_eq name) files then 0 else n)) (sym (is name refl))

  pub sums_added : (bots : List Entry) (bot : Entry) (s : Sums) (n : Numbers) → AreSums bundle global bots s → AreNumbers bundle global bot n → AreSums bundle global (bots ++ bot ∷ []) (added s n)
  sums_added bots bot s n sums numbers =
      let product : n.rows * n.instances ≡ rows_in_all bundle global bot =
      ap (λ r. r * n.instances) numbers.rows_are ∙ ap (λ i. rows bundle global bot * i) numbers.instances_are in
      let files = files_added bots bot s.files n.file sums.files_are numbers.file_is in
      let more = bytes_with s.files n.file n.length (λ name is. numbers.length_is ∙ length_of bot name (sym numbers.file_is ∙ is)) in
      let before = ap (λ fs. length bundle.runtime + sum_by (file_length bundle) (distinct fs)) sums.files_are in
      let after = ap (λ fs. length bundle.runtime + sum_by (file_length bundle) (distinct fs)) files in
      record {
        instances_are = omega (arith, sum_by-append (instances global) bots (bot ∷ []), sums.instances_are, numbers.instances_are);
        rows_are = omega (arith, sum_by-append (rows_in_all bundle global) bots (bot ∷ []), sums.rows_are, product);
        files_are = files;
        bytes_are = omega (arith, sums.bytes_are, before, more) ∙ after;
      }

  -- ---- their limits

  pub together : (bots : List Entry) (s : Sums) (count : ℕ) → AreSums bundle global bots s → count ≡ length bots → are_past count s ≡ pass_together bundle global bots
  together bots s count sums counted =
      ap (λ n. nat_lt most_bots n || nat_lt most_instances s.instances || nat_lt most_rows_in_all s.rows || nat_lt longest_bundle s.bytes) counted
      ∙ ap (λ n. nat_lt most_bots (length bots) || nat_lt most_instances n || nat_lt most_rows_in_all s.rows || nat_lt longest_bundle s.bytes) sums.instances_are
      ∙ ap (λ n. nat_lt most_bots (length bots) || nat_lt most_instances (sum_by (instances global) bots) || nat_lt most_rows_in_all n || nat_lt longest_bundle s.bytes) sums.rows_are
      ∙ ap (λ n. nat_lt most_bots (length bots) || nat_lt most_instances (sum_by (instances global) bots) || nat_lt most_rows_in_all (sum_by (rows_in_all bundle global) bots) || nat_lt longest_bundle n) sums.bytes_are

  pub own_passes : (bot : Entry) (n : Numbers) → AreNumbers bundle global bot n → passes_by global bot n ≡ passes_own bundle global bot
  own_passes bot n numbers = rw (numbers.rows_are, numbers.length_is, numbers.many_are) refl
