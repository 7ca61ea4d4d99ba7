-- Lines that are put behind a text, one for each item of a list.
use Rattle.std.proofs.Common.{◌≡◌, ◌+◌, ℕ, zero, suc, List, [], ◌∷◌, ◌++◌, take, map, sum_by, Option, Some, refl, sym, ap, subst, ◌∙◌, append-nil, append_assoc, arith}
use Rattle.std.specs.List.{flat_map, slice_get}
use Rattle.std.specs.Option.{IsSomeAnd}
use Rattle.std.proofs.lemmas.List.Sums.{sum_by-cons}
use Rattle.step_code.specs.declared.output.Output.{Output}
use Rattle.state_texts.specs.Parts.{part_text}
use Rattle.state_texts.specs.Texts.{line, lines_of, out_line, out_lines}
use Rattle.state_texts.specs.declared.line.Part.{Part}

-- ---- one line

parts_text : (parts : List Part) → flat_map (λ part. 32 ∷ part_text part) parts ≡ flat_map (λ other. 32 ∷ other) (map part_text parts)
parts_text [] = refl
parts_text (part ∷ parts) = ap (λ t. (32 ∷ part_text part) ++ t) (parts_text parts)

pub line_put : (word old first second last : List ℕ) (parts : List Part) → first ≡ old ++ word → second ≡ first ++ flat_map (λ part. 32 ∷ part_text part) parts → last ≡ second ++ 10 ∷ []
    → last ≡ old ++ line word (map part_text parts)
line_put word old first second last parts one two three =
    let rest = flat_map (λ part. 32 ∷ part_text part) parts in
    three ∙ ap (λ t. t ++ 10 ∷ []) (two ∙ ap (λ t. t ++ rest) one ∙ append_assoc old word rest) ∙ append_assoc old (word ++ rest) (10 ∷ [])
    ∙ ap (λ t. old ++ (word ++ t ++ 10 ∷ [])) (parts_text parts)

-- ---- a line for each item

module _ {A : Type 0} (f : A → List ℕ) where
  items_from : (xs : List A) (i : ℕ) (piece : List ℕ) → IsSomeAnd (slice_get xs i) (λ x. piece ≡ f x) → flat_map f (take (suc i) xs) ≡ flat_map f (take i xs) ++ piece
  items_from [] i piece found = absurd found
  items_from (x ∷ xs) zero piece found = append-nil (f x) ∙ sym found
  items_from (x ∷ xs) (suc i) piece found = ap (λ t. f x ++ t) (items_from xs i piece found) ∙ sym (append_assoc (f x) (flat_map f (take i xs)) piece)

  -- the line of the i-th item is put behind those of the items before it
  pub item_put : (xs : List A) (i : ℕ) (old now new piece : List ℕ) → now ≡ old ++ flat_map f (take i xs) → new ≡ now ++ piece → IsSomeAnd (slice_get xs i) (λ x. piece ≡ f x)
      → new ≡ old ++ flat_map f (take (i + 1) xs)
  item_put xs i old now new piece was put found =
      let next : suc i ≡ i + 1 = omega arith in
      put ∙ ap (λ t. t ++ piece) was ∙ append_assoc old (flat_map f (take i xs)) piece ∙ ap (λ t. old ++ t) (sym (items_from xs i piece found))
      ∙ ap (λ n. old ++ flat_map f (take n xs)) next

  -- an item that is read at a place
  pub read_at : (xs : List A) (i : ℕ) (x : A) → slice_get xs i ≡ Some x → IsSomeAnd (slice_get xs i) (λ y. f x ≡ f y)
  read_at xs i x is = subst (λ (o : Option A). IsSomeAnd o (λ y. f x ≡ f y)) (sym is) refl

-- ---- outputs, with their slots

outs_from : (slot : ℕ) (outs : List Output) (i : ℕ) (piece : List ℕ) → IsSomeAnd (slice_get outs i) (λ o. piece ≡ out_line (slot + i) o) → out_lines slot (take (suc i) outs) ≡ out_lines slot (take i outs) ++ piece
outs_from slot [] i piece found = absurd found
outs_from slot (o ∷ outs) zero piece found =
    let same : slot + 0 ≡ slot = omega arith in
    append-nil (out_line slot o) ∙ sym (found ∙ ap (λ n. out_line n o) same)
outs_from slot (o ∷ outs) (suc i) piece found =
    let same : slot + suc i ≡ suc slot + i = omega arith in
    let there = outs_from (suc slot) outs i piece (subst (λ (n : ℕ). IsSomeAnd (slice_get outs i) (λ o. piece ≡ out_line n o)) same found) in
    ap (λ t. out_line slot o ++ t) there ∙ sym (append_assoc (out_line slot o) (out_lines (suc slot) (take i outs)) piece)

pub out_put : (outs : List Output) (i : ℕ) (old now new piece : List ℕ) → now ≡ old ++ out_lines 0 (take i outs) → new ≡ now ++ piece → IsSomeAnd (slice_get outs i) (λ o. piece ≡ out_line i o)
    → new ≡ old ++ out_lines 0 (take (i + 1) outs)
out_put outs i old now new piece was put found =
    let next : suc i ≡ i + 1 = omega arith in
    let slot : i ≡ 0 + i = omega arith in
    put ∙ ap (λ t. t ++ piece) was ∙ append_assoc old (out_lines 0 (take i outs)) piece
    ∙ ap (λ t. old ++ t) (sym (outs_from 0 outs i piece (subst (λ (n : ℕ). IsSomeAnd (slice_get outs i) (λ o. piece ≡ out_line n o)) slot found)))
    ∙ ap (λ n. old ++ out_lines 0 (take n outs)) next

-- ---- the lines of all outputs

sum_from : (outs : List Output) (i n : ℕ) → IsSomeAnd (slice_get outs i) (λ o. n ≡ lines_of o) → sum_by lines_of (take (suc i) outs) ≡ sum_by lines_of (take i outs) + n
sum_from [] i n found = absurd found
sum_from (o ∷ outs) zero n found = omega (arith, found, sum_by-cons lines_of o [])
sum_from (o ∷ outs) (suc i) n found = omega (arith, sum_from outs i n found, sum_by-cons lines_of o (take (suc i) outs), sum_by-cons lines_of o (take i outs))

pub lines_added : (outs : List Output) (i n now new : ℕ) → now ≡ sum_by lines_of (take i outs) → new ≡ now + n → IsSomeAnd (slice_get outs i) (λ o. n ≡ lines_of o)
    → new ≡ sum_by lines_of (take (i + 1) outs)
lines_added outs i n now new was added found =
    let next : suc i ≡ i + 1 = omega arith in
    added ∙ ap (λ t. t + n) was ∙ sym (sum_from outs i n found) ∙ ap (λ k. sum_by lines_of (take k outs)) next
