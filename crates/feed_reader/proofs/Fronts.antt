-- What is seen of a feed by its first bytes, and by single ones.
use Rattle.std.proofs.Common.{◌≡◌, ℕ, suc, zero, Bool, true, false, ◌==◌, ◌<◌, ◌≤◌, ⊎_elim, Some, List, [], ◌∷◌, ◌++◌, length, take, drop, nat_lt, refl, sym, ap, subst, ◌∙◌, arith, length-append}
use Rattle.std.proofs.lemmas.Bool.{cases_lt, le-ltb, lt-ltb}
use Rattle.std.proofs.Math.Seq.{take-add, take-nil}
use Rattle.std.specs.List.{onto_first}
use Rattle.std.proofs.lemmas.List.{drop_all, length-take, length-take-le, take_all, take-append-drop, take-append-le}
use Rattle.base_types.specs.Lines.{first_line, first_of, lines_of, newline}
use Rattle.report_cut.proofs.LinesOf.{first_line-grows, lines_of-cons_no, lines_of-cons_yes}
use Rattle.edge_traits.specs.Source.{SourceView}

-- what stays of a source that is read
pub record StillReads (first now : SourceView) : Type 0 where
  pub told : now.told ≡ first.told
  pub name : now.name ≡ first.name
  pub count : first.faults ≤ now.faults

-- a byte is read exactly where there is one
pub byte_there : (feed buf : List ℕ) (n at : ℕ) → n ≤ length buf → take n buf ≡ take n (drop at feed) → (at < length feed → 0 < n) → nat_lt 0 n ≡ nat_lt at (length feed)
byte_there feed buf n at within bytes some = ⊎_elim there nowhere (cases_lt at (length feed))
  where
    there : at < length feed → nat_lt 0 n ≡ nat_lt at (length feed)
    there less = lt-ltb 0 n (some less) ∙ sym (lt-ltb at (length feed) less)

    nowhere : length feed ≤ at → nat_lt 0 n ≡ nat_lt at (length feed)
    nowhere past =
        let none : take n buf ≡ [] = bytes ∙ ap (take n) (drop_all at feed past) ∙ take-nil n in
        le-ltb 0 n (omega (arith, ap length none, length-take-le n buf within)) ∙ sym (le-ltb at (length feed) past)

-- the length lies between these bounds, if it is at most so much
pub record Halves (first now : SourceView) (low high most : ℕ) : Type 0 where
  pub still : StillReads first now
  pub order : low ≤ high
  pub within : high ≤ most
  pub bounds : (feed : List ℕ) → first.told ≡ Some feed → length feed ≤ most → (low ≤ length feed) × (length feed ≤ high)

-- so many first bytes were read
pub record Front (first now : SourceView) (front : List ℕ) (most : ℕ) : Type 0 where
  pub still : StillReads first now
  pub within : length front ≤ most
  pub bytes : (feed : List ℕ) → first.told ≡ Some feed → front ≡ take (length front) feed

-- where nothing is left, these are all first bytes
pub whole_front : (feed front : List ℕ) (most : ℕ) → front ≡ take (length front) feed → length feed ≤ length front → length front ≤ most → front ≡ take most feed
whole_front feed front most is past within = is ∙ take_all (length front) feed past ∙ sym (take_all most feed (omega (arith, past, within)))

-- as many of the bytes behind the first ones as there is room
pub front_more : (feed front read rest : List ℕ) (room : ℕ) → front ≡ take (length front) feed → drop (length front) feed ≡ read ++ rest
    → front ++ take room read ≡ take (length (front ++ take room read)) feed
front_more feed front read rest room is splits =
    let k = length (take room read) in
    let all : take k read ≡ take room read = take-length room read in
    ap (λ f. f ++ take room read) is ∙ ap (λ f. take (length front) feed ++ f) (sym all ∙ sym (take-append-le k read rest (omega (arith, length-take room read))) ∙ ap (take k) (sym splits)) ∙ sym (take-add (length front) k feed) ∙ ap (λ i. take i feed) (sym (length-append front (take room read)))
  where
    take-length : (n : ℕ) (xs : List ℕ) → take (length (take n xs)) xs ≡ take n xs
    take-length zero xs = refl
    take-length (suc n) [] = refl
    take-length (suc n) (x ∷ xs) = ap (λ ys. x ∷ ys) (take-length n xs)

-- ---- the first line

first_yes : (b : ℕ) (bs : List ℕ) → (b == newline) ≡ true → first_line (b ∷ bs) ≡ b ∷ []
first_yes b bs is = ap first_of (lines_of-cons_yes b bs is)

first_no : (b : ℕ) (bs : List ℕ) → (b == newline) ≡ false → first_line (b ∷ bs) ≡ b ∷ first_line bs
first_no b bs is = ap first_of (lines_of-cons_no b bs is) ∙ onto (lines_of bs)
  where
    onto : (ls : List (List ℕ)) → first_of (onto_first b ls) ≡ b ∷ first_of ls
    onto [] = refl
    onto (line ∷ ls) = refl

-- a first line that ends within the first bytes is the feed's
pub first_line_front : (feed : List ℕ) (k : ℕ) → length (first_line (take k feed)) < k → first_line (take k feed) ≡ first_line feed
first_line_front feed zero less = absurd (omega (arith, less))
first_line_front [] (suc k) less = refl
first_line_front (b ∷ bs) (suc k) less = go (first_line_front bs k) (b == newline) refl
  where
    go : (length (first_line (take k bs)) < k → first_line (take k bs) ≡ first_line bs) → (is : Bool) → (b == newline) ≡ is → first_line (b ∷ take k bs) ≡ first_line (b ∷ bs)
    go later true is = first_yes b (take k bs) is ∙ sym (first_yes b bs is)
    go later false is = first_no b (take k bs) is ∙ ap (λ l. b ∷ l) (later (omega (arith, less, ap length (first_no b (take k bs) is)))) ∙ sym (first_no b bs is)

-- a first line is no shorter in the whole feed
pub first_line_longer : (feed : List ℕ) (k : ℕ) → length (first_line (take k feed)) ≤ length (first_line feed)
first_line_longer feed k = subst (λ bytes. length (first_line (take k feed)) ≤ length (first_line bytes)) (take-append-drop k feed) (first_line-grows (take k feed) (drop k feed))
