-- Lines that stand in a file, one behind the other.
use Rattle.std.proofs.Common.{◌≡◌, ◌↔◌, ◌<◌, ◌+◌, ℕ, Bool, true, List, [], ◌∷◌, ◌++◌, length, get_or, take, drop, sym, ap, subst, ◌∙◌, arith, length-append}
use Rattle.std.proofs.Math.Seq.{drop-append_seam, take-add, take-append_seam}
use Rattle.std.proofs.lemmas.Grind.{flat_map-append}
use Rattle.std.proofs.lemmas.List.{drop-drop, drop-take, take-append-drop, take-take}
use Rattle.out_files.specs.Output.{lines_text}
use Rattle.out_files.proofs.Contents.{lines_more}
use Rattle.store_audit.specs.Sealed.{HasFront, StandsAt}

-- a text behind another
stands_both : (a b : List ℕ) (at : ℕ) (file : List ℕ) → StandsAt a at file → StandsAt b (at + length a) file → StandsAt (a ++ b) at file
stands_both a b at file first then =
    ap (λ n. take n (drop at file)) (length-append a b)
    ∙ take-add (length a) (length b) (drop at file)
    ∙ ap (λ l. l ++ take (length b) (drop (length a) (drop at file))) first
    ∙ ap (λ l. a ++ take (length b) l) (drop-drop (length a) at file)
    ∙ ap (λ l. a ++ l) then

-- a text of two parts has the first at its place, and then the other
pub stands_first : (a b : List ℕ) (at : ℕ) (file : List ℕ) → StandsAt (a ++ b) at file → StandsAt a at file
stands_first a b at file both = sym (front (drop at file)) ∙ ap (take (length a)) both ∙ take-append_seam a b
  where
    front : (l : List ℕ) → take (length a) (take (length (a ++ b)) l) ≡ take (length a) l
    front l = take-take (length a) (length (a ++ b)) l (omega (arith, length-append a b))

pub stands_then : (a b : List ℕ) (at : ℕ) (file : List ℕ) → StandsAt (a ++ b) at file → StandsAt b (at + length a) file
stands_then a b at file both =
    ap (take (length b)) (sym (drop-drop (length a) at file))
    ∙ sym (drop-take (length a) (length b) (drop at file))
    ∙ ap (λ n. drop (length a) (take n (drop at file))) (sym (length-append a b))
    ∙ ap (drop (length a)) both
    ∙ drop-append_seam a b

-- one line more
pub one_more : (lines : List (List ℕ)) (i : ℕ) (line : List ℕ) (start at : ℕ) (file : List ℕ) → i < length lines → line ≡ get_or lines i line → at ≡ start + length (lines_text (take i lines))
    → StandsAt (lines_text (take i lines)) start file → StandsAt (line ++ 10 ∷ []) at file → StandsAt (lines_text (take (i + 1) lines)) start file
one_more lines i line start at file within is place so_far here =
    subst (λ (text : List ℕ). StandsAt text start file) (sym (lines_more lines i line within is))
    (stands_both (lines_text (take i lines)) (line ++ 10 ∷ []) start file so_far (subst (λ (n : ℕ). StandsAt (line ++ 10 ∷ []) n file) place here))

pub place_more : (lines : List (List ℕ)) (i : ℕ) (line : List ℕ) (start at size : ℕ) → i < length lines → line ≡ get_or lines i line → at ≡ start + length (lines_text (take i lines)) → size ≡ length line
    → at + (size + 1) ≡ start + length (lines_text (take (i + 1) lines))
place_more lines i line start at size within is place long =
    omega (arith, place, long, ap length (lines_more lines i line within is), length-append (lines_text (take i lines)) (line ++ 10 ∷ []), length-append line (10 ∷ []))

-- the text of lines is that of the first of them, and then that of the others
text_splits : (lines : List (List ℕ)) (i : ℕ) → lines_text lines ≡ lines_text (take i lines) ++ lines_text (drop i lines)
text_splits lines i = ap lines_text (sym (take-append-drop i lines)) ∙ flat_map-append (λ (l : List ℕ). l ++ 10 ∷ []) (take i lines) (drop i lines)

-- where all lines stand, so does each
pub one_of : (lines : List (List ℕ)) (i : ℕ) (line : List ℕ) (start at : ℕ) (file : List ℕ) → i < length lines → line ≡ get_or lines i line → at ≡ start + length (lines_text (take i lines))
    → StandsAt (lines_text lines) start file → StandsAt (line ++ 10 ∷ []) at file
one_of lines i line start at file within is place all =
    let begins : StandsAt (lines_text (take (i + 1) lines)) start file =
    stands_first (lines_text (take (i + 1) lines)) (lines_text (drop (i + 1) lines)) start file (subst (λ (text : List ℕ). StandsAt text start file) (text_splits lines (i + 1)) all) in
    let split : StandsAt (lines_text (take i lines) ++ (line ++ 10 ∷ [])) start file = subst (λ (text : List ℕ). StandsAt text start file) (lines_more lines i line within is) begins in
    subst (λ (n : ℕ). StandsAt (line ++ 10 ∷ []) n file) (sym place) (stands_then (lines_text (take i lines)) (line ++ 10 ∷ []) start file split)

-- lines end with others exactly where these are as many of the last of them
pub front_by : (at : ℕ) (lines last : List (List ℕ)) (file : List ℕ) (count : ℕ) (has : Bool) → count + length last ≡ length lines → drop count lines ≡ last
    → (has ≡ true) ↔ StandsAt (lines_text (take count lines)) at file → (has ≡ true) ↔ HasFront at lines last file
front_by at lines last file count has many ends both = (
  λ yes. record { front = take count lines; splits = sym (take-append-drop count lines) ∙ ap (λ ls. take count lines ++ ls) ends; stands = both.0 yes },
  λ found.
      let long : count ≡ length found.front = omega (arith, many, ap length found.splits, length-append found.front last) in
      let one : take count lines ≡ found.front = ap (take count) found.splits ∙ ap (λ n. take n (found.front ++ last)) long ∙ take-append_seam found.front last in
      both.1 (subst (λ (ls : List (List ℕ)). StandsAt (lines_text ls) at file) (sym one) found.stands),
)
