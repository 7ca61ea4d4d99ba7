-- The length of a comment.
use Rattle.std.proofs.Common.{◌≡◌, ℕ, ◌+◌, Bool, true, false, List, [], ◌∷◌, ◌++◌, length, take, drop, Option, Some, None, refl, sym, ap, ◌∙◌, inl, inr, arith, append_assoc, length-append}
use Rattle.std.specs.List.{prefix_len, starts_with}
use Rattle.std.specs.Prelude.{codes, nat_eq, if◌then◌else◌}
use Rattle.std.proofs.lemmas.Bool.{or_from, or_parts}
use Rattle.std.proofs.lemmas.Bool.Decides.{Decides-eqb}
use Rattle.std.proofs.lemmas.List.{take-append-drop, length-take-le}
use Rattle.std.proofs.lemmas.List.Sums.{prefix_len-le-length}
use Rattle.std.proofs.lemmas.Slice.Eq.{starts_is}
use Rattle.sieve_tokens.specs.Blank.{has_end, IsBlank, IsBlockComment, IsLineComment}
use Rattle.sieve_tokens.specs.Bytes.{is_in_line}
use Rattle.sieve_tokens.specs.Scan.{and_more, comment_len, first_end}
use Rattle.sieve_tokens.proofs.Runs.{run_is, run_passes, run_stops}

-- a text that begins so
pub begins_so : (s p rest : List ℕ) → s ≡ p ++ rest → starts_with nat_eq s p ≡ true
begins_so s p rest is = (starts_is Decides-eqb s p (starts_with nat_eq s p) refl).1 rest is

pub behind_front : (s p : List ℕ) → starts_with nat_eq s p ≡ true → s ≡ p ++ drop (length p) s
behind_front s p is = (starts_is Decides-eqb s p (starts_with nat_eq s p) refl).0 is

same_two : (b : ℕ) (inner rest : List ℕ) → starts_with nat_eq (b ∷ (inner ++ (codes "*/" ++ rest))) (codes "*/") ≡ starts_with nat_eq (b ∷ (inner ++ codes "*")) (codes "*/")
same_two b [] rest = refl
same_two b (c ∷ cs) rest = refl

end_found : (at : ℕ) (inner rest : List ℕ) → has_end (inner ++ codes "*") ≡ false → first_end at (inner ++ (codes "*/" ++ rest)) ≡ Some (at + length inner)
end_found at [] rest no_end = ap Some (omega arith)
end_found at (b ∷ inner) rest no_end =
    let parts = or_parts (starts_with nat_eq (b ∷ (inner ++ codes "*")) (codes "*/")) (has_end (inner ++ codes "*")) no_end in
    rw (same_two b inner rest ∙ parts.0) (end_found (at + 1) inner rest parts.1 ∙ ap Some (omega arith))

abbrev Ended : ℕ → ℕ → List ℕ → Type 0
Ended at n xs = (inner : List ℕ) × (rest : List ℕ) × (xs ≡ inner ++ (codes "*/" ++ rest)) × (n ≡ at + length inner) × (has_end (inner ++ codes "*") ≡ false)

end_at : (at n b : ℕ) (bs : List ℕ) (t : Bool) → starts_with nat_eq (b ∷ bs) (codes "*/") ≡ t → ◌≡◌ {A = Option ℕ} (if t then Some at else first_end (at + 1) bs) (Some n)
    → (first_end (at + 1) bs ≡ Some n → Ended (at + 1) n bs) → Ended at n (b ∷ bs)
end_at at n b bs true is e more =
    let same : at ≡ n = cc in
    ([], drop 2 (b ∷ bs), behind_front (b ∷ bs) (codes "*/") is, omega arith, refl)
end_at at n b bs false is e more =
    let (inner, rest, all, place, no_end) = more e in
    let apart : starts_with nat_eq (b ∷ (inner ++ codes "*")) (codes "*/") ≡ false =
    sym (same_two b inner rest) ∙ (ap (λ (l : List ℕ). starts_with nat_eq (b ∷ l) (codes "*/")) (sym all) ∙ is) in
    (b ∷ inner, rest, ap (λ (l : List ℕ). b ∷ l) all, omega arith, or_from _ _ apart no_end)

end_sound : (at n : ℕ) (xs : List ℕ) → first_end at xs ≡ Some n → Ended at n xs
end_sound at n [] e = absurd (cc)
end_sound at n (b ∷ bs) e = end_at at n b bs (starts_with nat_eq (b ∷ bs) (codes "*/")) refl e (end_sound (at + 1) n bs)

-- a comment has that length
pub line_comment_len : (bytes rest : List ℕ) → IsLineComment bytes rest → comment_len (bytes ++ rest) ≡ Some (length bytes)
unfolding comment_len
line_comment_len bytes rest h =
    let (inner, is, all, stop) = h in
    rw (is, run_is is_in_line inner rest all stop) (ap Some (omega arith))

more_of : (n m : ℕ) (o : Option ℕ) → o ≡ Some m → and_more n o ≡ Some (m + n)
more_of n m o e = ap (and_more n) e

pub block_comment_len : (bytes rest : List ℕ) → IsBlockComment bytes → comment_len (bytes ++ rest) ≡ Some (length bytes)
unfolding comment_len
block_comment_len bytes rest h =
    let (inner, is, no_end) = h in
    let found : first_end 0 ((inner ++ codes "*/") ++ rest) ≡ Some (0 + length inner) =
    ap (first_end 0) (append_assoc inner (codes "*/") rest) ∙ end_found 0 inner rest no_end in
    rw is (more_of 4 (0 + length inner) _ found ∙ ap Some (omega (arith, length-append inner (codes "*/"))))

abbrev Commented : ℕ → List ℕ → Type 0
Commented n text = (bytes : List ℕ) × (rest : List ℕ) × (text ≡ bytes ++ rest) × (length bytes ≡ n) × IsBlank bytes rest

line_sound : (n : ℕ) (text : List ℕ) → starts_with nat_eq text (codes "//") ≡ true → 2 + prefix_len is_in_line (drop 2 text) ≡ n → Commented n text
line_sound n text is len =
    let behind = drop 2 text in
    let k = prefix_len is_in_line behind in
    let size = length-take-le k behind (prefix_len-le-length is_in_line behind) in
    let all : text ≡ (codes "//" ++ take k behind) ++ drop k behind = behind_front text (codes "//") is ∙ ap (λ (l : List ℕ). codes "//" ++ l) (sym (take-append-drop k behind)) in
    (codes "//" ++ take k behind, drop k behind, all, omega arith, inr (inl (take k behind, refl, run_passes is_in_line behind, run_stops is_in_line behind)))

block_at : (n : ℕ) (o : Option ℕ) → and_more 4 o ≡ Some n → (m : ℕ) × (o ≡ Some m) × (n ≡ m + 4)
block_at n None e = absurd (cc)
block_at n (Some m) e = let same : m + 4 ≡ n = cc in (m, refl, sym same)

block_sound : (n : ℕ) (text : List ℕ) → starts_with nat_eq text (codes "/*") ≡ true → and_more 4 (first_end 0 (drop 2 text)) ≡ Some n → Commented n text
block_sound n text is e =
    let (m, found, len) = block_at n (first_end 0 (drop 2 text)) e in
    let (inner, rest, all, place, no_end) = end_sound 0 m (drop 2 text) found in
    let bytes = codes "/*" ++ (inner ++ codes "*/") in
    let whole : text ≡ bytes ++ rest = behind_front text (codes "/*") is ∙ ap (λ (l : List ℕ). codes "/*" ++ l) (all ∙ sym (append_assoc inner (codes "*/") rest)) in
    (bytes, rest, whole, omega (arith, length-append inner (codes "*/")), inr (inr (inner, refl, no_end)))

comment_by : (n : ℕ) (text : List ℕ) (line block : Bool) → starts_with nat_eq text (codes "//") ≡ line → starts_with nat_eq text (codes "/*") ≡ block
    → ◌≡◌ {A = Option ℕ} (if line then Some (2 + prefix_len is_in_line (drop 2 text)) else if block then and_more 4 (first_end 0 (drop 2 text)) else None) (Some n) → Commented n text
comment_by n text true block l b e = let same : 2 + prefix_len is_in_line (drop 2 text) ≡ n = cc in line_sound n text l same
comment_by n text false true l b e = block_sound n text b e
comment_by n text false false l b e = absurd (cc)

-- what has a length is a comment
pub comment_sound : (n : ℕ) (text : List ℕ) → comment_len text ≡ Some n → Commented n text
unfolding comment_len
comment_sound n text e = comment_by n text (starts_with nat_eq text (codes "//")) (starts_with nat_eq text (codes "/*")) refl refl e
