-- Texts that have no blank at their ends.
use Rattle.std.proofs.Common.{◌≡◌, ℕ, ◌-◌, ◌<◌, ◌≤◌, ◌==◌, not, List, [], ◌∷◌, ◌++◌, get_or, length, reverse, Bool, true, false, if◌then◌else◌, nat_le, refl, sym, ap, ◌∙◌, subst, arith, length-append}
use Rattle.std.specs.List.{list_all}
use Rattle.std.proofs.lemmas.Bool.{and_parts, and_from, ne_eqb, leb-true, false≢true}
use Rattle.std.proofs.lemmas.List.{get_or-reverse, reverse-append, reverse-reverse}
use Rattle.std.proofs.lemmas.List.Folds.{list_all-append}
use Rattle.scalar_text.specs.Strip.{is_blank, strip_front, strip_back, strip}

-- no blank stands first
abbrev pub clear_ahead : List ℕ → Bool
clear_ahead [] = true
clear_ahead (b ∷ bs) = not (is_blank b)

front_stays : (b : ℕ) (bs : List ℕ) (t : Bool) → is_blank b ≡ t → not t ≡ true → (if t then strip_front bs else b ∷ bs) ≡ b ∷ bs
front_stays b bs true e clear = absurd (false≢true clear)
front_stays b bs false e clear = refl

pub strip_front-clear : (text : List ℕ) → clear_ahead text ≡ true → strip_front text ≡ text
strip_front-clear [] clear = refl
strip_front-clear (b ∷ bs) clear = front_stays b bs (is_blank b) refl clear

ahead_if : (b : ℕ) (bs : List ℕ) (t : Bool) → is_blank b ≡ t → clear_ahead (strip_front bs) ≡ true → clear_ahead (if t then strip_front bs else b ∷ bs) ≡ true
ahead_if b bs true e later = later
ahead_if b bs false e later = ap not e

front_is_clear : (text : List ℕ) → clear_ahead (strip_front text) ≡ true
front_is_clear [] = refl
front_is_clear (b ∷ bs) = ahead_if b bs (is_blank b) refl (front_is_clear bs)

pub strip-clear : (text : List ℕ) → clear_ahead text ≡ true → clear_ahead (reverse text) ≡ true → strip text ≡ text
unfolding strip
strip-clear text front back =
    ap strip_back (strip_front-clear text front) ∙ ap reverse (strip_front-clear (reverse text) back) ∙ reverse-reverse text

clear_at : (text : List ℕ) → is_blank (get_or text 0 0) ≡ false → clear_ahead text ≡ true
clear_at [] clear = refl
clear_at (b ∷ bs) clear = ap not clear

-- no blank stands at an end
pub bare_ends : (text : List ℕ) → 0 < length text → is_blank (get_or text 0 0) ≡ false → is_blank (get_or text (length text - 1) 0) ≡ false → strip text ≡ text
bare_ends text some front back =
    let last : length text - 1 - 0 ≡ length text - 1 = omega arith in
    strip-clear text (clear_at text front) (clear_at (reverse text) (ap is_blank (get_or-reverse text 0 0 some ∙ ap (λ k. get_or text k 0) last) ∙ back))

-- what strip_front leaves is the end of the text
pub record IsEnd (text rest : List ℕ) : Type 0 where
  pub blanks : List ℕ
  pub split : text ≡ blanks ++ rest

end_if : (b : ℕ) (bs : List ℕ) (t : Bool) → IsEnd bs (strip_front bs) → IsEnd (b ∷ bs) (if t then strip_front bs else b ∷ bs)
end_if b bs true later = record { blanks = b ∷ later.blanks; split = ap (λ t. b ∷ t) later.split }
end_if b bs false later = record { blanks = []; split = refl }

front_end : (text : List ℕ) → IsEnd text (strip_front text)
front_end [] = record { blanks = []; split = refl }
front_end (b ∷ bs) = end_if b bs (is_blank b) (front_end bs)

pub ahead_of_front : (xs ys : List ℕ) → clear_ahead (xs ++ ys) ≡ true → clear_ahead xs ≡ true
ahead_of_front [] ys clear = refl
ahead_of_front (x ∷ xs) ys clear = clear

-- a stripped text has none at its ends
pub strip_last : (text : List ℕ) → clear_ahead (reverse (strip text)) ≡ true
unfolding strip
strip_last text = ap clear_ahead (reverse-reverse (strip_front (reverse (strip_front text)))) ∙ front_is_clear (reverse (strip_front text))

pub strip_first : (text : List ℕ) → clear_ahead (strip text) ≡ true
unfolding strip
strip_first text =
    let front = strip_front text in
    let end = front_end (reverse front) in
    let whole : front ≡ reverse (strip_front (reverse front)) ++ reverse end.blanks = sym (reverse-reverse front) ∙ ap reverse end.split ∙ reverse-append end.blanks (strip_front (reverse front)) in
    ahead_of_front (reverse (strip_front (reverse front))) (reverse end.blanks) (subst (λ t. clear_ahead t ≡ true) whole (front_is_clear text))

pub strip-strip : (text : List ℕ) → strip (strip text) ≡ strip text
strip-strip text = strip-clear (strip text) (strip_first text) (strip_last text)

-- ---- lengths

none_dropped : (text rest blanks : List ℕ) → text ≡ blanks ++ rest → length rest ≡ length text → rest ≡ text
none_dropped text rest [] split same = sym split
none_dropped text rest (b ∷ blanks) split same = absurd (omega (arith, ap length split, same, length-append (b ∷ blanks) rest))

front_shorter : (text : List ℕ) → length (strip_front text) ≤ length text
front_shorter text = let end = front_end text in omega (arith, ap length end.split, length-append end.blanks (strip_front text))

front_whole : (text : List ℕ) → length (strip_front text) ≡ length text → strip_front text ≡ text
front_whole text same = let end = front_end text in none_dropped text (strip_front text) end.blanks end.split same

length-reverse : (xs : List ℕ) → length (reverse xs) ≡ length xs
length-reverse [] = refl
length-reverse (x ∷ xs) = ap length (reverse-append (x ∷ []) xs) ∙ length-append (reverse xs) (x ∷ []) ∙ omega (arith, length-reverse xs)

-- a text that stripping doesn't shorten is kept
pub strip_whole : (text : List ℕ) → length (strip text) ≡ length text → strip text ≡ text
unfolding strip
strip_whole text same =
    let front = strip_front text in
    let back = strip_front (reverse front) in
    let lengths = length-reverse back in
    let turned = length-reverse front in
    let first = front_whole text (omega (arith, same, lengths, turned, front_shorter text, front_shorter (reverse front))) in
    let last : back ≡ reverse front = front_whole (reverse front) (omega (arith, same, lengths, turned, front_shorter text, front_shorter (reverse front))) in
    ap reverse last ∙ reverse-reverse front ∙ first

-- ---- texts with no blank at all

-- a byte above the blanks
abbrev pub is_dark : ℕ → Bool
is_dark b = nat_le 33 b

abbrev pub are_dark : List ℕ → Bool
are_dark text = list_all is_dark text

pub dark_byte : (b : ℕ) → is_dark b ≡ true → not (is_blank b) ≡ true
dark_byte b dark =
    let above = leb-true 33 b dark in
    let space : (b == 32) ≡ false = ne_eqb b 32 (λ e. absurd (omega (arith, above, e))) in
    let tab : (b == 9) ≡ false = ne_eqb b 9 (λ e. absurd (omega (arith, above, e))) in
    rw (space, tab)

dark_ahead : (text : List ℕ) → are_dark text ≡ true → clear_ahead text ≡ true
dark_ahead [] dark = refl
dark_ahead (b ∷ bs) dark = dark_byte b (and_parts (is_dark b) (are_dark bs) dark).0

dark_reverse : (text : List ℕ) → are_dark text ≡ true → are_dark (reverse text) ≡ true
dark_reverse [] dark = refl
dark_reverse (b ∷ bs) dark =
    let parts = and_parts (is_dark b) (are_dark bs) dark in
    ap are_dark (reverse-append (b ∷ []) bs) ∙ list_all-append is_dark (reverse bs) (b ∷ []) ∙ and_from _ _ (dark_reverse bs parts.1) (and_from _ _ parts.0 refl)

pub strip-dark : (text : List ℕ) → are_dark text ≡ true → strip text ≡ text
strip-dark text dark = strip-clear text (dark_ahead text dark) (dark_ahead (reverse text) (dark_reverse text dark))

pub dark_append : (xs ys : List ℕ) → are_dark xs ≡ true → are_dark ys ≡ true → are_dark (xs ++ ys) ≡ true
dark_append xs ys first second = list_all-append is_dark xs ys ∙ and_from _ _ first second
