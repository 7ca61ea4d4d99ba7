-- What a content writes, escape by escape.
use Rattle.std.proofs.Common.{◌≡◌, ℕ, zero, suc, ◌+◌, ◌-◌, ◌<◌, ◌≤◌, ◌==◌, List, true, false, Some, None, [], ◌∷◌, ◌++◌, length, take, drop, get_or, flat_map, length-append, subst, refl, sym, ap, ◌∙◌, arith, append_assoc}
use Rattle.std.proofs.lemmas.Bool.{eqb-true, ne_eqb, eq-eqb}
use Rattle.std.proofs.lemmas.List.{drop_more, take_rest, take_at}
use Rattle.memchr.specs.Find.{IsFirstByte, is_byte}
use Rattle.base_types.specs.JsonText.{escaped, quoted}
use Rattle.event_text.specs.Decode.{control, unescaped, unescaped_behind, unescaped_control, text_in, utf8_text}
use Rattle.event_text.proofs.Strings.{same_bytes, unescaped_written}

-- bytes before the first backslash stand for themselves
front_stays : (bs : List ℕ) (i : ℕ) → i ≤ length bs → ((k : ℕ) → k < i → (get_or bs k 0 == 92) ≡ true → ⊥) → unescaped bs ≡ take i bs ++ unescaped (drop i bs)
front_stays bs zero within none = refl
front_stays [] (suc i) within none = absurd (omega arith)
front_stays (b ∷ bs) (suc i) within none =
    let plain : (b == 92) ≡ false = ne_eqb b 92 (λ is. none 0 (omega arith) (eq-eqb b 92 is)) in
    rw plain (ap (λ t. b ∷ t) (front_stays bs i (omega arith) (λ k below. none (suc k) (omega arith))))

-- up to the first backslash
pub to_escape : (bs : List ℕ) (i : ℕ) → IsFirstByte (is_byte 92) bs (Some i) → unescaped bs ≡ take i bs ++ unescaped_behind (take (length bs - (i + 1)) (drop (i + 1) bs))
to_escape bs i found =
    let within : i < length bs = found.0.high in
    let upto : i ≤ length bs = omega arith in
    front_stays bs i upto (λ k below. found.0.before k (omega arith) below)
    ∙ ap (λ t. take i bs ++ unescaped t) (drop_more bs i 0 within)
    ∙ ap (λ c. take i bs ++ unescaped (c ∷ drop (i + 1) bs)) (eqb-true (get_or bs i 0) 92 found.1)
    ∙ ap (λ t. take i bs ++ unescaped_behind t) (sym (take_rest bs (i + 1)))

-- one escape more
pub escape_more : (content text rest behind after : List ℕ) (front : List ℕ) (b : ℕ) → unescaped content ≡ text ++ unescaped rest → unescaped rest ≡ front ++ unescaped_behind behind
    → unescaped_behind behind ≡ b ∷ unescaped after → unescaped content ≡ ((text ++ front) ++ b ∷ []) ++ unescaped after
escape_more content text rest behind after front b whole step read =
    whole ∙ ap (λ t. text ++ t) (step ∙ ap (λ t. front ++ t) read)
    ∙ sym (append_assoc text front (b ∷ unescaped after))
    ∙ sym (append_assoc (text ++ front) (b ∷ []) (unescaped after))

-- with no backslash, nothing changes
pub no_escape : (bs : List ℕ) → IsFirstByte (is_byte 92) bs None → unescaped bs ≡ bs
no_escape [] none = refl
no_escape (b ∷ bs) none =
    let plain : (b == 92) ≡ false = ne_eqb b 92 (λ is. none 0 (omega arith) (omega arith) (eq-eqb b 92 is)) in
    rw plain (ap (λ t. b ∷ t) (no_escape bs (λ k low below. none (suc k) (omega arith) (omega arith))))

-- a content that is how the text itself is written
pub written_text : (content : List ℕ) → flat_map escaped content ≡ content → text_in content ≡ utf8_text content
written_text content written =
    let read : unescaped content ≡ content = ap unescaped (sym written) ∙ unescaped_written content in
    rw (read, written, same_bytes content) refl

-- ---- what is written stands between quotation marks

pub quoted_inside : (written text : List ℕ) → written ≡ quoted text → (2 ≤ length written) × (take (length written - 1 - 1) (drop 1 written) ≡ flat_map escaped text)
unfolding quoted
quoted_inside written text is =
    let inside = flat_map escaped text in
    let size : length (quoted text) ≡ length inside + 2 = omega (arith, length-append inside (34 ∷ [])) in
    subst (λ w. (2 ≤ length w) × (take (length w - 1 - 1) (drop 1 w) ≡ inside)) (sym is)
    (omega (arith, size), take_at inside (34 ∷ []) (length (quoted text) - 1 - 1) (omega (arith, size)))

-- ---- a control character by its number

pub control_read : (bytes : List ℕ) → 4 ≤ length bytes → unescaped_control bytes ≡ control (get_or bytes 2 0) (get_or bytes 3 0) ∷ unescaped (drop 4 bytes)
control_read [] some = absurd (omega arith)
control_read (z ∷ []) some = absurd (omega arith)
control_read (z ∷ y ∷ []) some = absurd (omega arith)
control_read (z ∷ y ∷ high ∷ []) some = absurd (omega arith)
control_read (z ∷ y ∷ high ∷ low ∷ bs) some = refl
