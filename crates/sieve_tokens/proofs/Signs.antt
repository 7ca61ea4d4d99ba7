-- The longest sign at the front of a text.
use Rattle.std.proofs.Common.{◌≡◌, ◌<◌, ◌≤◌, ℕ, Bool, true, false, not, ◌&&◌, List, [], ◌∷◌, ◌++◌, length, take, drop, Some, refl, sym, ap, ◌∙◌, arith, ⊎_elim}
use Rattle.std.specs.List.{find, list_all, starts_with}
use Rattle.std.specs.Prelude.{nat_eq, nat_lt, if◌then◌else◌}
use Rattle.std.specs.Str.{bytes_eq}
use Rattle.std.proofs.lemmas.Bool.{and_parts, both_ways, cases_lt, ltb-true, not-true}
use Rattle.std.proofs.lemmas.List.{take-append-le}
use Rattle.std.proofs.lemmas.Slice.Eq.{bytes_eq-Decides}
use Rattle.sieve_tokens.specs.Laws.{SignsHaveTheirTexts}
use Rattle.sieve_tokens.specs.Scan.{sign_at}
use Rattle.sieve_tokens.specs.Sign.{sign_text}
use Rattle.sieve_tokens.specs.declared.sign.TheConstants.{SIGNS}
use Rattle.sieve_tokens.specs.declared.sign.Sign.{Sign}
use Rattle.sieve_tokens.specs.declared.sign.Sign.TheVariants as sign
use Rattle.sieve_tokens.proofs.Finds.{found_in_all, found_passes}
use Rattle.sieve_tokens.proofs.Comments.{begins_so, behind_front}

-- none is the front of a later one
abbrev ordered : List Sign → Bool
ordered [] = true
ordered (s ∷ ss) = list_all (λ u. not (starts_with nat_eq (sign_text u) (sign_text s))) ss && ordered ss

in_order : ordered SIGNS ≡ true
in_order = refl

abbrev same_as : Sign → Sign → Bool
same_as s u = bytes_eq (sign_text s) (sign_text u)

listed : (s : Sign) → find (same_as s) SIGNS ≡ Some s
listed sign.OpenBrace = refl
listed sign.CloseBrace = refl
listed sign.OpenParen = refl
listed sign.CloseParen = refl
listed sign.OpenBracket = refl
listed sign.CloseBracket = refl
listed sign.Comma = refl
listed sign.And = refl
listed sign.Or = refl
listed sign.Equal = refl
listed sign.Matches = refl
listed sign.Assign = refl
listed sign.Differs = refl
listed sign.NotMatches = refl
listed sign.Not = refl
listed sign.Within = refl
listed sign.LessOrEqual = refl
listed sign.Less = refl
listed sign.GreaterOrEqual = refl
listed sign.Greater = refl
listed sign.Exists = refl
listed sign.NotExists = refl
listed sign.Contains = refl
listed sign.In = refl
listed sign.Before = refl
listed sign.After = refl

all_some : list_all (λ u. nat_lt 0 (length (sign_text u))) SIGNS ≡ true
all_some = refl

-- no sign is empty
pub sign_size : (s : Sign) → 0 < length (sign_text s)
sign_size s = ltb-true 0 (length (sign_text s)) (found_in_all (same_as s) (λ u. nat_lt 0 (length (sign_text u))) SIGNS s all_some (listed s))

abbrev front_of : List ℕ → Sign → Bool
front_of text u = starts_with nat_eq text (sign_text u)

abbrev Reaches : List ℕ → Sign → List Sign → Type 0
Reaches text s ss = (t : Sign) × (find (front_of text) ss ≡ Some t) × (length (sign_text s) ≤ length (sign_text t))

-- a sign that stands before a longer one of the same text isn't its front
no_longer : (text rest : List ℕ) (s u : Sign) → text ≡ sign_text s ++ rest → front_of text u ≡ true → starts_with nat_eq (sign_text s) (sign_text u) ≡ false → length (sign_text s) ≤ length (sign_text u)
no_longer text rest s u at is apart = ⊎_elim
    (λ (less : length (sign_text u) < length (sign_text s)).
    let same : front_of text u ≡ starts_with nat_eq (sign_text s) (sign_text u) =
    ap (λ (l : List ℕ). bytes_eq (sign_text u) (take (length (sign_text u)) l)) at ∙ ap (bytes_eq (sign_text u)) (take-append-le (length (sign_text u)) (sign_text s) rest (omega arith)) in
    absurd (both_ways _ apart (sym same ∙ is)))
    (λ le. le)
    (cases_lt (length (sign_text u)) (length (sign_text s)))

reached : (text rest : List ℕ) (s : Sign) (ss : List Sign) → text ≡ sign_text s ++ rest → ordered ss ≡ true → find (same_as s) ss ≡ Some s → Reaches text s ss
reached text rest s [] at order e = absurd (cc)
reached text rest s (u ∷ us) at order e =
    let parts = and_parts (list_all (λ v. not (starts_with nat_eq (sign_text v) (sign_text u))) us) (ordered us) order in
    by (front_of text u) refl (same_as s u) refl e parts.0 (reached text rest s us at parts.1)
  where
    by : (b : Bool) → front_of text u ≡ b → (c : Bool) → same_as s u ≡ c → (if c then Some u else find (same_as s) us) ≡ Some s
        → list_all (λ v. not (starts_with nat_eq (sign_text v) (sign_text u))) us ≡ true → (find (same_as s) us ≡ Some s → Reaches text s us) → Reaches text s (u ∷ us)
    by true is true same f later more =
        let e = ap length ((bytes_eq-Decides (sign_text s) (sign_text u)).0 same) in
        (u, rw is refl, omega arith)
    by true is false same f later more =
        let apart = found_in_all (same_as s) (λ v. not (starts_with nat_eq (sign_text v) (sign_text u))) us s later f in
        (u, rw is refl, no_longer text rest s u at is (not-true _ apart))
    by false is true same f later more =
        let e = (bytes_eq-Decides (sign_text s) (sign_text u)).0 same in
        absurd (both_ways _ is (begins_so text (sign_text u) rest (at ∙ ap (λ (l : List ℕ). l ++ rest) e)))
    by false is false same f later more =
        let (t, found, le) = more f in
        (t, rw is found, le)

-- no sign there is longer than the one found
pub sign_most : (s : Sign) (rest : List ℕ) → (t : Sign) × (sign_at (sign_text s ++ rest) ≡ Some t) × (length (sign_text s) ≤ length (sign_text t))
unfolding sign_at
sign_most s rest = reached (sign_text s ++ rest) rest s SIGNS refl in_order (listed s)

-- and that one stands there
pub sign_sound : (text : List ℕ) (s : Sign) → sign_at text ≡ Some s → text ≡ sign_text s ++ drop (length (sign_text s)) text
unfolding sign_at
sign_sound text s e = behind_front text (sign_text s) (found_passes (front_of text) SIGNS s e)

pub signs_have_texts : SignsHaveTheirTexts
signs_have_texts = (listed, λ piece s e. (bytes_eq-Decides piece (sign_text s)).0 (found_passes (λ u. bytes_eq piece (sign_text u)) SIGNS s e))
