-- Blanks at the ends of a text.
use Rattle.std.proofs.Common.{◌≡◌, ◌≢◌, ℕ, ◌<◌, List, [], ◌∷◌, ◌++◌, ◌==◌, ◌||◌, reverse, length, Bool, true, false, Option, Some, None, MatchOption, Bor, if◌then◌else◌, refl, sym, ap, ◌∙◌, arith, length-append}
use Rattle.std.proofs.lemmas.Bool.{eqb-true}
use Rattle.std.proofs.lemmas.List.{reverse-append, reverse-reverse}
use Rattle.scalar_text.specs.Strip.{strip_front, strip_back}

other_front : (b : ℕ) (bs : List ℕ) → (s t : Bool) → (b == 32) ≡ s → (b == 9) ≡ t → (b ≢ 32) → (b ≢ 9) → (if s || t then strip_front bs else b ∷ bs) ≡ b ∷ bs
other_front b bs true t e f space tab = absurd (space (eqb-true b 32 e))
other_front b bs false true e f space tab = absurd (tab (eqb-true b 9 f))
other_front b bs false false e f space tab = refl

strip_front_same : (text : List ℕ) → ((rest : List ℕ) → text ≢ 32 ∷ rest) → ((rest : List ℕ) → text ≢ 9 ∷ rest) → strip_front text ≡ text
strip_front_same [] space tab = refl
strip_front_same (b ∷ bs) space tab = other_front b bs (b == 32) (b == 9) refl refl (λ e. space bs (ap (λ n. n ∷ bs) e)) (λ e. tab bs (ap (λ n. n ∷ bs) e))

pub behind_blank_is : (text : List ℕ) (r : Option (Bor (List ℕ))) → ((rest : List ℕ) → text ≢ 32 ∷ rest) → MatchOption r ((rest : List ℕ) → text ≢ 9 ∷ rest) (λ x. text ≡ 9 ∷ x.now)
    → MatchOption r (strip_front text ≡ text) (λ rest. (strip_front text ≡ strip_front rest.now) × (length rest.now < length text))
behind_blank_is text None space tab = strip_front_same text space tab
behind_blank_is text (Some x) space e = (ap strip_front e, omega (arith, ap length e))

-- a text that ends in b, turned round
turned : (text front : List ℕ) (b : ℕ) → text ≡ front ++ b ∷ [] → reverse text ≡ b ∷ reverse front
turned text front b e = ap reverse e ∙ reverse-append front (b ∷ [])

turned_back : (text rest : List ℕ) (b : ℕ) → reverse text ≡ b ∷ rest → text ≡ reverse rest ++ b ∷ []
turned_back text rest b e = sym (reverse-reverse text) ∙ ap reverse e ∙ reverse-append (b ∷ []) rest

strip_back_same : (text : List ℕ) → ((front : List ℕ) → text ≢ front ++ 32 ∷ []) → ((front : List ℕ) → text ≢ front ++ 9 ∷ []) → strip_back text ≡ text
strip_back_same text space tab =
    ap reverse (strip_front_same (reverse text) (λ rest e. space (reverse rest) (turned_back text rest 32 e)) (λ rest e. tab (reverse rest) (turned_back text rest 9 e)))
    ∙ reverse-reverse text

pub before_blank_is : (text : List ℕ) (r : Option (Bor (List ℕ))) → ((front : List ℕ) → text ≢ front ++ 32 ∷ []) → MatchOption r ((front : List ℕ) → text ≢ front ++ 9 ∷ []) (λ x. text ≡ x.now ++ 9 ∷ [])
    → MatchOption r (strip_back text ≡ text) (λ rest. (strip_back text ≡ strip_back rest.now) × (length rest.now < length text))
before_blank_is text None space tab = strip_back_same text space tab
before_blank_is text (Some x) space e =
    (ap (λ t. reverse (strip_front t)) (turned text x.now 9 e), omega (arith, ap length e, length-append x.now (9 ∷ [])))
