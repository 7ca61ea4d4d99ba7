-- Pieces one behind the other.
use Rattle.std.proofs.Common.{◌≡◌, ◌<◌, ◌≤◌, ℕ, ◌+◌, ◌-◌, List, [], ◌∷◌, ◌++◌, length, take, drop, Option, Some, None, refl, sym, ap, ◌∙◌, subst, arith, append_assoc}
use Rattle.std.specs.Prelude.{All}
use Rattle.std.proofs.lemmas.List.{append-nil, drop-drop, take_at}
use Rattle.std.proofs.lemmas.List.Elements.{All-cons, All-nil}
use Rattle.sieve_tokens.specs.Laws.{BadPlaceIsOne, SpansRise, TokensAreOne, TokensHaveTheirKinds, TokensOrBadPlace}
use Rattle.sieve_tokens.specs.Piece.{IsOf, Stands}
use Rattle.sieve_tokens.specs.Token.{spanned, spans, Cover, HasItsKind, Rise}
use Rattle.sieve_tokens.specs.declared.piece.Piece.{Piece}
use Rattle.sieve_tokens.specs.declared.token.Token.{Token}
use Rattle.sieve_tokens.specs.declared.token.TokenKind.{TokenKind}
use Rattle.sieve_tokens.proofs.Pieces.{one_piece, size_of}

-- no piece stands at a place
abbrev pub Stuck : List ℕ → Type 0
Stuck text = (piece : Piece) (behind : List ℕ) → Stands piece text behind → ⊥

ends_stuck : Stuck []
ends_stuck p behind h = let size = size_of p [] behind h in absurd (omega (arith, size.0, size.1))

-- pieces up to where none stands are the same, and so is that place
one_cover : (ps qs : List Piece) (text rest behind : List ℕ) → Cover ps text rest → Stuck rest → Cover qs text behind → Stuck behind → (ps ≡ qs) × (rest ≡ behind)
one_cover [] [] text rest behind this stuck that over = (refl, sym this ∙ that)
one_cover [] (q ∷ qs) text rest behind this stuck that over = absurd (stuck q that.0 (subst (λ t. Stands q t that.0) this that.1))
one_cover (p ∷ ps) [] text rest behind this stuck that over = absurd (over p this.0 (subst (λ t. Stands p t this.0) that this.1))
one_cover (p ∷ ps) (q ∷ qs) text rest behind this stuck that over =
    let (same, next) = one_piece p q text this.0 that.0 this.1 that.1 in
    let (more, end) = one_cover ps qs that.0 rest behind (subst (λ t. Cover ps t rest) next this.2) stuck that.2 over in
    ((λ i. same i ∷ more i), end)

pub tokens_one : TokensAreOne
tokens_one text these those this that =
    let (ps, covers, is) = this in
    let (qs, cover, are) = that in
    is ∙ (ap (spans 0) (one_cover ps qs text [] [] covers ends_stuck cover ends_stuck).0 ∙ sym are)

pub tokens_or_bad : TokensOrBadPlace
tokens_or_bad text tokens at this that =
    let (ps, covers, is) = this in
    let (qs, rest, cover, place, some, stuck) = that in
    let e = ap length (one_cover ps qs text [] rest covers ends_stuck cover stuck).1 in
    absurd (omega arith)

pub bad_one : BadPlaceIsOne
bad_one text a b this that =
    let (ps, rest, covers, place, some, stuck) = this in
    let (qs, behind, cover, at, more, over) = that in
    let e = ap length (one_cover ps qs text rest behind covers stuck cover over).1 in
    omega arith

-- ---- spans

rise_earlier : (at later end : ℕ) (tokens : List Token) → at ≤ later → Rise later end tokens → Rise at end tokens
rise_earlier at later end [] le h = omega arith
rise_earlier at later end (t ∷ ts) le h = (omega (arith, h.0), h.1, h.2)

spans_rise_from : (at : ℕ) (ps : List Piece) (text : List ℕ) → Cover ps text [] → Rise at (at + length text) (spans at ps)
spans_rise_from at [] text covers = omega arith
spans_rise_from at (p ∷ ps) text covers =
    let (behind, stands, more) = covers in
    let (some, size, cut) = size_of p text behind stands in
    let end : at + p.len + length behind ≡ at + length text = omega arith in
    let later : Rise (at + p.len) (at + length text) (spans (at + p.len) ps) = subst (λ (e : ℕ). Rise (at + p.len) e (spans (at + p.len) ps)) end (spans_rise_from (at + p.len) ps behind more) in
    by p.kind some later
  where
    by : (k : Option TokenKind) → 0 < p.len → Rise (at + p.len) (at + length text) (spans (at + p.len) ps) → Rise at (at + length text) (spanned k at (at + p.len) ++ spans (at + p.len) ps)
    by None some later = rise_earlier at (at + p.len) (at + length text) (spans (at + p.len) ps) (omega arith) later
    by (Some k) some later = (omega arith, omega arith, later)

pub spans_rise : SpansRise
spans_rise text tokens h =
    let (ps, covers, is) = h in
    let zero_first : 0 + length text ≡ length text = omega arith in
    subst (Rise 0 (length text)) (sym is) (subst (λ (e : ℕ). Rise 0 e (spans 0 ps)) zero_first (spans_rise_from 0 ps text covers))

-- ---- kinds

kinds_from : (whole : List ℕ) (at : ℕ) (ps : List Piece) → Cover ps (drop at whole) [] → All (HasItsKind whole) (spans at ps)
kinds_from whole at [] covers = All-nil (HasItsKind whole)
kinds_from whole at (p ∷ ps) covers =
    let (behind, stands, more) = covers in
    let (some, size, cut) = size_of p (drop at whole) behind stands in
    let next : behind ≡ drop (at + p.len) whole = cut ∙ drop-drop p.len at whole in
    let later = kinds_from whole (at + p.len) ps (subst (λ (t : List ℕ). Cover ps t []) next more) in
    by p.kind stands.leads.0 stands.leads.1 stands.leads.2 stands.leads.3 next later
  where
    by : (k : Option TokenKind) (bytes : List ℕ) → drop at whole ≡ bytes ++ covers.0 → length bytes ≡ p.len → IsOf k bytes covers.0 → covers.0 ≡ drop (at + p.len) whole
        → All (HasItsKind whole) (spans (at + p.len) ps) → All (HasItsKind whole) (spanned k at (at + p.len) ++ spans (at + p.len) ps)
    by None bytes front size of next later = later
    by (Some k) bytes front size of next later =
        let len : at + p.len - at ≡ p.len = omega arith in
        let its : take (at + p.len - at) (drop at whole) ≡ bytes = ap (λ n. take n (drop at whole)) len ∙ (ap (take p.len) front ∙ take_at bytes covers.0 p.len size) in
        let token : Token = record { kind = k; from = at; upto = at + p.len } in
        let is : HasItsKind whole token = subst (λ (b : List ℕ). IsOf (Some k) b (drop (at + p.len) whole)) (sym its) (subst (IsOf (Some k) bytes) next of) in
        All-cons (HasItsKind whole) token (spans (at + p.len) ps) is later

pub have_kinds : TokensHaveTheirKinds
have_kinds text tokens h =
    let (ps, covers, is) = h in
    subst (All (HasItsKind text)) (sym is) (kinds_from text 0 ps covers)

-- ---- one more piece

pub cover_push : (ps : List Piece) (p : Piece) (text rest behind : List ℕ) → Cover ps text rest → Stands p rest behind → Cover (ps ++ p ∷ []) text behind
cover_push [] p text rest behind covers stands = (behind, subst (λ t. Stands p t behind) (sym covers) stands, refl)
cover_push (q ∷ qs) p text rest behind covers stands = (covers.0, covers.1, cover_push qs p covers.0 rest behind covers.2 stands)

-- what is before the rest
pub cover_size : (ps : List Piece) (text rest : List ℕ) → Cover ps text rest → length rest ≤ length text
cover_size [] text rest covers = let e = ap length covers in omega arith
cover_size (p ∷ ps) text rest covers =
    let size = size_of p text covers.0 covers.1 in
    let more = cover_size ps covers.0 rest covers.2 in
    omega (arith, size.1)

spans_push_from : (at : ℕ) (ps : List Piece) (p : Piece) (text rest : List ℕ) → Cover ps text rest
    → spans at (ps ++ p ∷ []) ≡ spans at ps ++ spanned p.kind (at + (length text - length rest)) (at + (length text - length rest) + p.len)
spans_push_from at [] p text rest covers =
    let e = ap length covers in
    let place : at ≡ at + (length text - length rest) = omega arith in
    append-nil (spanned p.kind at (at + p.len)) ∙ ap (λ (n : ℕ). spanned p.kind n (n + p.len)) place
spans_push_from at (q ∷ qs) p text rest covers =
    let size = size_of q text covers.0 covers.1 in
    let le = cover_size qs covers.0 rest covers.2 in
    let place : at + q.len + (length covers.0 - length rest) ≡ at + (length text - length rest) = omega (arith, size.1) in
    let more = spans_push_from (at + q.len) qs p covers.0 rest covers.2 in
    let first = spanned q.kind at (at + q.len) in
    ap (λ (l : List Token). first ++ l) (more ∙ ap (λ (n : ℕ). spans (at + q.len) qs ++ spanned p.kind n (n + p.len)) place) ∙ sym (append_assoc first (spans (at + q.len) qs) _)

pub spans_push : (ps : List Piece) (p : Piece) (text rest : List ℕ) → Cover ps text rest
    → spans 0 (ps ++ p ∷ []) ≡ spans 0 ps ++ spanned p.kind (length text - length rest) (length text - length rest + p.len)
spans_push ps p text rest covers =
    let place : 0 + (length text - length rest) ≡ length text - length rest = omega arith in
    spans_push_from 0 ps p text rest covers ∙ ap (λ (n : ℕ). spans 0 ps ++ spanned p.kind n (n + p.len)) place
