-- What the scan for decimals keeps as it is.
use Rattle.std.proofs.Common.{◌≡◌, ◌<◌, ◌≤◌, ◌+◌, ◌-◌, ◌++◌, ◌&&◌, ◌||◌, ◌==◌, ℕ, zero, suc, Some, None, List, [], ◌∷◌, Bool, true, false, length, take, drop, get_or, codes, if◌then◌else◌, refl, sym, subst, ◌∙◌, ap, arith, append_assoc, add-one}
use Rattle.std.proofs.Math.Seq.{drop-cons, drop-length}
use Rattle.memchr.specs.Find.{IsFirstByte, is_byte2}
use Rattle.std.proofs.lemmas.Bool.{eqb-true}
use Rattle.std.proofs.lemmas.List.{take_rest, take-append-drop}
use Rattle.scalar_text.specs.Quote.{Keeps, is_number_byte, is_number, is_decimal, quoted_run, quote, quote_after, quote_string, quote_escape}

pub keeps_then : (f g h : List ℕ → List ℕ) (text middle rest : List ℕ) → Keeps f g text middle → Keeps g h middle rest → Keeps f h text rest
keeps_then f g h text middle rest front back = (
  front.0 ++ back.0,
  front.1 ∙ ap (λ x. front.0 ++ x) back.1 ∙ sym (append_assoc front.0 back.0 rest),
  front.2 ∙ ap (λ x. front.0 ++ x) back.2 ∙ sym (append_assoc front.0 back.0 (h rest)),
)

pub behind_at : (f g : List ℕ → List ℕ) (text whole : List ℕ) (n : ℕ) → Keeps f g whole (drop n text) → Keeps f g whole (take (length text - n) (drop n text))
behind_at f g text whole n keeps = subst (λ rest. Keeps f g whole rest) (sym (take_rest text n)) keeps

-- ---- in a string

pub keeps_escape : (text : List ℕ) → 1 ≤ length text → Keeps quote_escape quote_string text (drop 1 text)
keeps_escape [] some = absurd (omega arith)
keeps_escape (b ∷ bs) some = (b ∷ [], refl, refl)

inside_head : (b : ℕ) (bs : List ℕ) (q e : Bool) → (b == 34) ≡ q → (b == 92) ≡ e → ((q || e) ≡ true → ⊥) → quote_string (b ∷ bs) ≡ b ∷ quote_string bs
inside_head b bs true e quotation escape plain = absurd (plain refl)
inside_head b bs false true quotation escape plain = absurd (plain refl)
inside_head b bs false false quotation escape plain =
    ap (λ t. b ∷ (if t then quote bs else (if b == 92 then quote_escape bs else quote_string bs))) quotation
    ∙ ap (λ t. b ∷ (if t then quote_escape bs else quote_string bs)) escape

-- bytes that are no marks stay
skip_inside : (bs : List ℕ) (i : ℕ) → i ≤ length bs → ((k : ℕ) → k < i → ((get_or bs k 0 == 34) || (get_or bs k 0 == 92)) ≡ true → ⊥) → Keeps quote_string quote_string bs (drop i bs)
skip_inside bs zero within plain = ([], refl, refl)
skip_inside [] (suc i) within plain = absurd (omega arith)
skip_inside (b ∷ bs) (suc i) within plain =
    keeps_then quote_string quote_string quote_string (b ∷ bs) bs (drop i bs) (b ∷ [], refl, inside_head b bs (b == 34) (b == 92) refl refl (plain 0 (omega arith)))
    (skip_inside bs i (omega arith) (λ k below. plain (suc k) (omega arith)))

-- up to the first quotation mark or backslash
to_mark : (bs : List ℕ) (i : ℕ) → IsFirstByte (is_byte2 34 92) bs (Some i) → Keeps quote_string quote_string bs (get_or bs i 0 ∷ drop (i + 1) bs)
to_mark bs i found =
    let within : i < length bs = found.0.high in
    let upto : i ≤ length bs = omega arith in
    subst (λ rest. Keeps quote_string quote_string bs rest) (drop-cons bs i 0 within ∙ ap (λ k. get_or bs i 0 ∷ drop k bs) (sym (add-one i)))
    (skip_inside bs i upto (λ k below. found.0.before k (omega arith) below))

end_first : (b : ℕ) (bs : List ℕ) → b ≡ 34 → Keeps quote_string quote (b ∷ bs) bs
end_first b bs is = (b ∷ [], refl, ap (λ c. b ∷ (if c == 34 then quote bs else (if c == 92 then quote_escape bs else quote_string bs))) is)

-- the string is closed there
pub keeps_end : (bs : List ℕ) (i : ℕ) → IsFirstByte (is_byte2 34 92) bs (Some i) → get_or bs i 0 ≡ 34 → Keeps quote_string quote bs (drop (i + 1) bs)
keeps_end bs i found is =
    keeps_then quote_string quote_string quote bs (get_or bs i 0 ∷ drop (i + 1) bs) (drop (i + 1) bs) (to_mark bs i found) (end_first (get_or bs i 0) (drop (i + 1) bs) is)

backslash_first : (b : ℕ) (bs : List ℕ) (q e : Bool) → (b == 34) ≡ q → (b == 92) ≡ e → (q || e) ≡ true → (b ≡ 34 → ⊥) → quote_string (b ∷ bs) ≡ b ∷ quote_escape bs
backslash_first b bs true e quotation escape mark other = absurd (other (eqb-true b 34 quotation))
backslash_first b bs false true quotation escape mark other =
    ap (λ t. b ∷ (if t then quote bs else (if b == 92 then quote_escape bs else quote_string bs))) quotation
    ∙ ap (λ t. b ∷ (if t then quote_escape bs else quote_string bs)) escape
backslash_first b bs false false quotation escape mark other = cc

-- a backslash covers the byte behind it
pub keeps_backslash : (bs : List ℕ) (i : ℕ) → IsFirstByte (is_byte2 34 92) bs (Some i) → (get_or bs i 0 ≡ 34 → ⊥) → Keeps quote_string quote_escape bs (drop (i + 1) bs)
keeps_backslash bs i found other =
    let b = get_or bs i 0 in let behind = drop (i + 1) bs in
    keeps_then quote_string quote_string quote_escape bs (b ∷ behind) behind (to_mark bs i found)
    (b ∷ [], refl, backslash_first b behind (b == 34) (b == 92) refl refl found.1 other)

-- the string isn't closed
pub keeps_open : (bs : List ℕ) → IsFirstByte (is_byte2 34 92) bs None → Keeps quote_string quote bs []
keeps_open bs none =
    let all = skip_inside bs (length bs) (omega arith) (λ k below. none k (omega arith) below) in
    keeps_then quote_string quote_string quote bs [] [] (subst (λ rest. Keeps quote_string quote_string bs rest) (drop-length bs) all) ([], refl, refl)

-- ---- outside

pub keeps_start : (text : List ℕ) (d : ℕ) → 1 ≤ length text → get_or text 0 d ≡ 34 → Keeps quote quote_string text (drop 1 text)
keeps_start [] d some is = absurd (omega arith)
keeps_start (b ∷ bs) d some is =
    (b ∷ [], refl, ap (λ c. quote (c ∷ bs)) is ∙ ap (λ c. c ∷ quote_string bs) (sym is))

plain_outside : (b : ℕ) (bs : List ℕ) (n q : Bool) → is_number_byte b ≡ n → (b == 34) ≡ q → n ≡ false → (b ≡ 34 → ⊥)
    → (if n then quote_after (b ∷ []) bs else b ∷ (if q then quote_string bs else quote_after [] bs)) ≡ b ∷ quote bs
plain_outside b bs true q number quote plain other = absurd (cc)
plain_outside b bs false true number quote plain other = absurd (other (eqb-true b 34 quote))
plain_outside b bs false false number quote plain other = refl

pub keeps_outside : (text : List ℕ) (d : ℕ) → 1 ≤ length text → is_number_byte (get_or text 0 d) ≡ false → (get_or text 0 d ≡ 34 → ⊥) → Keeps quote quote text (drop 1 text)
keeps_outside [] d some plain other = absurd (omega arith)
keeps_outside (b ∷ bs) d some plain other = (b ∷ [], refl, plain_outside b bs (is_number_byte b) (b == 34) refl refl plain other)

-- a run of number bytes that is no decimal
same_run : (run : List ℕ) (t : Bool) → t ≡ false → (if t then codes "{\"$dec\":\"" ++ run ++ codes "\"}" else run) ≡ run
same_run run true plain = absurd (cc)
same_run run false plain = refl

pub quoted_run-plain : (run : List ℕ) → (is_number run && is_decimal run) ≡ false → quoted_run run ≡ run
quoted_run-plain run plain = same_run run (is_number run && is_decimal run) plain

pub keeps_run : (text : List ℕ) (n : ℕ) → quote text ≡ quoted_run (take n text) ++ quote (drop n text) → (is_number (take n text) && is_decimal (take n text)) ≡ false → Keeps quote quote text (drop n text)
keeps_run text n run plain =
    (take n text, sym (take-append-drop n text), run ∙ ap (λ x. x ++ quote (drop n text)) (quoted_run-plain (take n text) plain))
