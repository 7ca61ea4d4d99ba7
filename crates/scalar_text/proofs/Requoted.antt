-- Quoting what was quoted changes nothing.
use Rattle.std.proofs.Common.{◌≡◌, ◌++◌, ◌&&◌, ◌==◌, ℕ, List, [], ◌∷◌, Bool, true, false, codes, if◌then◌else◌, refl, sym, ◌∙◌, ap, append_assoc}
use Rattle.std.specs.List.{list_all}
use Rattle.std.proofs.lemmas.Bool.{false≢true, eqb-true, and_parts}
use Rattle.std.proofs.lemmas.List.{append-nil}
use Rattle.std.specs.Cmp.Derive.{both_true}
use Rattle.scalar_text.specs.Quote.{is_number_byte, is_number, is_decimal, quoted_run, quote, quote_after, quote_string, quote_escape}

-- number bytes stay in a string
number_inside : (b : ℕ) (bs : List ℕ) (q e : Bool) → (b == 34) ≡ q → (b == 92) ≡ e → is_number_byte b ≡ true → (if q then quote bs else (if e then quote_escape bs else quote_string bs)) ≡ quote_string bs
number_inside b bs true e quote escape number = absurd (false≢true (sym (ap is_number_byte (eqb-true b 34 quote)) ∙ number))
number_inside b bs false true quote escape number = absurd (false≢true (sym (ap is_number_byte (eqb-true b 92 escape)) ∙ number))
number_inside b bs false false quote escape number = refl

run_inside : (run rest : List ℕ) → list_all is_number_byte run ≡ true → quote_string (run ++ rest) ≡ run ++ quote_string rest
run_inside [] rest all = refl
run_inside (b ∷ run) rest all =
    let parts = and_parts _ _ all in
    ap (λ x. b ∷ x) (number_inside b (run ++ rest) (b == 34) (b == 92) refl refl parts.0 ∙ run_inside run rest parts.1)

-- number bytes at the front make a run
run_front : (front run rest : List ℕ) → list_all is_number_byte run ≡ true → quote_after front (run ++ rest) ≡ quote_after (front ++ run) rest
run_front front [] rest all = ap (λ x. quote_after x rest) (sym (append-nil front))
run_front front (b ∷ run) rest all =
    let parts = and_parts _ _ all in
    ap (λ t. if t then quote_after (front ++ b ∷ []) (run ++ rest) else quoted_run front ++ b ∷ (if b == 34 then quote_string (run ++ rest) else quote_after [] (run ++ rest))) parts.0
    ∙ run_front (front ++ b ∷ []) run rest parts.1 ∙ ap (λ x. quote_after x rest) (append_assoc front (b ∷ []) run)

number_pushed : (run : List ℕ) (b : ℕ) → list_all is_number_byte run ≡ true → is_number_byte b ≡ true → list_all is_number_byte (run ++ b ∷ []) ≡ true
number_pushed [] b all number = both_true number refl
number_pushed (c ∷ run) b all number =
    let parts = and_parts _ _ all in
    both_true parts.0 (number_pushed run b parts.1 number)

-- what follows a run that has ended
abbrev behind_run : List ℕ → List ℕ
behind_run [] = []
behind_run (b ∷ bs) = b ∷ (if b == 34 then quote_string bs else quote_after [] bs)

abbrev Ends : List ℕ → Type 0
Ends [] = Unit {0}
Ends (b ∷ bs) = is_number_byte b ≡ false

ended : (run rest : List ℕ) → Ends rest → quote_after run rest ≡ quoted_run run ++ behind_run rest
ended run [] ends = sym (append-nil (quoted_run run))
ended run (b ∷ bs) ends = ap (λ t. if t then quote_after (run ++ b ∷ []) bs else quoted_run run ++ b ∷ (if b == 34 then quote_string bs else quote_after [] bs)) ends

behind_quote : (rest : List ℕ) → Ends rest → quote rest ≡ behind_run rest
behind_quote rest ends = ended [] rest ends

closed : (rest : List ℕ) → quote_string (codes "\"}" ++ rest) ≡ codes "\"}" ++ quote rest
closed rest = refl

opened : (rest : List ℕ) → quote (codes "{\"$dec\":\"" ++ rest) ≡ codes "{\"$dec\":\"" ++ quote_string rest
opened rest = refl

joined : (run rest : List ℕ) → (codes "{\"$dec\":\"" ++ run ++ codes "\"}") ++ rest ≡ codes "{\"$dec\":\"" ++ (run ++ (codes "\"}" ++ rest))
joined run rest = append_assoc (codes "{\"$dec\":\"" ++ run) (codes "\"}") rest ∙ append_assoc (codes "{\"$dec\":\"") run (codes "\"}" ++ rest)

-- a quoted run is quoted as it stands
again_run : (run rest : List ℕ) (t : Bool) → (is_number run && is_decimal run) ≡ t → list_all is_number_byte run ≡ true → Ends rest → quote ((if t then codes "{\"$dec\":\"" ++ run ++ codes "\"}" else run) ++ rest) ≡ (if t then codes "{\"$dec\":\"" ++ run ++ codes "\"}" else run) ++ behind_run rest
again_run run rest true test all ends =
    ap quote (joined run rest) ∙ opened (run ++ (codes "\"}" ++ rest))
    ∙ ap (λ x. codes "{\"$dec\":\"" ++ x) (run_inside run (codes "\"}" ++ rest) all ∙ ap (λ x. run ++ x) (closed rest ∙ ap (λ x. codes "\"}" ++ x) (behind_quote rest ends)))
    ∙ sym (joined run (behind_run rest))
again_run run rest false test all ends =
    run_front [] run rest all ∙ ended run rest ends
    ∙ ap (λ t. (if t then codes "{\"$dec\":\"" ++ run ++ codes "\"}" else run) ++ behind_run rest) test

again : (run rest : List ℕ) → list_all is_number_byte run ≡ true → Ends rest → quote (quoted_run run ++ rest) ≡ quoted_run run ++ behind_run rest
again run rest all ends = again_run run rest (is_number run && is_decimal run) refl all ends

step_run : (run : List ℕ) (b : ℕ) (bs : List ℕ) (t s : Bool) → is_number_byte b ≡ t → (b == 34) ≡ s → list_all is_number_byte run ≡ true
    → ((run' : List ℕ) → list_all is_number_byte run' ≡ true → quote (quote_after run' bs) ≡ quote_after run' bs)
    → quote_string (quote_string bs) ≡ quote_string bs
    → quote (if t then quote_after (run ++ b ∷ []) bs else quoted_run run ++ b ∷ (if s then quote_string bs else quote_after [] bs)) ≡ (if t then quote_after (run ++ b ∷ []) bs else quoted_run run ++ b ∷ (if s then quote_string bs else quote_after [] bs))
step_run run b bs true s number quotation all after string = after (run ++ b ∷ []) (number_pushed run b all number)
step_run run b bs false true number quotation all after string =
    again run (b ∷ quote_string bs) all number
    ∙ ap (λ s. quoted_run run ++ b ∷ (if s then quote_string (quote_string bs) else quote_after [] (quote_string bs))) quotation
    ∙ ap (λ x. quoted_run run ++ b ∷ x) string
step_run run b bs false false number quotation all after string =
    again run (b ∷ quote_after [] bs) all number
    ∙ ap (λ s. quoted_run run ++ b ∷ (if s then quote_string (quote_after [] bs) else quote_after [] (quote_after [] bs))) quotation
    ∙ ap (λ x. quoted_run run ++ b ∷ x) (after [] refl)

step_inside : (b : ℕ) (bs : List ℕ) (s t : Bool) → (b == 34) ≡ s → (b == 92) ≡ t
    → quote (quote bs) ≡ quote bs → quote_escape (quote_escape bs) ≡ quote_escape bs → quote_string (quote_string bs) ≡ quote_string bs
    → quote_string (b ∷ (if s then quote bs else (if t then quote_escape bs else quote_string bs))) ≡ b ∷ (if s then quote bs else (if t then quote_escape bs else quote_string bs))
step_inside b bs true t quotation backslash after escape string =
    ap (λ s. b ∷ (if s then quote (quote bs) else (if b == 92 then quote_escape (quote bs) else quote_string (quote bs)))) quotation ∙ ap (λ x. b ∷ x) after
step_inside b bs false true quotation backslash after escape string =
    ap (λ s. b ∷ (if s then quote (quote_escape bs) else (if b == 92 then quote_escape (quote_escape bs) else quote_string (quote_escape bs)))) quotation
    ∙ ap (λ t. b ∷ (if t then quote_escape (quote_escape bs) else quote_string (quote_escape bs))) backslash
    ∙ ap (λ x. b ∷ x) escape
step_inside b bs false false quotation backslash after escape string =
    ap (λ s. b ∷ (if s then quote (quote_string bs) else (if b == 92 then quote_escape (quote_string bs) else quote_string (quote_string bs)))) quotation
    ∙ ap (λ t. b ∷ (if t then quote_escape (quote_string bs) else quote_string (quote_string bs))) backslash
    ∙ ap (λ x. b ∷ x) string

mutual
  stays_after : (bs run : List ℕ) → list_all is_number_byte run ≡ true → quote (quote_after run bs) ≡ quote_after run bs
  stays_after [] run all = ap quote (sym (append-nil (quoted_run run))) ∙ again run [] all tt ∙ append-nil (quoted_run run)
  stays_after (b ∷ bs) run all = step_run run b bs (is_number_byte b) (b == 34) refl refl all (stays_after bs) (stays_string bs)

  stays_string : (bs : List ℕ) → quote_string (quote_string bs) ≡ quote_string bs
  stays_string [] = refl
  stays_string (b ∷ bs) = step_inside b bs (b == 34) (b == 92) refl refl (stays_after bs [] refl) (stays_escape bs) (stays_string bs)

  stays_escape : (bs : List ℕ) → quote_escape (quote_escape bs) ≡ quote_escape bs
  stays_escape [] = refl
  stays_escape (b ∷ bs) = ap (λ x. b ∷ x) (stays_string bs)

pub quote-again : (text : List ℕ) → quote (quote text) ≡ quote text
quote-again text = stays_after text [] refl
