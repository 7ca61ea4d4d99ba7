-- Strings: each text reads back from how it is written, and nothing else reads.
use Rattle.std.proofs.Common.{◌≡◌, ℕ, ◌+◌, ◌<◌, ◌≤◌, ◌/◌, ◌%◌, ◌==◌, ◌&&◌, ⊎_elim, not, List, Bool, true, false, Option, Some, None, [], ◌∷◌, ◌++◌, flat_map, option_map, refl, sym, subst, ap, ◌∙◌, arith, append_assoc, if◌then◌else◌}
use Rattle.std.specs.List.{list_all}
use Rattle.std.specs.Option.{option_and_then, IfSome}
use Rattle.std.specs.Str.{bytes_eq, is_utf8}
use Rattle.std.proofs.lemmas.Bool.{cases_eq, cases_lt, ne_eqb, lt-ltb, le-ltb, and_parts, not-true, le-leb, lt-leb, eqb-true}
use Rattle.std.proofs.lemmas.Option.{some_pair_parts, same_Some, none-some}
use Rattle.std.proofs.lemmas.Slice.Eq.{bytes_eq-Decides}
use Rattle.base_types.specs.JsonText.{escaped, hex_digit}
use Rattle.event_text.specs.Decode.{with_front, string_end, escape_end, short_escape, digit_of, control, unescaped, utf8_text, is_content_of, text_in, text_of, text_at}

-- ---- how a byte is written

-- neither a quotation mark nor a backslash
abbrev pub is_unmarked : ℕ → Bool
is_unmarked b = not (b == 34) && not (b == 92)

-- as it is, behind a backslash, or by its number
data Form (b : ℕ) : Type 0 where
  itself : is_unmarked b ≡ true → escaped b ≡ b ∷ [] → Form b
  short : (e : ℕ) → (e == 117) ≡ false → short_escape e ≡ b → escaped b ≡ 92 ∷ e ∷ [] → Form b
  number : (high low : ℕ) → is_unmarked high ≡ true → is_unmarked low ≡ true → control high low ≡ b → escaped b ≡ 92 ∷ 117 ∷ 48 ∷ 48 ∷ high ∷ low ∷ [] → Form b

pub unmarked : (b : ℕ) → (b ≡ 34 → ⊥) → (b ≡ 92 → ⊥) → is_unmarked b ≡ true
unmarked b quotation backslash = rw (ne_eqb b 34 quotation, ne_eqb b 92 backslash) refl

-- a hexadecimal digit and its number
digit_reads : (n : ℕ) → n < 16 → (digit_of (hex_digit n) ≡ n) × (is_unmarked (hex_digit n) ≡ true)
digit_reads n few = ⊎_elim (decimal n) (letter n few) (cases_lt n 10)
  where
    decimal : (n : ℕ) → n < 10 → (digit_of (hex_digit n) ≡ n) × (is_unmarked (hex_digit n) ≡ true)
    decimal n low = rw (lt-ltb n 10 low, le-leb (48 + n) 57 (omega arith)) (omega arith, unmarked (48 + n) (λ e. omega arith) (λ e. omega arith))

    letter : (n : ℕ) → n < 16 → 10 ≤ n → (digit_of (hex_digit n) ≡ n) × (is_unmarked (hex_digit n) ≡ true)
    letter n few high = rw (le-ltb n 10 high, lt-leb (87 + n) 57 (omega arith)) (omega arith, unmarked (87 + n) (λ e. omega arith) (λ e. omega arith))

control_reads : (b : ℕ) → b < 32 → control (hex_digit (b / 16)) (hex_digit (b % 16)) ≡ b
control_reads b low = ⊎_elim (first b) (second b low) (cases_lt b 16)
  where
    first : (b : ℕ) → b < 16 → control (hex_digit (b / 16)) (hex_digit (b % 16)) ≡ b
    first b low =
        let high : b / 16 ≡ 0 = omega arith in
        rw high ((digit_reads (b % 16) (omega arith)).0 ∙ omega arith)

    second : (b : ℕ) → b < 32 → 16 ≤ b → control (hex_digit (b / 16)) (hex_digit (b % 16)) ≡ b
    second b low up =
        let high : b / 16 ≡ 1 = omega arith in
        rw (high, (digit_reads (b % 16) (omega arith)).0) (omega arith)

-- a byte is this one, or another
at_or_else : (n b : ℕ) → Form n → ((b ≡ n → ⊥) → Form b) → Form b
at_or_else n b here other = ⊎_elim (λ (is : b ≡ n). subst Form (sym is) here) other (cases_eq b n)

form : (b : ℕ) → Form b
form b =
    at_or_else 34 b (short 34 refl refl refl) (λ n34.
    at_or_else 92 b (short 92 refl refl refl) (λ n92.
    at_or_else 8 b (short 98 refl refl refl) (λ n8.
    at_or_else 9 b (short 116 refl refl refl) (λ n9.
    at_or_else 10 b (short 110 refl refl refl) (λ n10.
    at_or_else 12 b (short 102 refl refl refl) (λ n12.
    at_or_else 13 b (short 114 refl refl refl) (λ n13.
    ⊎_elim
    (λ (low : b < 32).
    number (hex_digit (b / 16)) (hex_digit (b % 16)) (digit_reads (b / 16) (omega arith)).1 (digit_reads (b % 16) (omega arith)).1 (control_reads b low)
    (rw (ne_eqb b 34 n34, ne_eqb b 92 n92, ne_eqb b 8 n8, ne_eqb b 9 n9, ne_eqb b 10 n10, ne_eqb b 12 n12, ne_eqb b 13 n13, lt-ltb b 32 low) refl))
    (λ (up : 32 ≤ b).
    itself (unmarked b n34 n92)
    (rw (ne_eqb b 34 n34, ne_eqb b 92 n92, ne_eqb b 8 n8, ne_eqb b 9 n9, ne_eqb b 10 n10, ne_eqb b 12 n12, ne_eqb b 13 n13, le-ltb b 32 up) refl))
    (cases_lt b 32))))))))

-- ---- the end of what is written

pub front_then : (front more : List ℕ) (o : Option (List ℕ × List ℕ)) → option_map (with_front front) (option_map (with_front more) o) ≡ option_map (with_front (front ++ more)) o
front_then front more None = refl
front_then front more (Some ends) = ap (λ content. Some (content, ends.1)) (sym (append_assoc front more ends.0))

no_front : (o : Option (List ℕ × List ℕ)) → o ≡ option_map (with_front []) o
no_front None = refl
no_front (Some ends) = refl

end_behind_byte : (b : ℕ) (bs : List ℕ) → is_unmarked b ≡ true → string_end (b ∷ bs) ≡ option_map (with_front (b ∷ [])) (string_end bs)
end_behind_byte b bs plain =
    let parts = and_parts (not (b == 34)) (not (b == 92)) plain in
    rw (not-true (b == 34) parts.0, not-true (b == 92) parts.1) refl

-- bytes that are no marks stand in front of the end
pub end_behind : (bytes rest : List ℕ) → list_all is_unmarked bytes ≡ true → string_end (bytes ++ rest) ≡ option_map (with_front bytes) (string_end rest)
end_behind [] rest plain = no_front (string_end rest)
end_behind (b ∷ bytes) rest plain =
    let parts = and_parts (is_unmarked b) (list_all is_unmarked bytes) plain in
    end_behind_byte b (bytes ++ rest) parts.0
    ∙ ap (λ o. option_map (with_front (b ∷ [])) o) (end_behind bytes rest parts.1)
    ∙ front_then (b ∷ []) bytes (string_end rest)

end_behind_escaped : (b : ℕ) (rest : List ℕ) → string_end (escaped b ++ rest) ≡ option_map (with_front (escaped b)) (string_end rest)
end_behind_escaped b rest = by_form b rest (form b)
  where
    by_form : (b : ℕ) (rest : List ℕ) → Form b → string_end (escaped b ++ rest) ≡ option_map (with_front (escaped b)) (string_end rest)
    by_form b rest (itself test written) = rw written (end_behind_byte b rest test)
    by_form b rest (short e other reads written) = rw written (front_then (92 ∷ []) (e ∷ []) (string_end rest))
    by_form b rest (number high low first second reads written) =
        let digits : list_all is_unmarked (48 ∷ 48 ∷ high ∷ low ∷ []) ≡ true = rw (first, second) refl in
        rw written (
        ap (λ o. option_map (with_front (92 ∷ [])) (option_map (with_front (117 ∷ [])) o)) (end_behind (48 ∷ 48 ∷ high ∷ low ∷ []) rest digits)
        ∙ front_then (92 ∷ []) (117 ∷ []) (option_map (with_front (48 ∷ 48 ∷ high ∷ low ∷ [])) (string_end rest))
        ∙ front_then (92 ∷ 117 ∷ []) (48 ∷ 48 ∷ high ∷ low ∷ []) (string_end rest)
        )

end_of_written : (text behind : List ℕ) → string_end (flat_map escaped text ++ 34 ∷ behind) ≡ Some (flat_map escaped text, behind)
end_of_written [] behind = refl
end_of_written (b ∷ text) behind =
    ap string_end (append_assoc (escaped b) (flat_map escaped text) (34 ∷ behind))
    ∙ end_behind_escaped b (flat_map escaped text ++ 34 ∷ behind)
    ∙ ap (λ o. option_map (with_front (escaped b)) o) (end_of_written text behind)

-- ---- what is written reads back

unescaped_front : (b : ℕ) (rest : List ℕ) → unescaped (escaped b ++ rest) ≡ b ∷ unescaped rest
unescaped_front b rest = by_form b rest (form b)
  where
    by_form : (b : ℕ) (rest : List ℕ) → Form b → unescaped (escaped b ++ rest) ≡ b ∷ unescaped rest
    by_form b rest (itself test written) =
        let parts = and_parts (not (b == 34)) (not (b == 92)) test in
        rw (written, not-true (b == 92) parts.1) refl
    by_form b rest (short e other reads written) = rw (written, other) (ap (λ c. c ∷ unescaped rest) reads)
    by_form b rest (number high low first second reads written) = rw written (ap (λ c. c ∷ unescaped rest) reads)

pub unescaped_written : (text : List ℕ) → unescaped (flat_map escaped text) ≡ text
unescaped_written [] = refl
unescaped_written (b ∷ text) = unescaped_front b (flat_map escaped text) ∙ ap (λ t. b ∷ t) (unescaped_written text)

pub same_bytes : (bytes : List ℕ) → bytes_eq bytes bytes ≡ true
same_bytes bytes = (bytes_eq-Decides bytes bytes).1 refl

pub text_at-reads : (text behind : List ℕ) → is_utf8 text ≡ true → text_at (flat_map escaped text ++ 34 ∷ behind) ≡ Some (text, behind)
unfolding text_at
text_at-reads text behind utf8 = rw (end_of_written text behind, unescaped_written text, same_bytes (flat_map escaped text), utf8) refl

-- ---- nothing else reads

closed_behind : (b : ℕ) (bs : List ℕ) (o : Option (List ℕ × List ℕ)) → IfSome o (λ ends. bs ≡ ends.0 ++ 34 ∷ ends.1) → IfSome (option_map (with_front (b ∷ [])) o) (λ ends. b ∷ bs ≡ ends.0 ++ 34 ∷ ends.1)
closed_behind b bs None closed = tt
closed_behind b bs (Some ends) closed = ap (λ t. b ∷ t) closed

closed_at : (b : ℕ) (bs : List ℕ) (quotation backslash : Bool) → (b == 34) ≡ quotation
    → IfSome (string_end bs) (λ ends. bs ≡ ends.0 ++ 34 ∷ ends.1) → IfSome (escape_end bs) (λ ends. bs ≡ ends.0 ++ 34 ∷ ends.1)
    → IfSome (if quotation then Some ([], bs) else option_map (with_front (b ∷ [])) (if backslash then escape_end bs else string_end bs)) (λ ends. b ∷ bs ≡ ends.0 ++ 34 ∷ ends.1)
closed_at b bs true backslash is closed escape = ap (λ c. c ∷ bs) (eqb-true b 34 is)
closed_at b bs false true is closed escape = closed_behind b bs (escape_end bs) escape
closed_at b bs false false is closed escape = closed_behind b bs (string_end bs) closed

-- the content, its closing quotation mark, and what is behind it are all
closed : (bs : List ℕ) → IfSome (string_end bs) (λ ends. bs ≡ ends.0 ++ 34 ∷ ends.1) × IfSome (escape_end bs) (λ ends. bs ≡ ends.0 ++ 34 ∷ ends.1)
closed [] = (tt, tt)
closed (b ∷ bs) = (closed_at b bs (b == 34) (b == 92) refl (closed bs).0 (closed bs).1, closed_behind b bs (string_end bs) (closed bs).0)

utf8_only : (bytes text : List ℕ) (t : Bool) → is_utf8 bytes ≡ t → (if t then Some bytes else None) ≡ Some text → (bytes ≡ text) × (is_utf8 text ≡ true)
utf8_only bytes text true utf8 is = let same = same_Some bytes text is in (same, subst (λ t. is_utf8 t ≡ true) same utf8)
utf8_only bytes text false utf8 is = absurd (none-some text is)

content_only : (content text read : List ℕ) (t : Bool) → is_content_of content read ≡ t → (if t then utf8_text read else None) ≡ Some text → (content ≡ flat_map escaped text) × (is_utf8 text ≡ true)
content_only content text read true written is =
    let utf8 = utf8_only read text (is_utf8 read) refl is in
    (sym ((bytes_eq-Decides (flat_map escaped read) content).0 written) ∙ ap (λ t. flat_map escaped t) utf8.0, utf8.1)
content_only content text read false written is = absurd (none-some text is)

pair_only : (rest text behind : List ℕ) (o : Option (List ℕ)) → option_map {U = List ℕ × List ℕ} (λ t. (t, rest)) o ≡ Some (text, behind) → (o ≡ Some text) × (rest ≡ behind)
pair_only rest text behind None is = absurd (none-some (text, behind) is)
pair_only rest text behind (Some t) is = let parts = some_pair_parts t text rest behind is in (ap Some parts.0, parts.1)

ends_only : (inside text behind : List ℕ) (o : Option (List ℕ × List ℕ)) → IfSome o (λ ends. inside ≡ ends.0 ++ 34 ∷ ends.1) → option_and_then text_of o ≡ Some (text, behind)
    → (inside ≡ flat_map escaped text ++ 34 ∷ behind) × (is_utf8 text ≡ true)
ends_only inside text behind None whole is = absurd (none-some (text, behind) is)
ends_only inside text behind (Some ends) whole is =
    let pair = pair_only ends.1 text behind (text_in ends.0) is in
    let content = content_only ends.0 text (unescaped ends.0) (is_content_of ends.0 (unescaped ends.0)) refl pair.0 in
    (whole ∙ ap (λ c. c ++ 34 ∷ ends.1) content.0 ∙ ap (λ r. flat_map escaped text ++ 34 ∷ r) pair.1, content.1)

pub text_at-only : (inside text behind : List ℕ) → text_at inside ≡ Some (text, behind) → (inside ≡ flat_map escaped text ++ 34 ∷ behind) × (is_utf8 text ≡ true)
unfolding text_at
text_at-only inside text behind is = ends_only inside text behind (string_end inside) (closed inside).0 is
