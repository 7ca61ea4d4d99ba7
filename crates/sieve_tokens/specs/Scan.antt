-- How the front of a text is looked at. The lemmas in proofs/ hold this against what pieces are.
use Rattle.std.specs.Prelude.{ℕ, ◌+◌, Bool, true, false, not, ◌&&◌, ◌||◌, ◌==◌, nat_eq, nat_le, nat_lt, if◌then◌else◌, List, [], ◌∷◌, length, take, drop, codes, Option, Some, None, option_and_then, find}
use Rattle.std.specs.List.{prefix_len, starts_with}
use Rattle.std.specs.Option.{option_map}
use Rattle.std.specs.Str.{is_utf8}
use Rattle.base_types.specs.Name.{is_name_byte}
use Rattle.sieve_tokens.specs.Bytes.{backslash, begins, goes_on, is_blank_byte, is_digit, is_escape, is_in_line, is_quote, is_word_start}
use Rattle.sieve_tokens.specs.Sign.{sign_text}
use Rattle.sieve_tokens.specs.declared.sign.TheConstants.{SIGNS}
use Rattle.sieve_tokens.specs.declared.piece.Piece.{Piece}
use Rattle.sieve_tokens.specs.declared.sign.Sign.{Sign}
use Rattle.sieve_tokens.specs.declared.token.TokenKind.{TokenKind}
use Rattle.sieve_tokens.specs.declared.token.TokenKind.TheVariants as kind

abbrev pub blank : ℕ → Piece
blank len = record { kind = None; len = len }

abbrev pub token : TokenKind → ℕ → Piece
token k len = record { kind = Some k; len = len }

-- where the first `*/` stands, counted from this number on
abbrev pub first_end : ℕ → List ℕ → Option ℕ
first_end at [] = None
first_end at (b ∷ bs) = if starts_with nat_eq (b ∷ bs) (codes "*/") then Some at else first_end (at + 1) bs

abbrev pub and_more : ℕ → Option ℕ → Option ℕ
and_more n len = option_map (λ m. m + n) len

-- of a text that begins with a slash, the length of the comment that it begins with
unfoldable pub comment_len : List ℕ → Option ℕ
comment_len text =
    if starts_with nat_eq text (codes "//") then Some (2 + prefix_len is_in_line (drop 2 text))
    else if starts_with nat_eq text (codes "/*") then and_more 4 (first_end 0 (drop 2 text))
    else None

unfoldable pub word_len : List ℕ → ℕ
word_len text = if starts_with nat_eq text (codes "add!") then 4 else prefix_len is_name_byte text

-- where the closing quote stands, counted from this number on; the flag: a backslash stands before
abbrev pub closing : ℕ → Bool → ℕ → List ℕ → Option ℕ
closing quote after at [] = None
closing quote true at (b ∷ bs) = if is_escape b then closing quote false (at + 1) bs else None
closing quote false at (b ∷ bs) = if b == quote then Some at else closing quote (b == backslash) (at + 1) bs

abbrev pub if_text : List ℕ → ℕ → Option ℕ
if_text behind at = if is_utf8 (take at behind) then Some (at + 2) else None

-- the length of a quoted text, of what stands behind its first quote
unfoldable pub quoted_len : ℕ → List ℕ → Option ℕ
quoted_len quote behind = option_and_then (if_text behind) (closing quote false 0 behind)

abbrev pub is_point : ℕ → Bool
is_point b = b == 46

abbrev pub between : ℕ → ℕ → ℕ → Bool
between least most n = nat_le least n && nat_le n most

-- behind so many digits and a point
abbrev pub decimal_of : ℕ → List ℕ → Option Piece
decimal_of digits behind =
    let fraction = prefix_len is_digit behind in
    if between 1 12 digits && nat_lt 0 fraction && not (begins goes_on (drop fraction behind)) then Some (token kind.Decimal (digits + 1 + fraction)) else None

-- behind so many digits and no point
abbrev pub whole_of : ℕ → List ℕ → Option Piece
whole_of digits behind = if between 1 18 digits && not (begins goes_on behind) then Some (token kind.Whole digits) else None

abbrev pub number_of : ℕ → List ℕ → Option Piece
number_of digits behind = if begins is_point behind then decimal_of digits (drop 1 behind) else whole_of digits behind

-- the number without a sign at the front
unfoldable pub unsigned_at : List ℕ → Option Piece
unsigned_at text = let digits = prefix_len is_digit text in number_of digits (drop digits text)

abbrev pub one_longer : Piece → Piece
one_longer piece = record piece { len = piece.len + 1 }

-- the number at the front
unfoldable pub number_at : List ℕ → Option Piece
number_at text = if begins (λ b. b == 45) text then option_map one_longer (unsigned_at (drop 1 text)) else unsigned_at text

-- the longest sign at the front
unfoldable pub sign_at : List ℕ → Option Sign
sign_at text = find (λ s. starts_with nat_eq text (sign_text s)) SIGNS

abbrev pub sign_piece : Sign → Piece
sign_piece s = token kind.Sign (length (sign_text s))

-- the piece at the front, by its first byte
unfoldable pub piece_at : List ℕ → Option Piece
piece_at [] = None
piece_at (b ∷ bs) =
    if is_blank_byte b then Some (blank 1)
    else if b == 47 then option_map blank (comment_len (b ∷ bs))
    else if is_word_start b then Some (token kind.Word (word_len (b ∷ bs)))
    else if is_quote b then option_map (token kind.Quoted) (quoted_len b bs)
    else if is_digit b || (b == 45) then number_at (b ∷ bs)
    else option_map sign_piece (sign_at (b ∷ bs))

abbrev pub is_quoted_kind : Option TokenKind → Bool
is_quoted_kind (Some kind.Quoted) = true
is_quoted_kind _ = false

-- the piece is a quoted text of this length
abbrev pub is_quoted_of : ℕ → Option Piece → Bool
is_quoted_of n None = false
is_quoted_of n (Some piece) = (piece.len == n) && is_quoted_kind piece.kind
