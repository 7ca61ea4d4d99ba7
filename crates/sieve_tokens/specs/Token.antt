-- The tokens of a text, and its first bad place.
use Rattle.std.specs.Prelude.{◌≡◌, ◌<◌, ◌≤◌, ◌+◌, ◌-◌, ℕ, List, [], ◌∷◌, ◌++◌, length, take, drop, Option, Some, None}
use Rattle.sieve_tokens.specs.Piece.{IsOf, Stands}
use Rattle.sieve_tokens.specs.declared.piece.Piece.{Piece}
use Rattle.sieve_tokens.specs.declared.token.Token.{Token}
use Rattle.sieve_tokens.specs.declared.token.TokenFault.{TokenFault}
use Rattle.sieve_tokens.specs.declared.token.TokenFault.TheVariants as fault
use Rattle.sieve_tokens.specs.declared.token.TokenKind.{TokenKind}

-- the pieces stand one behind the other from the front of the text on, and these bytes follow the last
abbrev pub Cover : List Piece → List ℕ → List ℕ → Type 0
Cover [] text rest = text ≡ rest
Cover (piece ∷ pieces) text rest = (behind : List ℕ) × Stands piece text behind × Cover pieces behind rest

abbrev pub spanned : Option TokenKind → ℕ → ℕ → List Token
spanned None from upto = []
spanned (Some kind) from upto = record { kind = kind; from = from; upto = upto } ∷ []

-- the tokens among pieces of which the first stands at this offset
abbrev pub spans : ℕ → List Piece → List Token
spans at [] = []
spans at (piece ∷ pieces) = spanned piece.kind at (at + piece.len) ++ spans (at + piece.len) pieces

-- the text is made of pieces, and these are the tokens among them
abbrev pub AreTokens : List ℕ → List Token → Type 0
AreTokens text tokens = (pieces : List Piece) × Cover pieces text [] × (tokens ≡ spans 0 pieces)

-- no piece stands at this offset, where pieces lead to
abbrev pub IsBadAt : List ℕ → ℕ → Type 0
IsBadAt text at = (pieces : List Piece) × (rest : List ℕ) × Cover pieces text rest × (at + length rest ≡ length text) × (0 < length rest)
    × ((piece : Piece) (behind : List ℕ) → Stands piece rest behind → ⊥)

-- why a text has no tokens; want of memory comes at any text
abbrev pub IsTokenFault : List ℕ → TokenFault → Type 0
IsTokenFault text (fault.Bad at) = IsBadAt text at
IsTokenFault text fault.OutOfMemory = Unit {0}

-- the bytes of a token, and those behind it
abbrev pub bytes_of : List ℕ → Token → List ℕ
bytes_of text token = take (token.upto - token.from) (drop token.from text)

-- a token's bytes are of its kind, with what follows them
abbrev pub HasItsKind : List ℕ → Token → Type 0
HasItsKind text token = IsOf (Some token.kind) (bytes_of text token) (drop token.upto text)

-- each token stands behind the one before it, from this offset on, and ends in the text
abbrev pub Rise : ℕ → ℕ → List Token → Type 0
Rise at end [] = at ≤ end
Rise at end (token ∷ tokens) = (at ≤ token.from) × (token.from < token.upto) × Rise token.upto end tokens
