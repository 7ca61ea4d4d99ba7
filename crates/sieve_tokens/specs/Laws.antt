-- What tokens and bad places are to each other.
use Rattle.std.specs.Prelude.{◌≡◌, ℕ, List, length, Some, All}
use Rattle.sieve_tokens.specs.Sign.{sign_of, sign_text}
use Rattle.sieve_tokens.specs.Word.{keyword_of, keyword_text}
use Rattle.sieve_tokens.specs.declared.sign.Sign.{Sign}
use Rattle.sieve_tokens.specs.declared.word.Keyword.{Keyword}
use Rattle.sieve_tokens.specs.Token.{AreTokens, HasItsKind, IsBadAt, Rise}
use Rattle.sieve_tokens.specs.declared.token.Token.{Token}

-- a text has one list of tokens
abbrev pub TokensAreOne : Type 0
TokensAreOne = (text : List ℕ) (these those : List Token) → AreTokens text these → AreTokens text those → these ≡ those

-- a text with tokens has no bad place
abbrev pub TokensOrBadPlace : Type 0
TokensOrBadPlace = (text : List ℕ) (tokens : List Token) (at : ℕ) → AreTokens text tokens → IsBadAt text at → ⊥

-- a text has at most one bad place
abbrev pub BadPlaceIsOne : Type 0
BadPlaceIsOne = (text : List ℕ) (this that : ℕ) → IsBadAt text this → IsBadAt text that → this ≡ that

-- the tokens stand one behind the other, and none is empty
abbrev pub SpansRise : Type 0
SpansRise = (text : List ℕ) (tokens : List Token) → AreTokens text tokens → Rise 0 (length text) tokens

-- each token's bytes are of its kind
abbrev pub TokensHaveTheirKinds : Type 0
TokensHaveTheirKinds = (text : List ℕ) (tokens : List Token) → AreTokens text tokens → All (HasItsKind text) tokens

-- the sign that is found has that text, and each sign is found by its own
abbrev pub SignsHaveTheirTexts : Type 0
SignsHaveTheirTexts = ((s : Sign) → sign_of (sign_text s) ≡ Some s) × ((piece : List ℕ) (s : Sign) → sign_of piece ≡ Some s → piece ≡ sign_text s)

-- the keyword that is found has that text, and each keyword is found by its own
abbrev pub KeywordsHaveTheirTexts : Type 0
KeywordsHaveTheirTexts = ((k : Keyword) → keyword_of (keyword_text k) ≡ Some k) × ((piece : List ℕ) (k : Keyword) → keyword_of piece ≡ Some k → piece ≡ keyword_text k)
