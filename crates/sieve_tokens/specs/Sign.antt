-- Signs.
use Rattle.std.specs.Prelude.{◌≡◌, ℕ, List, codes, Option, find}
use Rattle.std.specs.Str.{bytes_eq}
use Rattle.sieve_tokens.specs.declared.sign.TheConstants.{SIGNS}
use Rattle.sieve_tokens.specs.declared.sign.Sign.{Sign}
use Rattle.sieve_tokens.specs.declared.sign.Sign.TheVariants as sign

abbrev pub sign_text : Sign → List ℕ
sign_text sign.OpenBrace = codes "{"
sign_text sign.CloseBrace = codes "}"
sign_text sign.OpenParen = codes "("
sign_text sign.CloseParen = codes ")"
sign_text sign.OpenBracket = codes "["
sign_text sign.CloseBracket = codes "]"
sign_text sign.Comma = codes ","
sign_text sign.And = codes "&&"
sign_text sign.Or = codes "||"
sign_text sign.Equal = codes "=="
sign_text sign.Matches = codes "=~"
sign_text sign.Assign = codes "="
sign_text sign.Differs = codes "!="
sign_text sign.NotMatches = codes "!~"
sign_text sign.Not = codes "!"
sign_text sign.Within = codes "<<"
sign_text sign.LessOrEqual = codes "<="
sign_text sign.Less = codes "<"
sign_text sign.GreaterOrEqual = codes ">="
sign_text sign.Greater = codes ">"
sign_text sign.Exists = codes ":exists"
sign_text sign.NotExists = codes ":notexists"
sign_text sign.Contains = codes ":contains"
sign_text sign.In = codes ":in"
sign_text sign.Before = codes ":before"
sign_text sign.After = codes ":after"

-- the text of a sign
abbrev pub IsSign : List ℕ → Type 0
IsSign piece = (s : Sign) × (piece ≡ sign_text s)

-- the sign with this text
abbrev pub sign_of : List ℕ → Option Sign
sign_of piece = find (λ s. bytes_eq piece (sign_text s)) SIGNS
