-- What sieves and texts are to each other.
use Rattle.std.specs.Prelude.{◌≡◌, ◌⊎◌, ℕ, List}
use Rattle.sieve_tokens.specs.Token.{AreTokens}
use Rattle.sieve_tokens.specs.declared.token.Token.{Token}
use Rattle.sieve_reader.specs.Reads.{IsRefused, Reads}
use Rattle.sieve_reader.specs.Refusal.{Cause}
use Rattle.sieve_tree.specs.SieveView.{SieveView}

-- a text writes one sieve at most
abbrev pub OneSieve : Type 0
OneSieve = (text : List ℕ) (this that : SieveView) → Reads text this → Reads text that → this ≡ that

-- the tokens of a text are refused in one way at most
abbrev pub OneRefusal : Type 0
OneRefusal = (text : List ℕ) (this that : Cause) (at other : ℕ) → IsRefused text this at → IsRefused text that other → (this ≡ that) × (at ≡ other)

-- a text that writes a sieve isn't refused
abbrev pub SieveExcludesRefusal : Type 0
SieveExcludesRefusal = (text : List ℕ) (sieve : SieveView) (why : Cause) (at : ℕ) → Reads text sieve → IsRefused text why at → ⊥

-- a text with tokens writes a sieve, or it is refused
abbrev pub SieveOrRefusal : Type 0
SieveOrRefusal = (text : List ℕ) (tokens : List Token) → AreTokens text tokens → ((sieve : SieveView) × Reads text sieve) ⊎ ((why : Cause) × (at : ℕ) × IsRefused text why at)
