-- Words.
use Rattle.std.specs.Prelude.{◌≡◌, ◌⊎◌, ℕ, true, List, ◌∷◌, codes, Option, find}
use Rattle.std.specs.List.{list_all}
use Rattle.std.specs.Str.{bytes_eq}
use Rattle.base_types.specs.Name.{is_name_byte}
use Rattle.sieve_tokens.specs.Bytes.{is_word_start}
use Rattle.sieve_tokens.specs.declared.word.TheConstants.{KEYWORDS}
use Rattle.sieve_tokens.specs.declared.word.Keyword.{Keyword}
use Rattle.sieve_tokens.specs.declared.word.Keyword.TheVariants as word

-- a letter or `_`, and then letters, digits, `_`, `.` and `-`
abbrev pub IsPlainWord : List ℕ → Type 0
IsPlainWord piece = (b : ℕ) × (bs : List ℕ) × (piece ≡ b ∷ bs) × (is_word_start b ≡ true) × (list_all is_name_byte bs ≡ true)

-- such a word, or `add!`
abbrev pub IsWord : List ℕ → Type 0
IsWord piece = IsPlainWord piece ⊎ (piece ≡ codes "add!")

abbrev pub keyword_text : Keyword → List ℕ
keyword_text word.If = codes "if"
keyword_text word.Elif = codes "elif"
keyword_text word.Else = codes "else"
keyword_text word.Keep = codes "keep"
keyword_text word.Drop = codes "drop"
keyword_text word.Path = codes "path"
keyword_text word.Add = codes "add"
keyword_text word.Force = codes "add!"
keyword_text word.Update = codes "update"
keyword_text word.Remove = codes "remove"
keyword_text word.True = codes "true"
keyword_text word.False = codes "false"

-- the keyword with this text
abbrev pub keyword_of : List ℕ → Option Keyword
keyword_of piece = find (λ k. bytes_eq piece (keyword_text k)) KEYWORDS
