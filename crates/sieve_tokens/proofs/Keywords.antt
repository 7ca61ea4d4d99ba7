-- Keywords and their texts.
use Rattle.std.proofs.Common.{◌≡◌, Some, refl}
use Rattle.std.specs.Str.{bytes_eq}
use Rattle.std.proofs.lemmas.Slice.Eq.{bytes_eq-Decides}
use Rattle.sieve_tokens.specs.Laws.{KeywordsHaveTheirTexts}
use Rattle.sieve_tokens.specs.Word.{keyword_of, keyword_text}
use Rattle.sieve_tokens.specs.declared.word.TheConstants.{KEYWORDS}
use Rattle.sieve_tokens.specs.declared.word.Keyword.{Keyword}
use Rattle.sieve_tokens.specs.declared.word.Keyword.TheVariants as word
use Rattle.sieve_tokens.proofs.Finds.{found_passes}

listed : (k : Keyword) → keyword_of (keyword_text k) ≡ Some k
listed word.If = refl
listed word.Elif = refl
listed word.Else = refl
listed word.Keep = refl
listed word.Drop = refl
listed word.Path = refl
listed word.Add = refl
listed word.Force = refl
listed word.Update = refl
listed word.Remove = refl
listed word.True = refl
listed word.False = refl

pub keywords_have_texts : KeywordsHaveTheirTexts
keywords_have_texts = (listed, λ piece k e. (bytes_eq-Decides piece (keyword_text k)).0 (found_passes (λ u. bytes_eq piece (keyword_text u)) KEYWORDS k e))
