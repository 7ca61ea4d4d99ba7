-- The parts of a text between delimiters, one after the other.
use Rattle.std.proofs.Common.{◌≡◌, ◌<◌, ◌==◌, ℕ, List, [], ◌∷◌, length, sym, ◌∙◌, arith}
use Rattle.std.specs.List.{after_first, before_first, position_or_len, slice_split}
use Rattle.std.proofs.lemmas.List.Splits.{slice_split_first, slice_split_none}
use Rattle.std.proofs.lemmas.List.Sums.{fails_before_first}

module _ (d : ℕ) (text : List ℕ) where
  -- the first part, and those behind its delimiter
  pub cut_once : (part more : List ℕ) → part ≡ before_first (λ b. b == d) text → more ≡ after_first (λ b. b == d) text → position_or_len (λ b. b == d) text < length text
      → slice_split (λ b. b == d) text ≡ part ∷ slice_split (λ b. b == d) more
  cut_once part more front behind within = slice_split_first (λ b. b == d) text 0 within ∙ (λ i. sym front i ∷ slice_split (λ b. b == d) (sym behind i))

  -- there is no delimiter
  pub not_cut : position_or_len (λ b. b == d) text ≡ length text → slice_split (λ b. b == d) text ≡ text ∷ []
  not_cut end = slice_split_none (λ b. b == d) text (λ k e inside. fails_before_first (λ b. b == d) text k e (omega (arith, end, inside)))
