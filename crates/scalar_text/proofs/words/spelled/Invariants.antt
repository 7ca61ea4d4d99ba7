use Rattle.std.proofs.Common.{◌≡◌, drop, map}
use Rattle.scalar_text.specs.Words.{spelled}
use Rattle.scalar_text.proofs.words.spelled.Given as goal

abbrev pub invariant-words : goal.invariant-words
invariant-words l = spelled (map (λ row. row.now) l.words) l.text ≡ spelled (map (λ row. row.now) (drop l.word-index l.words)) l.text
