use Rattle.std.proofs.Common.{◌≡◌, drop, map}
use Rattle.scalar_text.specs.Words.{taxonomy_word_in}
use Rattle.scalar_text.proofs.words.taxonomy_word_in.Given as goal

abbrev pub invariant-rows : goal.invariant-rows
invariant-rows l = taxonomy_word_in (map (λ row. (row.0.now, row.1.now)) l.rows) l.text ≡ taxonomy_word_in (map (λ row. (row.0.now, row.1.now)) (drop l.row-index l.rows)) l.text
