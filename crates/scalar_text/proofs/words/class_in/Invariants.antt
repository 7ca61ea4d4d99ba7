use Rattle.std.proofs.Common.{◌≡◌, drop, map}
use Rattle.scalar_text.specs.Words.{class_in}
use Rattle.scalar_text.proofs.words.class_in.Given as goal

abbrev pub invariant-rows : goal.invariant-rows
invariant-rows l = class_in (map (λ row. (row.0.now, row.1.now)) l.rows) l.text ≡ class_in (map (λ row. (row.0.now, row.1.now)) (drop l.row-index l.rows)) l.text
