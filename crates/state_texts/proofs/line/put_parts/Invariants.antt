use Rattle.std.proofs.Common.{◌≡◌, ◌∷◌, ◌++◌, take}
use Rattle.std.specs.List.{flat_map}
use Rattle.state_texts.specs.Parts.{part_text}
use Rattle.state_texts.proofs.line.put_parts.Given as goal

abbrev pub invariant-parts : goal.invariant-parts
invariant-parts l = l.text ≡ l.fn.text ++ flat_map (λ part. 32 ∷ part_text part) (take l.part-index l.parts)
