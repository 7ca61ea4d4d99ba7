use Rattle.std.proofs.Common.{◌≡◌, map, take}
use Rattle.module_settings.proofs.texts.copies_of.Given as goal

abbrev pub invariant-parts : goal.invariant-parts
invariant-parts l = l.texts.items ≡ map (λ part. part.now) (take l.part-index l.parts)
