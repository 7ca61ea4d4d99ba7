use Rattle.std.proofs.Common.{take}
use Rattle.store_image.specs.Stored.{AreRecords}
use Rattle.generation_reading.proofs.values.steps_of.Given as goal

abbrev pub invariant-bodies : goal.invariant-bodies
invariant-bodies l = AreRecords (take l.body-index l.fn.bodies) l.steps
