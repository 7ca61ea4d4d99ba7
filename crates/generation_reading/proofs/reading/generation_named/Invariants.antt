use Rattle.std.proofs.Common.{take}
use Rattle.generation_reading.proofs.Bodies.{HaveNamed}
use Rattle.generation_reading.proofs.reading.generation_named.Given as goal

abbrev pub invariant-bodies : goal.invariant-bodies
invariant-bodies l = HaveNamed (take l.body-index l.fn.bodies) l.last l.at
