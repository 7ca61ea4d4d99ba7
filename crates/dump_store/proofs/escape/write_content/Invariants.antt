use Rattle.std.proofs.Common.{length}
use Rattle.std.specs.List.{flat_map}
use Rattle.edge_traits.proofs.Writing.{Writes}
use Rattle.base_types.specs.JsonText.{escaped}
use Rattle.dump_store.proofs.escape.write_content.Given as goal

abbrev pub invariant-runs : goal.invariant-runs
invariant-runs g l = Writes (g.S.Sink.sink l.initial.out) (g.S.Sink.sink l.out) (flat_map escaped l.text) (flat_map escaped l.rest)

abbrev pub decreases-runs : goal.decreases-runs
decreases-runs g l = length l.rest
