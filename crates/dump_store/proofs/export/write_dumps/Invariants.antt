use Rattle.std.proofs.Common.{drop}
use Rattle.std.specs.List.{flat_map}
use Rattle.edge_traits.proofs.Writing.{Writes}
use Rattle.dump_store.specs.Export.{dump_line}
use Rattle.dump_store.proofs.export.write_dumps.Given as goal

abbrev pub invariant-dumps : goal.invariant-dumps
invariant-dumps g l = Writes (g.S.Sink.sink l.initial.out) (g.S.Sink.sink l.out) (flat_map dump_line l.dumps) (flat_map dump_line (drop l.dump-index l.dumps))
