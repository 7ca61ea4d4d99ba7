use Rattle.std.proofs.Common.{drop}
use Rattle.std.specs.List.{flat_map}
use Rattle.edge_traits.proofs.Writing.{Writes}
use Rattle.dump_store.specs.Pieces.{piece_text}
use Rattle.dump_store.proofs.export.write_pieces.Given as goal

abbrev pub invariant-pieces : goal.invariant-pieces
invariant-pieces g l = Writes (g.S.Sink.sink l.initial.out) (g.S.Sink.sink l.out) (flat_map piece_text l.pieces) (flat_map piece_text (drop l.piece-index l.pieces))
