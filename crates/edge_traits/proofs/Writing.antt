-- What the loop over the pieces of a write keeps.
use Rattle.std.proofs.Common.{◌≤◌, ℕ, List}
use Rattle.edge_traits.specs.Sink.{SinkView}
use Rattle.edge_traits.specs.Output.{Moved}

-- all but the rest of these bytes are written
pub record Writes (first now : SinkView) (whole rest : List ℕ) : Type 0 where
  pub moved : Moved first now whole rest
  pub count : first.faults ≤ now.faults
