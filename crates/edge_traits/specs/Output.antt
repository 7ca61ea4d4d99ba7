-- What goes to a sink through a buffer.
use Rattle.std.specs.Prelude.{◌≡◌, ℕ, List, ◌++◌}
use Rattle.edge_traits.specs.Sink.{SinkView, Took}

-- the sink has taken a front of these bytes
pub record TookFront (old new : SinkView) (whole : List ℕ) : Type 0 where
  pub front : List ℕ
  pub rest : List ℕ
  pub whole_is : whole ≡ front ++ rest
  pub took : Took old new front

-- the sink has taken all of these bytes but those that are still in the buffer
pub record Moved (old new : SinkView) (whole buffer : List ℕ) : Type 0 where
  pub front : List ℕ
  pub whole_is : whole ≡ front ++ buffer
  pub took : Took old new front
