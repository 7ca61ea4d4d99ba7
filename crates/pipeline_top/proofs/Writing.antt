-- What the loops keep.
use Rattle.std.proofs.Common.{◌≡◌, ◌≤◌, ◌+◌, ℕ, List, ◌++◌, length, drop, Some}
use Rattle.base_types.specs.Lines.{lines_of}
use Rattle.edge_traits.specs.Output.{Moved}
use Rattle.edge_traits.specs.Sink.{SinkView}
use Rattle.feed_reader.specs.Ahead.{Reading}
use Rattle.pipeline_top.specs.Convert.{conversion, conversion_from, end_of, end_from}
use Rattle.step_code.specs.Content.{longest_feed}
use Rattle.pipeline_top.specs.Line.{whole_lines}
use Rattle.pipeline_top.specs.declared.line.Place.{Place}

-- the lines of a piece before the rest are converted
pub record ConvertsPiece (first now : SinkView) (before piece : List ℕ) (start : Place) (buffer rest : List ℕ) (place : Place) : Type 0 where
  pub moved : (later : List (List ℕ)) → Moved first now (before ++ conversion_from start (lines_of piece ++ later)) (buffer ++ conversion_from place (lines_of rest ++ later))
  pub end : (later : List (List ℕ)) → end_from start (lines_of piece ++ later) ≡ end_from place (lines_of rest ++ later)
  pub count : first.faults ≤ now.faults
  pub from : start.at ≤ place.at
  pub at : place.at + length rest ≡ start.at + length piece
  pub near : place.at ≤ longest_feed
  pub number : place.number ≤ place.at + 1

-- the pieces before the reader are converted
pub record ConvertsFeed (first now : SinkView) (before : List ℕ) (start reader : Reading) (buffer : List ℕ) (place : Place) : Type 0 where
  pub moved : (content : List ℕ) → start.source.told ≡ Some content → Moved first now (before ++ conversion content) (buffer ++ conversion_from place (lines_of (drop place.at content)))
  pub end : (content : List ℕ) → start.source.told ≡ Some content → end_of content ≡ end_from place (lines_of (drop place.at content))
  pub at : reader.at ≡ place.at
  pub rule : reader.rule ≡ whole_lines
  pub near : place.at ≤ longest_feed
  pub number : place.number ≤ place.at + 1
  pub told : reader.source.told ≡ start.source.told
  pub name : reader.source.name ≡ start.source.name
  pub count : start.source.faults ≤ reader.source.faults
  pub sink_count : first.faults ≤ now.faults
