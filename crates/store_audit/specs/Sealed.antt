-- Lines of outputs that are sealed, and where they stand.
use Rattle.std.specs.Prelude.{◌≡◌, ℕ, List, ◌++◌, length, take, drop, slice_get, Some}
use Rattle.edge_traits.specs.Disk.{Image}
use Rattle.out_files.specs.Output.{lines_text}
use Rattle.step_code.specs.declared.output.Output.{Output}
use Rattle.store_image.specs.Files.{out_file}

-- this text stands at this offset of a file
abbrev pub StandsAt : (text : List ℕ) (at : ℕ) (file : List ℕ) → Type 0
StandsAt text at file = take (length text) (drop at file) ≡ text

-- lines end with these, and those in front of them stand in a file, the first one at this offset
pub record HasFront (at : ℕ) (lines last : List (List ℕ)) (file : List ℕ) : Type 0 where
  pub front : List (List ℕ)
  pub splits : lines ≡ front ++ last
  pub stands : StandsAt (lines_text front) at file

-- so it is with the lines of each output, those that it still has, and its file
abbrev pub AllHaveFronts : (before now : List Output) → Image → Type 0
AllHaveFronts before now image =
    (k : ℕ) (o sealed : Output) → slice_get before k ≡ Some o → slice_get now k ≡ Some sealed → HasFront o.sealed_bytes o.lines sealed.lines (image (out_file k))
