-- Output files that a renewal finds.
use Rattle.std.specs.Prelude.{◌≡◌, ℕ, List, Some, slice_get}
use Rattle.edge_traits.specs.Disk.{Image}
use Rattle.out_files.specs.Output.{lines_text}
use Rattle.step_code.specs.declared.output.Output.{Output}
use Rattle.store_image.specs.Files.{out_file}

-- the files of these outputs are all of their lines
abbrev pub AreAllLines : List Output → Image → Type 0
AreAllLines outs image = (k : ℕ) (out : Output) → slice_get outs k ≡ Some out → image (out_file k) ≡ lines_text out.lines
