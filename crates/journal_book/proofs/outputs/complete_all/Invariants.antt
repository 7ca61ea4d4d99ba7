use Rattle.std.proofs.Common.{◌≡◌, ◌<◌, ℕ, length, Some}
use Rattle.std.specs.List.{slice_get}
use Rattle.edge_traits.specs.Disk.{Image}
use Rattle.step_code.specs.declared.output.Output.{Output}
use Rattle.store_image.specs.Files.{out_file}
use Rattle.journal_book.specs.Outputs.{IsCompleted}
use Rattle.journal_book.specs.Running.{IsNoneOf, RunsOut}
use Rattle.journal_book.proofs.outputs.complete_all.Given as goal

abbrev pub invariant-outputs : goal.invariant-outputs
invariant-outputs g l = record {
  end : l.k-end ≡ length l.core.state.outs;
  run : RunsOut (g.D.Disk.disk l.fn.disk) (g.D.Disk.disk l.disk) l.core.state.outs (IsNoneOf l.k);
  done : (files after : Image) → (g.D.Disk.disk l.fn.disk).told ≡ Some files → (g.D.Disk.disk l.disk).told ≡ Some after
      → (j : ℕ) (out : Output) → j < l.k → slice_get l.core.state.outs j ≡ Some out → IsCompleted (g.D.Disk.disk l.disk).may_leave (out_file j) out files after;
}
