use Rattle.std.proofs.Common.{◌≡◌, ◌<◌, ℕ, length, Some}
use Rattle.std.specs.List.{slice_get}
use Rattle.edge_traits.specs.Disk.{Image}
use Rattle.disk_journal.specs.Reads.{OnlyReads}
use Rattle.step_code.specs.declared.output.Output.{Output}
use Rattle.store_image.specs.Files.{out_file}
use Rattle.store_audit.specs.Sealed.{HasFront}
use Rattle.store_audit.proofs.sealed.have_sealed.Given as goal

abbrev pub invariant-outputs : goal.invariant-outputs
invariant-outputs g l = record {
  end : l.k-end ≡ length l.core.state.outs;
  reads : OnlyReads (g.D.Disk.disk l.fn.disk) (g.D.Disk.disk l.disk);
  have : (files : Image) → (g.D.Disk.disk l.fn.disk).told ≡ Some files
      → (j : ℕ) (o sealed : Output) → j < l.k → slice_get l.before.state.outs j ≡ Some o → slice_get l.core.state.outs j ≡ Some sealed → HasFront o.sealed_bytes o.lines sealed.lines (files (out_file j));
}
