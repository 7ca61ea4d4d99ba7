use Rattle.std.proofs.Common.{◌≡◌}
use Rattle.core_state.specs.Outputs.{HaveLengths, outs_of}
use Rattle.core_state.specs.Sealing.{sealed_out}
use Rattle.core_state.proofs.Halves.{half}
use Rattle.core_state.proofs.outputs.seal_all.Given as goal

abbrev pub invariant-outs : goal.invariant-outs
invariant-outs l = record {
  sealed : outs_of l.written-items ≡ half sealed_out l.written-index (outs_of l.fn.outs.items);
  lengths : HaveLengths l.written-items;
}
