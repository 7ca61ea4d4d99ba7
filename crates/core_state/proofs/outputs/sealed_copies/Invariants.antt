use Rattle.std.proofs.Common.{◌≡◌, map, take}
use Rattle.core_state.specs.Outputs.{outs_of}
use Rattle.core_state.specs.Sealing.{HaveSmallOutputs, sealed_out}
use Rattle.core_state.proofs.outputs.sealed_copies.Given as goal

abbrev pub invariant-outs : goal.invariant-outs
invariant-outs l = record {
  list : l.list.items ≡ map sealed_out (outs_of (take l.written-index l.outs));
  small : HaveSmallOutputs (outs_of (take l.written-index l.outs));
}
