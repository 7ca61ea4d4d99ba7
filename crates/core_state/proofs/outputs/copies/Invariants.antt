use Rattle.std.proofs.Common.{◌≡◌, take}
use Rattle.core_state.specs.Outputs.{outs_of}
use Rattle.core_state.proofs.outputs.copies.Given as goal

abbrev pub invariant-outs : goal.invariant-outs
invariant-outs l = l.list.items ≡ outs_of (take l.written-index l.outs)
