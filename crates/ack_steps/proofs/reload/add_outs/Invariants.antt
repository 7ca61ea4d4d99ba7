use Rattle.std.proofs.Common.{◌≡◌, ◌+◌, ◌≤◌, ◌++◌, length, take, vec_capacity}
use Rattle.ack_steps.specs.Entries.{new_outs}
use Rattle.core_state.specs.Outputs.{HaveLengths, outs_of}
use Rattle.ack_steps.proofs.reload.add_outs.Given as goal

abbrev pub invariant-bots : goal.invariant-bots
invariant-bots l =
    (outs_of l.outs.items ≡ outs_of l.fn.outs.items ++ new_outs (take l.facts-index l.fn.bots) (outs_of l.fn.outs.items))
    × (take l.count l.outs.items ≡ l.fn.outs.items)
    × (l.count ≤ length l.outs.items)
    × (length l.outs.items ≤ length l.fn.outs.items + l.facts-index)
    × (vec_capacity l.outs ≡ vec_capacity l.fn.outs)
    × (HaveLengths l.fn.outs.items → HaveLengths l.outs.items)
