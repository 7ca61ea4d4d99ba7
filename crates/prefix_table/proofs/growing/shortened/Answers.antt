use Rattle.std.proofs.Common.{◌-◌, ◌^◌, arith}
use Rattle.std.proofs.Math.Nat.{mul-mod_left}
use Rattle.scalar_net.specs.Family.{front_bits, width}
use Rattle.prefix_table.proofs.growing.shortened.Goals as goal

pub invariant_of-result-2-clause-within : goal.invariant_of-result-2-clause-within
invariant_of-result-2-clause-within c = omega (arith, c.requires, c.args.net.now.within)

pub invariant_of-result-2-clause-host_bits_zero : goal.invariant_of-result-2-clause-host_bits_zero
invariant_of-result-2-clause-host_bits_zero c = rw c.cut.ensures (mul-mod_left (front_bits (width c.args.net.now.ip.six - c.args.len) c.args.net.now.ip.bits) (2 ^ (width c.args.net.now.ip.six - c.args.len)))
