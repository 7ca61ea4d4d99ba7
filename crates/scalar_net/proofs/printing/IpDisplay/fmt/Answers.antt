use Rattle.scalar_net.proofs.Addresses.{ipv4_text-of_bits, hex_groups_text-of_bits}
use Rattle.scalar_net.proofs.printing.IpDisplay.fmt.Goals as goal

pub returns-then-self-clause-writes : goal.returns-then-self-clause-writes
returns-then-self-clause-writes g c = λ plain ok.
    let text = hex_groups_text-of_bits _ _ _ c.from_bits.ensures c.hex_groups.ensures in
    rw (c.if-self.true, ← text) (c.fmt.ensures.writes plain ok)

pub returns-else-self-clause-writes : goal.returns-else-self-clause-writes
returns-else-self-clause-writes g c = λ plain ok.
    let text = ipv4_text-of_bits _ _ c.from_bits-else-self.ensures in
    rw (c.if-self.false, ← text) (c.fmt-else-self.ensures.writes plain ok)
