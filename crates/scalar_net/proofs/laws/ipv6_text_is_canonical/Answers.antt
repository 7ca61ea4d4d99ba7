use Rattle.std.proofs.Common.{Bool, sym, subst}
use Rattle.scalar_net.specs.Address.{groups, text_of_bits}
use Rattle.scalar_net.specs.Canonical.{IsCanonicalText}
use Rattle.scalar_net.proofs.Runs.{IsCanonicalText-hex_groups_text}
use Rattle.scalar_net.proofs.laws.ipv6_text_is_canonical.Goals as goal

pub returns : goal.returns
returns c family =
    let bits = c.args.ip.now.bits in
    subst (λ (six : Bool). IsCanonicalText (groups bits) (text_of_bits six bits)) (sym family) (IsCanonicalText-hex_groups_text (groups bits))
