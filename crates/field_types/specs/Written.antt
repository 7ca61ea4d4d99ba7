-- The address that a text writes.
use Rattle.std.specs.Prelude.{◌≡◌, ℕ, Bool, List, Option, Some, None, refl}
use Rattle.scalar_net.specs.declared.address.Ip.{Ip}
use Rattle.scalar_net.specs.Address.{ip_in}
use Rattle.scalar_net.proofs.Ranges.{ip_in-fits}

-- the address of that family with that number, where a text writes one
abbrev pub ip_with : (text : List ℕ) (found : Option (Bool × ℕ)) → ip_in text ≡ found → Option Ip
ip_with text None is = None
ip_with text (Some ip) is = Some (record { six = ip.0; bits = ip.1; in_range = ip_in-fits text ip is })

-- the address that a text writes, if it writes one
unfoldable pub address_in : List ℕ → Option Ip
address_in text = ip_with text (ip_in text) refl
