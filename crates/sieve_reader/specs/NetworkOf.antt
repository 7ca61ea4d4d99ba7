-- Networks by their parts.
use Rattle.std.specs.Prelude.{◌≡◌, ◌<◌, ◌≤◌, refl, ℕ, ◌-◌, ◌%◌, ◌^◌, ◌==◌, Bool, true, nat_lt, nat_le, Option, Some, None}
use Rattle.std.proofs.lemmas.Bool.{eqb-true, leb-true, ltb-true}
use Rattle.scalar_net.specs.Family.{width}
use Rattle.scalar_net.specs.declared.network.Network.{Network}

-- with proofs of what these tests say
abbrev pub network_by : (six : Bool) (bits len : ℕ) (small within zero_bits : Bool) → (small ≡ true → bits < 2 ^ width six) → (within ≡ true → len ≤ width six) → (zero_bits ≡ true → bits % 2 ^ (width six - len) ≡ 0) → Option Network
network_by six bits len true true true is_small is_within are_zero =
    Some (record { ip = record { six = six; bits = bits; in_range = is_small refl }; len = len; within = is_within refl; host_bits_zero = are_zero refl })
network_by six bits len _ _ _ is_small is_within are_zero = None

-- the network with that family, that number and that length, if there is one
abbrev pub network_with : Bool → ℕ → ℕ → Option Network
network_with six bits len =
    network_by six bits len (nat_lt bits (2 ^ width six)) (nat_le len (width six)) (bits % 2 ^ (width six - len) == 0)
    (ltb-true bits (2 ^ width six)) (leb-true len (width six)) (eqb-true (bits % 2 ^ (width six - len)) 0)
