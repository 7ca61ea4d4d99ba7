-- The longest prefix that holds an address.
use Rattle.std.specs.Prelude.{◌≡◌, ◌<◌, ◌≤◌, ◌⊎◌, ℕ, ◌&&◌, ◌==◌, max, Bool, List, [], ◌∷◌, Option, Some, slice_get, if◌then◌else◌}
use Rattle.std.specs.List.{position_from}
use Rattle.scalar_net.specs.declared.address.Ip.{Ip}
use Rattle.scalar_net.specs.declared.network.Network.{Network}
use Rattle.scalar_net.specs.Network.{IsInside, is_inside}

-- The row stands there and holds the address. Each row that holds it is shorter, or as long and doesn't stand before it.
pub record IsLongest (rows : List Network) (ip : Ip) (i : ℕ) : Type 0 where
  pub row : Network
  pub stands : slice_get rows i ≡ Some row
  pub holds : IsInside row ip
  pub best : (j : ℕ) (other : Network) → slice_get rows j ≡ Some other → IsInside other ip → (other.len < row.len) ⊎ ((other.len ≡ row.len) × (i ≤ j))

-- no row holds the address
abbrev pub HoldsNone : List Network → Ip → Type 0
HoldsNone rows ip = (j : ℕ) (other : Network) → slice_get rows j ≡ Some other → IsInside other ip → ⊥

-- the greatest length of the rows that hold the address, or 0
abbrev pub greatest : List Network → Ip → ℕ
greatest [] ip = 0
greatest (row ∷ rows) ip = if is_inside row ip then max row.len (greatest rows ip) else greatest rows ip

-- the row holds the address and has that length
abbrev pub is_so_long : ℕ → Ip → Network → Bool
is_so_long len ip row = is_inside row ip && (row.len == len)

-- the place of the first row that holds the address and is as long as any that does
unfoldable pub longest : List Network → Ip → Option ℕ
longest rows ip = position_from (is_so_long (greatest rows ip) ip) 0 rows
