-- Numbers of 64 bits.
use Rattle.std.specs.Prelude.{ℕ}

-- the greatest number of 64 bits
abbrev pub last_u64 : ℕ
last_u64 = 0xffff_ffff_ffff_ffff
