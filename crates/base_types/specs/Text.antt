-- Why bytes are no text.
use Rattle.std.specs.Prelude.{ℕ, List, IsUtf8}
use Rattle.std.specs.Str.{IsValidUpTo}
use Rattle.base_types.specs.declared.text.TextFault.{TextFault}
use Rattle.base_types.specs.declared.text.TextFault.TheVariants.{Utf8, OutOfMemory}

-- the bytes are no UTF-8, and the longest prefix that is ends there; want of memory comes at any bytes
abbrev pub IsTextFaultOf : List ℕ → TextFault → Type 0
IsTextFaultOf bytes (Utf8 at) = (IsUtf8 bytes → ⊥) × IsValidUpTo bytes at
IsTextFaultOf bytes OutOfMemory = Unit {0}
