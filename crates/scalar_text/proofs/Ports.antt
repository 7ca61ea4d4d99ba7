-- Ports.
use Rattle.std.proofs.Common.{◌≡◌, ◌<◌, ℕ, List, Some, None, arith}
use Rattle.std.proofs.lemmas.Bool.{lt-ltb, le-ltb}
use Rattle.base_types.specs.Digits.{IsDigits}
use Rattle.base_types.proofs.Numerals.{digits_in-some, digits_in-none}
use Rattle.scalar_text.specs.Number.{IsPortText, port_in}

-- the port in a text, by what its reader answers
pub port_in-none : (text : List ℕ) → ((n : ℕ) → ¬ (IsDigits 5 text n)) → None ≡ port_in text
unfolding port_in
port_in-none text none = rw (digits_in-none 5 text none)

pub port_in-past : (text : List ℕ) (n : ℕ) → IsDigits 5 text n → 65535 < n → None ≡ port_in text
unfolding port_in
port_in-past text n writes past = rw (digits_in-some 5 text n writes, le-ltb n 65536 (omega arith))

pub port_in-some : (text : List ℕ) (n : ℕ) → IsPortText text n → Some n ≡ port_in text
unfolding port_in
port_in-some text n writes = rw (digits_in-some 5 text n writes.0, lt-ltb n 65536 writes.1)
