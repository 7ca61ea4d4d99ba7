-- Bytes as texts in base64.
use Rattle.std.specs.Prelude.{ℕ, List, Option}
use Rattle.std.specs.Result.{result_ok}
use Rattle.base64.specs.Engines.{standard}
use Rattle.base64.specs.GeneralPurpose.{encode_of, decode_of}

-- the bytes that a text is the base64 of, with its padding and nothing else (RFC 4648, 4)
abbrev pub raw_of : List ℕ → Option (List ℕ)
raw_of text = result_ok (decode_of standard text)

-- the base64 of bytes
abbrev pub raw_text : List ℕ → List ℕ
raw_text bytes = encode_of standard bytes
