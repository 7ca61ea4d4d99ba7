-- A record that is written at the end of a gate file.
use Rattle.std.specs.Prelude.{◌≡◌, ◌≢◌, ◌<◌, ◌^◌, ℕ, List, [], ◌∷◌, ◌++◌, length}
use Rattle.std.specs.Int.{to_be_bytes, w64}
use Rattle.edge_traits.specs.Disk.{Only}
use Rattle.disk_journal.specs.declared.header.Heading.{Heading}
use Rattle.disk_journal.specs.GateFile.{gate_file, HaveLengths}

-- the length of a body, the body, and a closed gate
abbrev pub shut_record : List ℕ → List ℕ
shut_record body = to_be_bytes w64 (length body) ++ body ++ 0 ∷ []

-- these bytes are such a record
pub record IsRecordOf (body bytes : List ℕ) : Type 0 where
  pub short : length body < 2 ^ 64
  pub content : bytes ≡ shut_record body

-- whole records with these bodies and a last gate that isn't open, up to this offset, and a crash leaves just that
pub record IsAtEnd (heading : Heading) (bodies : List (List ℕ)) (end : ℕ) (may_leave : List ℕ → Type 0) (file : List ℕ) : Type 0 where
  pub gate : ℕ
  pub closed : gate ≢ 1
  pub lengths : HaveLengths bodies
  pub content : file ≡ gate_file heading bodies gate
  pub place : end ≡ length file
  pub durable : Only file may_leave
