-- Gate files: a header, then records, each behind a gate byte that is opened by a write of its own.
use Rattle.std.specs.Prelude.{◌≡◌, ◌≢◌, ◌⊎◌, ◌<◌, ◌^◌, ℕ, List, [], ◌∷◌, ◌++◌, length, take, flat_map, codes, Option, Some, None}
use Rattle.std.specs.Int.{to_be_bytes, w32, w64}
use Rattle.std.specs.List.{AllByRecursion}
use Rattle.disk_journal.specs.declared.header.Heading.{Heading}

-- four letters, the number of the format, and the file's generation
abbrev pub header : Heading → List ℕ
header heading = codes "IMQJ" ++ to_be_bytes w32 heading.format ++ to_be_bytes w64 heading.generation

-- how many bytes a header takes
abbrev pub header_length : ℕ
header_length = 16

-- how many bytes a record takes besides its body: its length, and a gate
abbrev pub frame_length : ℕ
frame_length = 9

-- no journal grows further
abbrev pub longest_journal : ℕ
longest_journal = 2 ^ 62

-- an open gate, the length of the body, and the body
abbrev pub open_record : List ℕ → List ℕ
open_record body = 1 ∷ to_be_bytes w64 (length body) ++ body

abbrev pub open_records : List (List ℕ) → List ℕ
open_records bodies = flat_map open_record bodies

-- the header, these bodies behind open gates, and a last gate
abbrev pub gate_file : Heading → List (List ℕ) → ℕ → List ℕ
gate_file heading bodies gate = header heading ++ open_records bodies ++ gate ∷ []

-- the lengths of the bodies can be written
abbrev pub HaveLengths : List (List ℕ) → Type 0
HaveLengths bodies = AllByRecursion (λ body. length body < 2 ^ 64) bodies

-- the file has these bodies: those up to the first gate that isn't open, whatever stands behind that gate
pub record HasBodies (heading : Heading) (bodies : List (List ℕ)) (file : List ℕ) : Type 0 where
  pub gate : ℕ
  pub behind : List ℕ
  pub closed : gate ≢ 1
  pub lengths : HaveLengths bodies
  pub content : file ≡ gate_file heading bodies gate ++ behind

-- these bytes begin with a whole record and a gate of any kind behind it
pub record BeginsWithRecord (bytes : List ℕ) : Type 0 where
  pub body : List ℕ
  pub gate : ℕ
  pub behind : List ℕ
  pub lengths : length body < 2 ^ 64
  pub content : bytes ≡ open_record body ++ gate ∷ behind

-- behind whole records an open gate stands at this offset, and no whole record and gate begin there
pub record IsCutAt (heading : Heading) (file : List ℕ) (at : ℕ) : Type 0 where
  pub bodies : List (List ℕ)
  pub behind : List ℕ
  pub lengths : HaveLengths bodies
  pub content : file ≡ header heading ++ open_records bodies ++ 1 ∷ behind
  pub place : at ≡ length (header heading ++ open_records bodies)
  pub cut : BeginsWithRecord (1 ∷ behind) → ⊥

-- the file is no gate file, and shows it at this offset: its header is another, it ends with its header, or a record
-- behind an open gate isn't whole
abbrev pub IsDamagedAt : Heading → List ℕ → ℕ → Type 0
IsDamagedAt heading file at =
    ((at ≡ 0) × (take header_length file ≢ header heading)) ⊎ ((at ≡ header_length) × (file ≡ header heading)) ⊎ IsCutAt heading file at

-- the file's header is another, or it ends with its header
abbrev pub IsHeadless : Heading → List ℕ → ℕ → Type 0
IsHeadless heading file at = ((at ≡ 0) × (take header_length file ≢ header heading)) ⊎ ((at ≡ header_length) × (file ≡ header heading))

-- the file has whole records with these bodies, and behind them a gate that isn't open, or at this offset one that is and that no
-- whole record and gate are behind
abbrev pub HasRecords : Heading → List (List ℕ) → Option ℕ → List ℕ → Type 0
HasRecords heading bodies None file = HasBodies heading bodies file
HasRecords heading bodies (Some at) file = (cut : IsCutAt heading file at) × (cut.bodies ≡ bodies)

-- a crash left the old bodies, or these and one more
abbrev pub HasOldOrNew : Heading → List (List ℕ) → List ℕ → List ℕ → Type 0
HasOldOrNew heading bodies body file = HasBodies heading bodies file ⊎ HasBodies heading (bodies ++ body ∷ []) file

-- two files have the same bodies
pub record HaveSameBodies (heading : Heading) (a b : List ℕ) : Type 0 where
  pub bodies : List (List ℕ)
  pub first : HasBodies heading bodies a
  pub second : HasBodies heading bodies b
