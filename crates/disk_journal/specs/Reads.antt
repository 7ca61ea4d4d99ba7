-- What reading a gate file finds, and what it leaves as it is.
use Rattle.std.specs.Prelude.{◌≡◌, ◌≢◌, ◌⊎◌, ◌<◌, ◌≤◌, ◌^◌, ℕ, Bool, true, false, List, ◌∷◌, ◌++◌, length, drop, ⊤}
use Rattle.std.specs.Int.{to_be_bytes, w64}
use Rattle.edge_traits.specs.Disk.{DiskView, Image, IsImage, Adds}
use Rattle.disk_journal.specs.declared.header.Heading.{Heading}
use Rattle.disk_journal.specs.GateFile.{header, open_record, open_records, HaveLengths, BeginsWithRecord}

-- the disk only read: nothing changed, and a crash leaves what it might have left before
pub record OnlyReads (old new : DiskView) : Type 0 where
  pub told : new.told ≡ old.told
  pub crash : Adds old new (λ _. ⊤)
  pub later : old.moment ≤ new.moment
  pub nothing_else : (t : ℕ) (image : Image) → t ≤ old.moment → new.left_since t image → old.left_since t image ⊎ IsImage old.may_leave image
  pub count : old.faults ≤ new.faults

-- the file has a header and whole records of these bodies up to the offset, and goes on with the rest
pub record IsReadTo (heading : Heading) (bodies : List (List ℕ)) (at : ℕ) (rest file : List ℕ) : Type 0 where
  pub lengths : HaveLengths bodies
  pub content : file ≡ (header heading ++ open_records bodies) ++ rest
  pub place : at ≡ length (header heading ++ open_records bodies)

-- these bytes begin with an open gate, and not with a whole record and a gate
pub record IsCutShort (rest : List ℕ) : Type 0 where
  pub behind : List ℕ
  pub opened : rest ≡ 1 ∷ behind
  pub cut : BeginsWithRecord (1 ∷ behind) → ⊥

-- these bytes begin with a gate that isn't open
pub record IsClosed (rest : List ℕ) : Type 0 where
  pub gate : ℕ
  pub behind : List ℕ
  pub closed : gate ≢ 1
  pub content : rest ≡ gate ∷ behind

-- these bytes begin with an open gate, the length of this body, and the body, and a gate at least stands behind it
pub record BeginsWithBody (rest body : List ℕ) : Type 0 where
  pub behind : List ℕ
  pub small : length body < 2 ^ 64
  pub content : rest ≡ open_record body ++ behind
  pub ends : 0 < length behind

-- these bytes begin with an open gate and a length, and so many bytes and a gate stand behind them
pub record IsOpen (rest : List ℕ) (size : ℕ) : Type 0 where
  pub behind : List ℕ
  pub content : rest ≡ 1 ∷ to_be_bytes w64 size ++ behind
  pub fits : size < length behind

-- the file is read up to a gate at this offset, behind which stands no whole record: it isn't open, or the record is cut
pub record IsReadOf (heading : Heading) (bodies : List (List ℕ)) (at : ℕ) (is_cut : Bool) (file : List ℕ) : Type 0 where
  pub to : IsReadTo heading bodies at (drop at file) file
  pub closed : is_cut ≡ false → IsClosed (drop at file)
  pub cut : is_cut ≡ true → IsCutShort (drop at file)
