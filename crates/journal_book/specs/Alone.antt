-- What a call leaves of the files that it has nothing to do with.
use Rattle.std.specs.Prelude.{◌≡◌, ◌≢◌, ◌⊎◌, ◌<◌, ℕ, length, Option, Some}
use Rattle.edge_traits.specs.Disk.{Adds, DiskView, Image, Leaves}
use Rattle.store_image.specs.Files.{root_file, out_file, generation_file}
use Rattle.store_image.specs.Stored.{NamesLast}

-- what is told afterwards is the same in the files that rest
abbrev pub ChangesBut : (ℕ → Type 0) → Image → Option Image → Type 0
ChangesBut rests files now = (after : Image) × (now ≡ Some after) × ((other : ℕ) → rests other → after other ≡ files other)

-- these files are left alone: what they are told to hold is what it was, and a crash behind the call, or at any moment of it,
-- leaves in them what it might have left before
pub record LeavesAlone (old new : DiskView) (rests : ℕ → Type 0) : Type 0 where
  pub told : (files : Image) → old.told ≡ Some files → ChangesBut rests files new.told
  pub now : Adds old new rests
  pub any_moment : Leaves old new (λ image. (other : ℕ) → rests other → old.may_leave other (image other))

-- no output's file
abbrev pub IsNoOut : ℕ → Type 0
IsNoOut file = (k : ℕ) → file ≢ out_file k

-- neither the root nor the generation that it names last
abbrev pub IsBeside : Image → ℕ → Type 0
IsBeside files file = (file ≢ root_file) × ((generation : ℕ) → NamesLast (files root_file) generation → file ≢ generation_file generation)

-- neither this generation's file nor an output's
abbrev pub IsApart : ℕ → ℕ → Type 0
IsApart generation file = (file ≢ generation_file generation) × IsNoOut file

-- where there is a store, any file; else neither the root nor the first generation's file
abbrev pub IsBesideNew : Image → ℕ → Type 0
IsBesideNew files file = (0 < length (files root_file)) ⊎ ((file ≢ root_file) × (file ≢ generation_file 0))
