-- What a store's files hold: a generation, the state that it begins with, and the steps behind that state.
use Rattle.std.specs.Prelude.{◌≡◌, ◌≤◌, ℕ, List, [], ◌∷◌, ◌++◌, length, map, flat_map}
use Rattle.std.specs.List.{AllByRecursion}
use Rattle.edge_traits.specs.Disk.{Image}
use Rattle.disk_journal.specs.GateFile.{HasBodies}
use Rattle.stored_types.specs.Code.{number}
use Rattle.step_code.specs.declared.base.Base.{Base}
use Rattle.step_code.specs.declared.step.Step.{Step}
use Rattle.step_code.specs.Code.{code_of_base, code_of_step, first_format, IsWritable, IsWritableBase}
use Rattle.step_code.specs.Spent.{last_given}
use Rattle.store_image.specs.Files.{root_file, generation_file, heading_of, root_heading}

-- the codes of steps, one behind the other
abbrev pub codes_of : List Step → List ℕ
codes_of steps = flat_map code_of_step steps

-- a record holds the codes of these steps, one or more
pub record IsRecord (body : List ℕ) (steps : List Step) : Type 0 where
  pub some : 1 ≤ length steps
  pub writable : AllByRecursion IsWritable steps
  pub code : body ≡ codes_of steps

-- records hold these steps, each record some of them
abbrev pub AreRecords : List (List ℕ) → List Step → Type 0
AreRecords [] steps = steps ≡ []
AreRecords (body ∷ bodies) steps = (front : List Step) × (rest : List Step) × (steps ≡ front ++ rest) × IsRecord body front × AreRecords bodies rest

-- the root names generations, and this one last
pub record NamesLast (root : List ℕ) (generation : ℕ) : Type 0 where
  pub before : List ℕ
  pub bodies : HasBodies root_heading (map number (before ++ generation ∷ [])) root
  pub given : AllByRecursion (λ n. n ≤ last_given) (before ++ generation ∷ [])

-- a generation's file holds a state, and steps behind it, in a format that is known
pub record HoldsSteps (generation : ℕ) (file : List ℕ) (base : Base) (steps : List Step) : Type 0 where
  pub format : ℕ
  pub known : format ≡ first_format
  pub records : List (List ℕ)
  pub bodies : HasBodies (heading_of format generation) (code_of_base format base ∷ records) file
  pub writable : IsWritableBase format base
  pub content : AreRecords records steps

-- what the files of a store hold
pub record IsStored (image : Image) (generation : ℕ) (base : Base) (steps : List Step) : Type 0 where
  pub named : NamesLast (image root_file) generation
  pub holds : HoldsSteps generation (image (generation_file generation)) base steps
