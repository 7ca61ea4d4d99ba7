-- What a book keeps between calls.
use Rattle.std.specs.Prelude.{◌≡◌, ◌⊎◌, ◌≤◌, ◌+◌, ◌*◌, ◌^◌, ℕ, List, [], ◌∷◌, ◌++◌, length, take, drop, map}
use Rattle.std.specs.List.{AllByRecursion}
use Rattle.edge_traits.specs.Disk.{Image}
use Rattle.disk_journal.specs.Journal.{JournalView, IsAtRest}
use Rattle.stored_types.specs.Code.{number}
use Rattle.step_code.specs.declared.base.Base.{Base}
use Rattle.step_code.specs.declared.output.Output.{Output}
use Rattle.step_code.specs.declared.step.Step.{Step}
use Rattle.step_code.specs.Code.{code_of_base, first_format, IsWritable, IsWritableBase}
use Rattle.step_code.specs.History.{replay}
use Rattle.step_code.specs.Rules.{last_moment, Meaning}
use Rattle.step_code.specs.Sound.{IsSound}
use Rattle.step_code.specs.Spent.{last_given, out_length}
use Rattle.store_image.specs.Files.{root_file, generation_file, heading_of, root_heading}
use Rattle.store_image.specs.Stored.{codes_of, AreRecords}
use Rattle.journal_book.specs.Staged.{greatest_limit}

-- the root's file names the generation last, the generation's file holds a state and these steps, and a crash leaves both so
pub record AreAtRest (root journal : JournalView) (may_leave : ℕ → List ℕ → Type 0) (generation : ℕ) (base : Base) (steps : List Step) (files : Image) : Type 0 where
  pub before : List ℕ
  pub given : AllByRecursion (λ n. n ≤ last_given) (before ++ generation ∷ [])
  pub root_rests : IsAtRest root may_leave (map number (before ++ generation ∷ [])) files
  pub records : List (List ℕ)
  pub journal_rests : IsAtRest journal may_leave (code_of_base first_format base ∷ records) files
  pub content : AreRecords records steps

-- the two files are those of a store and of its generation, which may be given, in a format that is known
pub record AreStoreFiles (root journal : JournalView) (format generation : ℕ) : Type 0 where
  pub root_file_is : root.file ≡ root_file
  pub root_heading_is : root.heading ≡ root_heading
  pub file_is : journal.file ≡ generation_file generation
  pub heading_is : journal.heading ≡ heading_of format generation
  pub known : format ≡ first_format
  pub given : generation ≤ last_given

-- the state is the one behind the steps, and the first of them are durable
pub record IsReplayed (m : Meaning) (base : Base) (steps : List Step) (kept : ℕ) (state : Base) : Type 0 where
  pub sound : IsSound m base
  pub writable : IsWritableBase first_format base
  pub behind : state ≡ replay m base steps
  pub latest : state.latest.0 ≤ last_moment
  pub within : kept ≤ length steps
  pub coded : AllByRecursion IsWritable (drop kept steps)

-- no journal is longer, whose steps that wait have codes of so many bytes together
abbrev pub longest_waiting : ℕ
longest_waiting = 2 ^ 29

-- the codes of the steps that wait stand in a buffer, and there is room to append them to the journal; all codes together
-- are within the limit where any waits
pub record IsPending (steps : List Step) (kept : ℕ) (pending : List ℕ) (used limit : ℕ) (journal : JournalView) : Type 0 where
  pub code : take used pending ≡ codes_of (drop kept steps)
  pub within : used ≤ length pending
  pub has_room : used ≤ journal.room
  pub bound : limit ≤ greatest_limit
  pub small : (drop kept steps ≡ []) ⊎ (length (codes_of steps) ≤ limit)
  pub long : journal.length ≤ longest_waiting + 2 * length (codes_of (take kept steps))

-- no output is longer
abbrev pub longest_output : ℕ
longest_output = 2 ^ 62 + 2 ^ 29

-- there are no more outputs than may have a number, and none is longer
pub record AreShort (outs : List Output) : Type 0 where
  pub few : length outs ≤ last_given + 1
  pub each : AllByRecursion (λ o. out_length o ≤ longest_output) outs
