-- The files of a store, by number, and what they begin with.
use Rattle.std.specs.Prelude.{◌≡◌, ◌⊎◌, ◌+◌, ◌*◌, ℕ}
use Rattle.disk_journal.specs.declared.header.Heading.{Heading}
use Rattle.step_code.specs.Code.{first_format}

-- it names the generations; the last of them is in force
abbrev pub root_file : ℕ
root_file = 0

-- the lines of an output
abbrev pub out_file : ℕ → ℕ
out_file k = 16 + 2 * k

-- a state, and the steps behind it
abbrev pub generation_file : ℕ → ℕ
generation_file g = 17 + 2 * g

-- the format that is written
abbrev pub written_format : ℕ
written_format = first_format

-- what a file of steps of this format begins with, in this generation
abbrev pub heading_of : ℕ → ℕ → Heading
heading_of format generation = record { format = format; generation = generation }

-- what the root begins with: it is of the first format, whatever the formats of its generations
abbrev pub root_heading : Heading
root_heading = heading_of first_format 0

-- the root, or the file of a generation in a format that is known, and what its header says
abbrev pub IsStoreFile : ℕ → Heading → Type 0
IsStoreFile file heading =
    ((file ≡ root_file) × (heading ≡ root_heading)) ⊎ ((format : ℕ) × (g : ℕ) × (format ≡ first_format) × (file ≡ generation_file g) × (heading ≡ heading_of format g))
