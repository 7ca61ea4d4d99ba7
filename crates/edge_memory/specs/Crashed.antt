-- One of the files that a crash may leave, by choice. The newest call stands first.
use Rattle.std.specs.Prelude.{◌==◌, ◌+◌, ◌-◌, ◌&&◌, ◌||◌, ℕ, Bool, false, List, [], ◌∷◌, ◌++◌, length, take, drop, replicate, min, nat_le, nat_lt, if◌then◌else◌}
use Rattle.edge_memory.specs.declared.choice.Choice.{Choice}
use Rattle.edge_memory.specs.declared.change.Change.{Change}
use Rattle.edge_memory.specs.declared.change.Change.TheVariants as did
use Rattle.edge_memory.specs.declared.change.Entry.{Entry}
use Rattle.edge_memory.specs.Entries.{content}

-- fillers behind it, up to this length
abbrev pub lengthened : ℕ → ℕ → List ℕ → List ℕ
lengthened end filler old = old ++ replicate (end - length old) filler

-- fillers in the place of n bytes, as far as they are there
abbrev pub filled : ℕ → ℕ → ℕ → List ℕ → List ℕ
filled at n filler old = take at old ++ replicate (min n (length old - at)) filler ++ drop (at + n) old

-- the write of n bytes may have made the file longer
abbrev pub enlarged : Choice → ℕ → ℕ → List ℕ → List ℕ
enlarged choice at n old = if choice.longest then lengthened (at + n) choice.filler old else old

-- a write of n bytes that the crash tore
abbrev pub torn : Choice → ℕ → ℕ → List ℕ → List ℕ
torn choice at n old = filled at n choice.filler (enlarged choice at n old)

-- a cut that the crash undid, or didn't
abbrev pub shortened : Choice → ℕ → List ℕ → List ℕ
shortened choice len old = if choice.longest then old else take len old

-- after a change, by what a read gave before it, and what the crash would have left
abbrev pub crashed_by : Choice → Change → List ℕ → List ℕ → List ℕ
crashed_by choice (did.Write at bytes) seen old = torn choice at (length bytes.items) old
crashed_by choice (did.FailedWrite at len) seen old = torn choice at len old
crashed_by choice (did.Cut len) seen old = shortened choice len old
crashed_by choice (did.FailedCut len) seen old = shortened choice len old
crashed_by choice did.Sync seen old = seen
crashed_by choice (did.Found bytes) seen old = bytes.items

-- the same of one file, after a change of some file
abbrev pub crashed_after : Choice → ℕ → Entry → List ℕ → List ℕ → List ℕ
crashed_after choice file entry seen old = if entry.file == file then crashed_by choice entry.change seen old else old

-- what the crash leaves where it keeps nothing
abbrev pub crashed : Choice → ℕ → List Entry → List ℕ
crashed choice file [] = []
crashed choice file (entry ∷ earlier) = crashed_after choice file entry (content file earlier) (crashed choice file earlier)

-- what the crash leaves
abbrev pub image : Choice → ℕ → List Entry → List ℕ
image choice file entries = if choice.keep then content file entries else crashed choice file entries

-- the byte at k was written since the file was durable
abbrev pub pending_by : Change → Bool → ℕ → Bool
pending_by (did.Write at bytes) before k = (nat_le at k && nat_lt k (at + length bytes.items)) || before
pending_by (did.FailedWrite at len) before k = (nat_le at k && nat_lt k (at + len)) || before
pending_by (did.Cut len) before k = before
pending_by (did.FailedCut len) before k = before
pending_by did.Sync before k = false
pending_by (did.Found bytes) before k = false

abbrev pub is_pending : ℕ → List Entry → ℕ → Bool
is_pending file [] k = false
is_pending file (entry ∷ earlier) k = if entry.file == file then pending_by entry.change (is_pending file earlier k) k else is_pending file earlier k

-- what a read gave when the file was made durable last
abbrev pub durable_by : Change → List ℕ → List ℕ → List ℕ
durable_by (did.Write at bytes) seen before = before
durable_by (did.FailedWrite at len) seen before = before
durable_by (did.Cut len) seen before = before
durable_by (did.FailedCut len) seen before = before
durable_by did.Sync seen before = seen
durable_by (did.Found bytes) seen before = bytes.items

abbrev pub durable : ℕ → List Entry → List ℕ
durable file [] = []
durable file (entry ∷ earlier) = if entry.file == file then durable_by entry.change (content file earlier) (durable file earlier) else durable file earlier
