-- What the calls of a disk did to its files, and what a crash may leave of them. The newest call stands first.
use Rattle.std.specs.Prelude.{◌≡◌, ◌==◌, ℕ, Bool, List, [], ◌∷◌, length, take, reverse, nat_le, if◌then◌else◌}
use Rattle.std.specs.Bool.{MatchBool}
use Rattle.std.specs.List.{list_any, take_while}
use Rattle.edge_traits.specs.Disk.{overwritten, Torn, Cut, MayFollow}
use Rattle.edge_memory.specs.declared.change.Change.{Change}
use Rattle.edge_memory.specs.declared.change.Change.TheVariants as did
use Rattle.edge_memory.specs.declared.change.Entry.{Entry}

-- what a read gives after a change
abbrev pub changed : Change → List ℕ → List ℕ
changed (did.Write at bytes) old = overwritten old at bytes.items
changed (did.FailedWrite at len) old = old
changed (did.Cut len) old = take len old
changed (did.FailedCut len) old = old
changed did.Sync old = old
changed (did.Found bytes) old = bytes.items

-- the same of one file, after a change of some file
abbrev pub content_after : ℕ → Entry → List ℕ → List ℕ
content_after file entry old = if entry.file == file then changed entry.change old else old

-- what a read of the file gives
abbrev pub content : ℕ → List Entry → List ℕ
content file [] = []
content file (entry ∷ earlier) = content_after file entry (content file earlier)

-- what a crash may leave after a change, by what a read gave before it and what a crash might have left
abbrev pub left_by : Change → List ℕ → (List ℕ → Type 0) → List ℕ → Type 0
left_by (did.Write at bytes) seen before c = MayFollow (Torn at (length bytes.items)) before c
left_by (did.FailedWrite at len) seen before c = MayFollow (Torn at len) before c
left_by (did.Cut len) seen before c = MayFollow (Cut len) before c
left_by (did.FailedCut len) seen before c = MayFollow (Cut len) before c
left_by did.Sync seen before c = c ≡ seen
left_by (did.Found bytes) seen before c = c ≡ bytes.items

-- what a crash may leave in the file
abbrev pub left : ℕ → List Entry → List ℕ → Type 0
left file [] c = c ≡ []
left file (entry ∷ earlier) c = MatchBool (entry.file == file) (left_by entry.change (content file earlier) (left file earlier) c) (left file earlier c)

-- a call has changed the file
abbrev pub has_file : ℕ → List Entry → Bool
has_file file entries = list_any (λ e. e.file == file) entries

-- what the first so many calls changed, of entries that stand oldest first
abbrev pub made : ℕ → List Entry → List Entry
made call entries = reverse (take_while (λ e. nat_le e.number call) entries)
