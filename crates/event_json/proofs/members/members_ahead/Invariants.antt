use Rattle.std.proofs.Common.{◌≡◌, ◌≤◌, ℕ, length}
use Rattle.json.specs.Json.{members, parse_map, value}
use Rattle.json.proofs.Trees.{members_before}
use Rattle.event_json.proofs.members.members_ahead.Given as goal

-- what is read of all tokens is the members that are there and what is read of those that are left, in enough turns
abbrev pub invariant-members : goal.invariant-members
invariant-members l =
    (turns : ℕ) × (length l.reader ≤ turns)
    × (members (value 125) (length l.initial.reader) l.initial.reader ≡ parse_map (members_before l.found.items) (members (value 125) turns l.reader))

abbrev pub decreases-members : goal.decreases-members
decreases-members l = length l.reader
