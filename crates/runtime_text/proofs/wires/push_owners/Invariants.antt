use Rattle.std.proofs.Common.{◌≡◌, ◌++◌, drop}
use Rattle.std.specs.List.{filter_map}
use Rattle.runtime_text.specs.Read.{entries_of}
use Rattle.runtime_text.specs.Wires.{owner}
use Rattle.runtime_text.proofs.wires.push_owners.Given as goal

-- the places so far, and those of the queues that are left
abbrev pub invariant-queues : goal.invariant-queues
invariant-queues l =
    l.wires.items ++ filter_map (owner (entries_of l.bots)) (drop l.queue-index l.queues) ≡ l.fn.wires.items ++ filter_map (owner (entries_of l.bots)) l.queues
