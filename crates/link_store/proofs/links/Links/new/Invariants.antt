use Rattle.std.proofs.Common.{◌≡◌, [], replicate}
use Rattle.link_store.proofs.links.Links.new.Given as goal

abbrev pub invariant-lists : goal.invariant-lists
invariant-lists g l = l.links ≡ record { lists = replicate l._list []; spare = 0; pushed = 0 }
