use Rattle.std.proofs.Common.{◌≡◌, take}
use Rattle.event_model.proofs.fields.copied_pairs.Given as goal

abbrev pub invariant-pairs : goal.invariant-pairs
invariant-pairs l = l.copied.items ≡ take l.pair-index l.pairs
