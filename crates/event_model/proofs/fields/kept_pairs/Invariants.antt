use Rattle.std.proofs.Common.{◌≡◌, take, filter}
use Rattle.event_model.specs.Edits.{is_kept}
use Rattle.event_model.proofs.fields.kept_pairs.Given as goal

abbrev pub invariant-pairs : goal.invariant-pairs
invariant-pairs l = l.kept.items ≡ filter (λ pair. is_kept l.keys l.keep pair.0) (take l.pair-index l.pairs)
