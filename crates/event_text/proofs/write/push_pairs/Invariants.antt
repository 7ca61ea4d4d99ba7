use Rattle.std.proofs.Common.{◌≡◌, ◌++◌, take, true}
use Rattle.std.specs.List.{list_all}
use Rattle.event_text.specs.Strict.{is_utf8_pair}
use Rattle.event_text.specs.Decode.{pairs_text}
use Rattle.event_text.proofs.write.push_pairs.Given as goal

abbrev pub invariant-pairs : goal.invariant-pairs
invariant-pairs l = (l.out.items ≡ l.fn.out.items ++ pairs_text (take l.pair-index l.pairs)) × (list_all is_utf8_pair (take l.pair-index l.pairs) ≡ true)
