use Rattle.std.proofs.Common.{◌≡◌, length}
use Rattle.command_words.specs.Words.{are_pairs}
use Rattle.command_words.specs.Asked.{is_one_of}
use Rattle.command_words.proofs.pairs.are_pairs.Given as goal

abbrev pub invariant-pairs : goal.invariant-pairs
invariant-pairs l = are_pairs (is_one_of l.names) l.words ≡ are_pairs (is_one_of l.names) l.rest

abbrev pub decreases-pairs : goal.decreases-pairs
decreases-pairs l = length l.rest
