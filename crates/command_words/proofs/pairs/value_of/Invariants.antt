use Rattle.std.proofs.Common.{◌≡◌, length}
use Rattle.command_words.specs.Words.{value_of}
use Rattle.command_words.proofs.pairs.value_of.Given as goal

abbrev pub invariant-pairs : goal.invariant-pairs
invariant-pairs l = value_of l.name l.pairs ≡ value_of l.name l.rest

abbrev pub decreases-pairs : goal.decreases-pairs
decreases-pairs l = length l.rest
