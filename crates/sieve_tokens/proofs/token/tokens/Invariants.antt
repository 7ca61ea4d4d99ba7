use Rattle.std.proofs.Common.{◌≡◌, List, length}
use Rattle.sieve_tokens.specs.Token.{spans, Cover}
use Rattle.sieve_tokens.specs.declared.piece.Piece.{Piece}
use Rattle.sieve_tokens.proofs.token.tokens.Given as goal

abbrev pub invariant-pieces : goal.invariant-pieces
invariant-pieces l = (pieces : List Piece) × Cover pieces l.text l.rest × (l.found ≡ spans 0 pieces)

abbrev pub decreases-pieces : goal.decreases-pieces
decreases-pieces l = length l.rest
