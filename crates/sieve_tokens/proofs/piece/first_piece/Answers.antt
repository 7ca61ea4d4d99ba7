use Rattle.sieve_tokens.proofs.Pieces.{stands_or_none}
use Rattle.sieve_tokens.proofs.piece.first_piece.Goals as goal

pub returns : goal.returns
returns c = stands_or_none c.args.text.now c.piece_at.result c.piece_at.ensures
