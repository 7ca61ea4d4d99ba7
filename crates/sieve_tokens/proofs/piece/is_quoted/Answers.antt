use Rattle.std.proofs.Common.{◌∙◌, ap, sym, length}
use Rattle.sieve_tokens.specs.Scan.{is_quoted_of}
use Rattle.sieve_tokens.proofs.Pieces.{alone_quoted, quoted_alone}
use Rattle.sieve_tokens.proofs.piece.is_quoted.Goals as goal

pub returns : goal.returns
returns c = (
  (λ is. alone_quoted c.args.bytes.now c.piece_at.result c.piece_at.ensures (sym c.is_quoted_of.ensures ∙ is)),
  (λ quoted. c.is_quoted_of.ensures ∙ (ap (is_quoted_of (length c.args.bytes.now)) c.piece_at.ensures ∙ quoted_alone c.args.bytes.now quoted)),
)
