use Rattle.std.proofs.Common.{sym, subst}
use Rattle.std.specs.Prelude.{IsUtf8}
use Rattle.std.proofs.lemmas.Bool.{false≢true}
use Rattle.sieve_tokens.proofs.Contents.{cut_text}
use Rattle.sieve_tokens.proofs.quoted.content.Goals as goal

pub unreachable-requires : goal.unreachable-requires
unreachable-requires c = false≢true (c.in-Err.ensures.succeeds (subst IsUtf8 (sym c.in_ok-bytes.ensures) (cut_text c.args.piece.now c.requires)))
