use Rattle.std.proofs.Common.{sym, subst}
use Rattle.std.specs.Prelude.{IsUtf8}
use Rattle.sieve_tokens.specs.Quoted.{IsQuoted}
use Rattle.sieve_reader.proofs.Cursors.{right_quoted, right_text}
use Rattle.sieve_reader.proofs.cursor.symbol_of.Goals as goal

pub returns-in-Quoted-clause-whole : goal.returns-in-Quoted-clause-whole
returns-in-Quoted-clause-whole c = subst IsQuoted (sym c.bytes_of-bytes.ensures) (right_quoted c.args.text.now c.args.token.now c.requires c.in-Quoted.is)

pub word_symbol-requires : goal.word_symbol-requires
word_symbol-requires c = subst IsUtf8 (sym c.bytes_of-bytes.ensures) (right_text c.args.text.now c.args.token.now c.requires (λ e. let a = c.in-Word.is in absurd (cc)))

pub sign_symbol-requires : goal.sign_symbol-requires
sign_symbol-requires c = subst IsUtf8 (sym c.bytes_of-bytes.ensures) (right_text c.args.text.now c.args.token.now c.requires (λ e. let a = c.in-Sign.is in absurd (cc)))
