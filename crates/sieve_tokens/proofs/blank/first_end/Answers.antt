use Rattle.std.proofs.Common.{sym, ◌∙◌}
use Rattle.std.proofs.lemmas.List.{take_rest}
use Rattle.sieve_tokens.proofs.Scans.{end_later}
use Rattle.sieve_tokens.proofs.blank.first_end.Goals as goal

pub bytes-preserved : goal.bytes-preserved
bytes-preserved c = c.bytes.invariant ∙ end_later c.args.text.now c.bytes.at c.bytes-test.true (rw take_rest at (sym c.if-starts_with.ensures.value))
