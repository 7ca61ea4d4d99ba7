use Rattle.std.proofs.Common.{◌≡◌, false, drop}
use Rattle.sieve_tokens.specs.Scan.{closing}
use Rattle.sieve_tokens.proofs.quoted.closing.Given as goal

abbrev pub invariant-bytes : goal.invariant-bytes
invariant-bytes l = closing l.quote false 0 l.behind ≡ closing l.quote l.escaped l.at (drop l.at l.behind)
