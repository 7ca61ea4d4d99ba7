use Rattle.std.proofs.Common.{◌≡◌, drop}
use Rattle.sieve_tokens.specs.Scan.{first_end}
use Rattle.sieve_tokens.proofs.blank.first_end.Given as goal

abbrev pub invariant-bytes : goal.invariant-bytes
invariant-bytes l = first_end 0 l.text ≡ first_end l.at (drop l.at l.text)
