use Rattle.std.proofs.Common.{◌≡◌, ◌++◌, false, drop}
use Rattle.sieve_tokens.specs.Quoted.{unescaped}
use Rattle.sieve_tokens.proofs.quoted.unescaped.Given as goal

abbrev pub invariant-bytes : goal.invariant-bytes
invariant-bytes l = unescaped false l.inner ≡ l.text.items ++ unescaped l.escaped (drop l.b-index l.inner)
