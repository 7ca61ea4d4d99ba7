use Rattle.std.proofs.Common.{sym}
use Rattle.sieve_reader.proofs.NetworksOf.{network_is_of, no_network}
use Rattle.sieve_reader.proofs.leaf.network_of.Goals as goal

pub returns-in-Ok : goal.returns-in-Ok
returns-in-Ok c = sym (network_is_of c.args.text.now c.in-Ok.net c.in-Ok.ensures.value)

pub returns-in-Err : goal.returns-in-Err
returns-in-Err c = sym (no_network c.args.text.now c.in-Err.ensures.value)
