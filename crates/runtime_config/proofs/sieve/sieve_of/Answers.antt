use Rattle.runtime_text.specs.Read.{entry_of}
use Rattle.runtime_config.proofs.Sieved.{of_read, of_refused}
use Rattle.runtime_config.proofs.sieve.sieve_of.Goals as goal

pub returns-in-Ok : goal.returns-in-Ok
returns-in-Ok c = of_read (entry_of c.args.bot.now).0 c.args.text.now c.in-Ok.sieve c.in-Ok.ensures

pub returns-in-Err : goal.returns-in-Err
returns-in-Err c = of_refused (entry_of c.args.bot.now).0 c.args.text.now c.in-Err.why c.fault_with.result c.fault_with.ensures c.in-Err.ensures
