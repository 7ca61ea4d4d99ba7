use Rattle.std.proofs.Common.{subst}
use Rattle.std.specs.Prelude.{option_map}
use Rattle.sieve_tree.specs.SieveView.{SieveView}
use Rattle.runtime_config.proofs.Faulty.{first_fault_is, last_sieve, later_sieve}
use Rattle.runtime_config.specs.Faults.{unknown_spot}
use Rattle.runtime_config.specs.Found.{IsSieveOf}
use Rattle.runtime_text.specs.Read.{entry_of}
use Rattle.runtime_text.specs.Runtime.{routes}
use Rattle.runtime_config.specs.declared.fault.LoadFault.TheVariants as fault
use Rattle.runtime_config.proofs.loading.sieve_for.Goals as goal

pub returns-in-Ok : goal.returns-in-Ok
returns-in-Ok c =
    let bot = entry_of c.args.at.now.bot.now in
    later_sieve _ _ _ c.with_known_paths.result c.in-Ok.ensures.0
    (last_sieve _ _ c.with_known_paths.result (subst (λ (s : SieveView). IsSieveOf (option_map (fault.Path bot.0) (unknown_spot (routes bot) s.paths)) s c.with_known_paths.result) c.in-Ok.ensures.1 c.with_known_paths.ensures))

pub returns-in-Err : goal.returns-in-Err
returns-in-Err c = first_fault_is _ _ c.in-Err.fault c.in-Err.ensures
