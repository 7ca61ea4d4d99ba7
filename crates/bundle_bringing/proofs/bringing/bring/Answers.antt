use Rattle.std.proofs.Common.{Err, ap}
use Rattle.std.specs.Result.{result_err}
use Rattle.std.proofs.lemmas.Option.{same_Some}
use Rattle.bundle_bringing.proofs.Bundles.{lacks_no_file}
use Rattle.bundle_bringing.specs.declared.bringing.Unbrought.TheVariants as unbrought
use Rattle.runtime_config.specs.declared.fault.LoadFault.TheVariants as fault
use Rattle.bundle_bringing.proofs.bringing.bring.Goals as goal

pub returns-in-Err-clause-complete : goal.returns-in-Err-clause-complete
returns-in-Err-clause-complete g c = λ bot is.
    let why = same_Some c.in-Err.why (unbrought.Config (fault.File bot)) (ap result_err is) in
    lacks_no_file c.in-Ok.bundle c.in-Ok.ensures.named bot (c.in-Err.ensures.config (fault.File bot) (ap Err why))
