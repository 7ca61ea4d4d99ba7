use Rattle.std.proofs.Common.{map}
use Rattle.runtime_text.proofs.Parameters.{named_first, named_second}
use Rattle.module_settings.specs.Rows.{parameter_of}
use Rattle.runtime_text.proofs.given.parameter_named.Goals as goal

pub returns-in-Some : goal.returns-in-Some
returns-in-Some c =
    named_first c.args.name.now (map parameter_of c.parameters_of.result.0.now) (map parameter_of c.parameters_of.result.1.now) _ (parameter_of c.in-Some.parameter.now)
    c.in-Some.ensures c.parameters_of.ensures

pub returns-in-None : goal.returns-in-None
returns-in-None c =
    named_second c.args.name.now (map parameter_of c.parameters_of.result.0.now) (map parameter_of c.parameters_of.result.1.now) _ _
    c.in-None.ensures c.named_in-in-None.ensures c.parameters_of.ensures
