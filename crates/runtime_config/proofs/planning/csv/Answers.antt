use Rattle.std.proofs.Common.{ap, map, ◌∙◌}
use Rattle.std.specs.Prelude.{is_some}
use Rattle.runtime_config.proofs.Faulty.{csv_is}
use Rattle.runtime_config.specs.Load.{names_of}
use Rattle.runtime_config.proofs.planning.csv.Goals as goal

pub returns : goal.returns
returns c = λ bundle.
    csv_is _ _ _ _ _ _ _ _ _ _ (c.in_ok-columns_of.ensures ∙ ap (map names_of) (c.as_slice.ensures ∙ c.in_ok-columns.ensures)) c.in_ok-delimiter.ensures c.in_ok-switch.ensures c.in_ok-defaults.ensures
    (c.is_some.ensures ∙ ap is_some c.in_ok-time_format.ensures)
