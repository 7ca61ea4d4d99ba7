use Rattle.std.proofs.Common.{rules}
use Rattle.std.proofs.lemmas.Fn.{dedup_same}
use Rattle.event_model.specs.Built.{has_same_name}
use Rattle.event_model.proofs.builder.keep_first.Goals as goal

pub returns : goal.returns
returns c = dedup_same _ has_same_name _ (λ x y b f' x' y' k. search rules) _ _ c.dedup_by.ensures.filtered
