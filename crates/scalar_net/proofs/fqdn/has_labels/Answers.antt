use Rattle.std.proofs.Common.{◌==◌, rules}
use Rattle.std.proofs.lemmas.Iterator.Search.{all_from_yields_List}
use Rattle.std.proofs.lemmas.Iterator.Splits.{YieldsList-from_slice_split}
use Rattle.scalar_net.specs.Fqdn.{is_label}
use Rattle.scalar_net.proofs.fqdn.has_labels.Goals as goal

pub returns : goal.returns
returns c =
    all_from_yields_List is_label _ _ c.all.result c.all.ensures.ran
    (YieldsList-from_slice_split _ (λ b. b == 46) c.args.name.now c.split.ensures.rest c.split.ensures.done c.split.ensures.closure (λ x b q called. search rules))
    (λ x b q called. search rules)
