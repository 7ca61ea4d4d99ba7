use Rattle.std.proofs.Common.{subst}
use Rattle.std.specs.List.Sorted.{IsPermutation, IsStableBy}
use Rattle.event_model.proofs.Pairs.{Pairs}
use Rattle.event_model.proofs.Settling.{settled}
use Rattle.event_model.specs.Built.{is_below}
use Rattle.event_model.proofs.builder.settle.Goals as goal

pub returns : goal.returns
returns c =
    let sort = c.in_ok-sort_by_name.ensures in
    let sorted = c.sort_by_name.new.pairs.items in
    settled c.args.pairs.now.items sorted c.keep_first.new.pairs.items
    (subst (λ (es : Pairs). IsPermutation es sorted) c.reverse.ensures.items sort.permutation)
    sort.sorted
    (subst (λ (es : Pairs). IsStableBy is_below es sorted) c.reverse.ensures.items sort.stable)
    c.keep_first.ensures
