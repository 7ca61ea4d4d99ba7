use Rattle.std.proofs.Common.{sym, subst}
use Rattle.std.specs.List.{AllByRecursion}
use Rattle.base_types.proofs.Everywhere.{all-append}
use Rattle.run_command.specs.Fetched.{HasFetched}
use Rattle.run_command.proofs.workers.+add_instances.Goals as goal

pub returns : goal.returns
returns g t c = λ shelf all.
    let Is = HasFetched g.S.Source.source shelf in
    c.add_instances.ensures shelf (subst (AllByRecursion Is) (sym c.push_reserved.ensures.items) (all-append Is c.reserve.new.self.items _ (subst (AllByRecursion Is) (sym c.reserve.ensures.items) all) (tt, tt)))
