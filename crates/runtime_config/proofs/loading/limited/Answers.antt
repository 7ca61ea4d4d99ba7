use Rattle.std.proofs.Common.{[], ◌∷◌, sym, ap, ◌∙◌}
use Rattle.std.specs.Option.{option_or}
use Rattle.runtime_config.proofs.Faulty.{absent, later_planned, limit_is, on_ok, there}
use Rattle.runtime_config.specs.Faults.{bad_row, bad_rule, first_of, unknown_queue}
use Rattle.runtime_config.specs.Whole.{is_past, place_of}
use Rattle.runtime_config.specs.declared.fault.LoadFault.TheVariants as fault
use Rattle.runtime_config.proofs.loading.limited.Goals as goal

pub returns-then-branch-clause-found : goal.returns-then-branch-clause-found
returns-then-branch-clause-found c =
    let p = place_of c.args.at.now in
    let later = first_of (unknown_queue ∷ bad_row ∷ bad_rule ∷ []) p in
    ap (λ o. option_or o later) (limit_is p)
    ∙ there (is_past p) (fault.Limit p.bot.0) (fault.Limit c.name.result) later (sym c.in_ok-passes_limit.ensures.past ∙ c.if-branch.true) (ap fault.Limit c.name.ensures)

pub returns-clause-found : goal.returns-clause-found
returns-clause-found c =
    let p = place_of c.args.at.now in
    later_planned _ _ _ c.routed.result (limit_is p ∙ absent (is_past p) (fault.Limit p.bot.0) (sym c.in_ok-passes_limit.ensures.past ∙ c.if-branch.false)) c.routed.ensures

pub returns-clause-sums : goal.returns-clause-sums
returns-clause-sums c = on_ok c.routed.result _ (c.in_ok-passes_limit.ensures.sums c.if-branch.false)
