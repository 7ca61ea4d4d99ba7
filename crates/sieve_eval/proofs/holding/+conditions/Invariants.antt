use Rattle.std.proofs.Common.{◌≡◌, drop}
use Rattle.std.specs.List.{list_all, list_any}
use Rattle.sieve_eval.specs.Holds.{holds}
use Rattle.sieve_eval.proofs.holding.+conditions.Given as goal

abbrev pub invariant-all_hold-conds : goal.invariant-all_hold-conds
invariant-all_hold-conds l =
    (list_all (holds l.fn.setting.patterns l.fn.setting.moment l.fields) (drop l.cond-index l.conds)
    ≡ list_all (holds l.fn.setting.patterns l.fn.setting.moment l.fields) l.conds)
    × (l.setting ≡ l.fn.setting)

abbrev pub invariant-any_holds-conds : goal.invariant-any_holds-conds
invariant-any_holds-conds l =
    (list_any (holds l.fn.setting.patterns l.fn.setting.moment l.fields) (drop l.cond-index l.conds)
    ≡ list_any (holds l.fn.setting.patterns l.fn.setting.moment l.fields) l.conds)
    × (l.setting ≡ l.fn.setting)
