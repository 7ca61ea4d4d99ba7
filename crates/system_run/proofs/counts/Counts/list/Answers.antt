use Rattle.std.proofs.Common.{◌≡◌, [], ◌∷◌, ◌++◌, sym, subst, ap, ◌∙◌}
use Rattle.system_run.specs.Counts.{untold}
use Rattle.edge_traits.specs.Shelf.{IsListed, count_on}
use Rattle.system_run.proofs.NamedCounts.{listed_at, is_listed, stays_listed, count_listed}
use Rattle.system_run.proofs.counts.Counts.list.Goals as goal

pub returns-in-Some-clause-listed : goal.returns-in-Some-clause-listed
returns-in-Some-clause-listed c = listed_at c.args.name.now c.args.self.now c.in-Some.field-0 (sym c.in-Some.ensures)

-- the name is put at the end
longer : (c : goal.In_ok-push-in-None) → c.push.new.self ≡ c.args.self.now ++ (c.args.name.now, 0) ∷ []
longer c = c.in_ok-push-in-None.ensures.ok ∙ ap (λ n. c.args.self.now ++ (n, 0) ∷ []) c.in_ok-copy-in-None.ensures

pub returns-in_ok-push-in-None-clause-listed : goal.returns-in_ok-push-in-None-clause-listed
returns-in_ok-push-in-None-clause-listed c =
    subst (λ pairs. IsListed (untold pairs) c.args.name.now) (sym (longer c)) (is_listed c.args.name.now c.args.self.now)

pub returns-in_ok-push-in-None-clause-counts : goal.returns-in_ok-push-in-None-clause-counts
returns-in_ok-push-in-None-clause-counts c = λ other.
    ap (λ pairs. count_on (untold pairs) other) (longer c) ∙ count_listed other c.args.name.now c.args.self.now

pub returns-in_ok-push-in-None-clause-stay_listed : goal.returns-in_ok-push-in-None-clause-stay_listed
returns-in_ok-push-in-None-clause-stay_listed c = λ other some.
    subst (λ pairs. IsListed (untold pairs) other) (sym (longer c)) (stays_listed other c.args.name.now c.args.self.now some)
