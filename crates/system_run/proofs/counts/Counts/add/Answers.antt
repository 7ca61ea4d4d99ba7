use Rattle.std.proofs.Common.{◌≡◌, Some, unwrap_or, position, sym, ◌∙◌, ap, subst}
use Rattle.std.proofs.Math.ListN.{set}
use Rattle.std.specs.Str.{bytes_eq}
use Rattle.edge_traits.specs.Count.{count_sum}
use Rattle.edge_traits.specs.Shelf.{count_on, IsListed}
use Rattle.system_run.specs.Counts.{untold}
use Rattle.system_run.proofs.NamedCounts.{unlisted, count_there, count_elsewhere, stays_there}
use Rattle.system_run.proofs.counts.Counts.add.Goals as goal

pub returns-in-Some-clause-sum : goal.returns-in-Some-clause-sum
returns-in-Some-clause-sum c =
    let found = subst (λ pairs. position (λ p. bytes_eq c.args.name.now p.0) pairs ≡ Some c.in-Some.place) (sym c.self.view_is) (sym c.in-Some.ensures) in
    let there = count_there c.args.name.now c.self.inside.pairs.items c.in-Some.place c.raised.result c.index_mut.result.now found c.index_mut.ensures.value in
    ap (λ o. unwrap_or o 0) there.1 ∙ c.raised.ensures.sum
    ∙ ap (λ n. count_sum n c.args.faults) (sym (ap (λ o. unwrap_or o 0) there.0) ∙ ap (λ pairs. count_on (untold pairs) c.args.name.now) c.self.view_is)

pub returns-in-Some-clause-count : goal.returns-in-Some-clause-count
returns-in-Some-clause-count c =
    let found = subst (λ pairs. position (λ p. bytes_eq c.args.name.now p.0) pairs ≡ Some c.in-Some.place) (sym c.self.view_is) (sym c.in-Some.ensures) in
    let there = count_there c.args.name.now c.self.inside.pairs.items c.in-Some.place c.raised.result c.index_mut.result.now found c.index_mut.ensures.value in
    let old : count_on (untold c.args.self.now) c.args.name.now ≡ c.index_mut.result.now.1 = sym (ap (λ pairs. count_on (untold pairs) c.args.name.now) c.self.view_is) ∙ ap (λ o. unwrap_or o 0) there.0 in
    let new : count_on (untold (set c.self.inside.pairs.items c.in-Some.place (c.index_mut.result.now.0, c.raised.result))) c.args.name.now ≡ c.raised.result = ap (λ o. unwrap_or o 0) there.1 in
    rw (old, new) c.raised.ensures.grows

pub returns-in-Some-clause-others : goal.returns-in-Some-clause-others
returns-in-Some-clause-others c = λ other differ.
    let found = subst (λ pairs. position (λ p. bytes_eq c.args.name.now p.0) pairs ≡ Some c.in-Some.place) (sym c.self.view_is) (sym c.in-Some.ensures) in
    ap (λ o. unwrap_or o 0) (count_elsewhere c.args.name.now other c.self.inside.pairs.items c.in-Some.place c.raised.result c.index_mut.result.now found c.index_mut.ensures.value differ)
    ∙ ap (λ pairs. count_on (untold pairs) other) c.self.view_is

pub returns-in-Some-clause-stay_listed : goal.returns-in-Some-clause-stay_listed
returns-in-Some-clause-stay_listed c = λ other some.
    let found = subst (λ pairs. position (λ p. bytes_eq c.args.name.now p.0) pairs ≡ Some c.in-Some.place) (sym c.self.view_is) (sym c.in-Some.ensures) in
    let was = subst (λ pairs. IsListed (untold pairs) other) (sym c.self.view_is) some in
    stays_there c.args.name.now other c.self.inside.pairs.items c.in-Some.place c.raised.result c.index_mut.result.now found c.index_mut.ensures.value was

pub returns-in_default-clause-sum : goal.returns-in_default-clause-sum
returns-in_default-clause-sum c = absurd (unlisted c.args.name.now c.args.self.now (sym c.in_default.ensures) c.requires)
