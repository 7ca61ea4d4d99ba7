use Rattle.std.proofs.Common.{ℕ, List, Option, ap, Some, [], ◌++◌, OnOk, Ok, Err, Result, sym, subst}
use Rattle.event_model.specs.Gathered.{IsBest}
use Rattle.event_model.specs.Lenient.{lesser, with_bad}
use Rattle.event_model.proofs.Least.{best_push}
use Rattle.event_model.proofs.leaves.add.Goals as goal

-- where a call gives that, it gives this
on_ok : {A B : Type 0} (r : Result A B) (P Q : Type 0) → (P → Q) → OnOk r P → OnOk r Q
on_ok (Ok x) P Q f p = f p
on_ok (Err e) P Q f p = tt

pub returns-in-Bad-clause-bad : goal.returns-in-Bad-clause-bad
returns-in-Bad-clause-bad c = λ names best.
    let key = c.args.found.now.names.0 in
    let least = c.args.found.now.names.1 in
    on_ok c.note.result _ _
    (λ now. subst (λ (b : Option (List ℕ)). IsBest b (names ++ with_bad key c.args.part [])) (sym (ap (λ (n : List ℕ × Option (List ℕ)). n.1) now))
    (subst (λ part. IsBest (Some (lesser key least)) (names ++ with_bad key part [])) (sym c.in-Bad.is) (best_push key least names best)))
    c.note.ensures
