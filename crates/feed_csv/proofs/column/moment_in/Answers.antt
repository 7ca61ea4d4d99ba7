use Rattle.std.proofs.Common.{ℕ, List, Option, IfOk, sym, subst, ◌≡◌}
use Rattle.base_types.specs.Digits.{IsDigits}
use Rattle.feed_csv.proofs.Cellwise.{moment_of, no_moment}
use Rattle.feed_csv.proofs.column.moment_in.Goals as goal

pub returns-in-Some : goal.returns-in-Some
returns-in-Some c =
    let is = moment_of c.args.text.now c.in-Some.seconds (subst (λ (t : List ℕ). IsDigits 12 t c.in-Some.seconds) c.as_bytes.ensures.value c.in-Some.ensures.value) in
    subst (λ (o : Option (List ℕ)). IfOk c.moment_text.result (λ moment. moment ≡ o)) (sym is) c.moment_text.ensures

pub returns-in-None : goal.returns-in-None
returns-in-None c =
    sym (no_moment c.args.text.now (λ n writes. c.in-None.ensures.value n (subst (λ (t : List ℕ). IsDigits 12 t n) (sym c.as_bytes.ensures.value) writes)))
