use Rattle.std.proofs.Common.{◌≡◌, subst, refl, Option, Some, None, List, ℕ, IfSome, IfOk}
use Rattle.collector_feeds.specs.Found.{found_at, rule_of, IsAhead}
use Rattle.collector_feeds.specs.Open.{IsThere}
use Rattle.bot_runner.proofs.collector_part.read_at.Goals as goal

told_by : {P : List ℕ → Type 0} (told : Option (List ℕ)) → ((content : List ℕ) → told ≡ Some content → P content) → IfSome told P
told_by None f = tt
told_by (Some content) f = f content refl

pub returns-in-Ok-clause-sight : goal.returns-in-Ok-clause-sight
returns-in-Ok-clause-sight g c =
    let l = c.look-read.ensures in (
      refl,
      subst (λ r. IfOk r (IsAhead c.args.place.at)) c.in-Ok.is l.ahead,
      subst (λ r. IfOk r IsThere) c.in-Ok.is l.there,
      told_by c.args.read.told (λ content is. subst (λ r. IfOk r (λ what. what ≡ found_at (rule_of c.args.place.facts) (Some content) c.args.place.at)) c.in-Ok.is (l.found content is)),
    )
