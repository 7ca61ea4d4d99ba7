use Rattle.std.proofs.Common.{◌+◌, List, ℕ, Option, sym, ap, arith, ◌∙◌, take_all, length-drop}
use Rattle.std.proofs.lemmas.List.Elements.{All-from_get_or}
use Rattle.url.proofs.InputLemmas.{IsNot, rsplit_once_at_last, rsplit_once_none}
use Rattle.scalar_net.proofs.plain_url.last_label.Goals as goal

abbrev behind : Option (List ℕ) × List ℕ → List ℕ
behind parts = parts.1

pub returns-in-Some : goal.returns-in-Some
returns-in-Some c =
    let host = c.args.host.now in
    let at = c.in-Some.at in
    take_all _ _ (omega (arith, length-drop (at + 1) host)) ∙ sym (ap behind (rsplit_once_at_last 46 host at c.in-Some.ensures.at.0 c.in-Some.ensures.at.1 (λ k above. c.in-Some.ensures.last k (omega arith))))

pub returns-in-None : goal.returns-in-None
returns-in-None c =
    let host = c.args.host.now in
    sym (ap behind (rsplit_once_none 46 host (All-from_get_or (IsNot 46) host 0 (λ k inside. c.in-None.ensures.none k inside))))
