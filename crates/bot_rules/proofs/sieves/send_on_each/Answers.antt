use Rattle.std.proofs.Common.{◌+◌, ◌++◌, ◌∷◌, [], List, ℕ, take, sym, ap, ◌∙◌}
use Rattle.std.proofs.lemmas.List.{take_more}
use Rattle.bot_rules.proofs.Sends.{next_path}
use Rattle.bot_rules.proofs.sieves.send_on_each.Goals as goal

pub paths-preserved : goal.paths-preserved
paths-preserved c =
    let paths = c.args.paths.now in
    let i = c.paths.path-index in
    let path = c.path-item.result in
    let next = take_more paths i path c.paths-test.true ∙ ap (λ (p : List ℕ). take i paths ++ p ∷ []) (sym c.path-item.is) in
    next_path c.args.routes.now (take i paths) (take (i + 1) paths) path c.args.body.now c.args.sends.now c.paths.sends c.send_on.new.sends c.paths.invariant c.in_ok-send_on.ensures (sym next)
