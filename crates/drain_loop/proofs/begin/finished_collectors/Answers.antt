use Rattle.std.proofs.Common.{◌++◌, ℕ, List, map, sym, ap, subst, ◌∙◌}
use Rattle.std.specs.List.{IsDistinct}
use Rattle.std.specs.Str.{bytes_eq}
use Rattle.step_code.specs.declared.rules.Facts.{Facts}
use Rattle.step_code.specs.State.{bots_in_force}
use Rattle.drain_turns.proofs.Moving.{all_sound}
use Rattle.drain_loop.specs.Calls.{round_of}
use Rattle.drain_loop.specs.Opening.{HaveFinished}
use Rattle.drain_loop.proofs.Begun.{finished_among, names_differ, names_finished, rounds_named}
use Rattle.drain_loop.proofs.begin.finished_collectors.Goals as goal

pub returns-clause-names : goal.returns-clause-names
returns-clause-names g c =
    let m = g.R.Rules.meaning in let s = c.args.core.now.state in
    let are =
    c.in_ok-add_finished.ensures ∙ ap (λ (xs : List (List ℕ)). xs ++ map (λ (f : Facts). f.bot) (finished_among s c.bots.result.now)) c.new-names.ensures.items
    ∙ ap (λ (bs : List Facts). map (λ (f : Facts). f.bot) (finished_among s bs)) c.bots.ensures.bots in
    ap (map round_of) are ∙ rounds_named (finished_among s (bots_in_force m s))

pub returns-clause-finished : goal.returns-clause-finished
returns-clause-finished g c =
    let m = g.R.Rules.meaning in let s = c.args.core.now.state in
    let are =
    c.in_ok-add_finished.ensures ∙ ap (λ (xs : List (List ℕ)). xs ++ map (λ (f : Facts). f.bot) (finished_among s c.bots.result.now)) c.new-names.ensures.items
    ∙ ap (λ (bs : List Facts). map (λ (f : Facts). f.bot) (finished_among s bs)) c.bots.ensures.bots in
    subst (HaveFinished m s) (sym are) (names_finished m s (all_sound m s g.met.R.Rules.bots_are_sound))

pub returns-clause-distinct : goal.returns-clause-distinct
returns-clause-distinct g c =
    let m = g.R.Rules.meaning in let s = c.args.core.now.state in
    let are =
    c.in_ok-add_finished.ensures ∙ ap (λ (xs : List (List ℕ)). xs ++ map (λ (f : Facts). f.bot) (finished_among s c.bots.result.now)) c.new-names.ensures.items
    ∙ ap (λ (bs : List Facts). map (λ (f : Facts). f.bot) (finished_among s bs)) c.bots.ensures.bots in
    subst (IsDistinct bytes_eq) (sym are) (names_differ s (bots_in_force m s) (all_sound m s g.met.R.Rules.bots_are_sound))
