use Rattle.std.proofs.Common.{rules, ◌∷◌, [], ℕ, List, None, map, Ok, Err, sym, subst, ◌∙◌}
use Rattle.drain_loop.specs.Calls.{outside, place_with, round_of, IsOpened}
use Rattle.drain_loop.proofs.Begun.{ends_anyhow, later_distinct, later_finished, no_names, opens_more, opens_none}
use Rattle.drain_loop.proofs.begin.+open_each.Goals as goal

pub open_each-requires : goal.open_each-requires
open_each-requires g t c =
    let are = c.in-Some.ensures.cases.0 in
    let less = c.in-Some.ensures.cases.1 in
    let step = c.in-Ok.ensures.step in
    let finished = later_finished g.R.Rules.meaning c.args.book.now.state c.open_by.new.book.state step.0 c.in-Some.bot.now c.args.names.now c.in-Some.others.now are step.1 step.2 c.requires.distinct c.requires.finished in
    let distinct = later_distinct c.in-Some.bot.now c.args.names.now c.in-Some.others.now are c.requires.distinct in
    let whole = c.in-Ok.ensures.whole in
    search rules

pub returns-in-None-clause-opened : goal.returns-in-None-clause-opened
returns-in-None-clause-opened g t c = λ first limit is.
    let book = c.args.book.now in
    let o = outside g.R.Rules.meaning first (g.C.Clock.told c.args.clock.now) limit in
    subst (λ (ns : List (List ℕ)). IsOpened g.D.Disk.disk o (place_with (map round_of ns) book c.args.left) [] book book (Ok c.args.left))
    (sym (no_names c.args.names.now c.in-None.ensures.cases)) (opens_none o [] c.args.left book (g.met.D.Disk.only_now book.disk))

pub returns-in-Ok-clause-opened : goal.returns-in-Ok-clause-opened
returns-in-Ok-clause-opened g t c = λ first limit is.
    let m = g.R.Rules.meaning in let book = c.args.book.now in let mid = c.open_by.new.book in let new = c.open_each.new.book in
    let o = outside m first (g.C.Clock.told c.args.clock.now) limit in
    let later = map round_of c.in-Some.others.now in
    let front = subst (λ (n : ℕ). IsOpened g.D.Disk.disk (outside m first (g.C.Clock.told c.args.clock.now) n) (place_with (round_of c.in-Some.bot.now ∷ later) book c.args.left) later book mid (Ok c.in-Ok.left))
    (sym is) (c.in-Ok.ensures.opened first later) in
    subst (λ (ns : List (List ℕ)). IsOpened g.D.Disk.disk o (place_with (map round_of ns) book c.args.left) [] book new c.open_each.result) (sym c.in-Some.ensures.cases.0)
    (opens_more o (place_with (round_of c.in-Some.bot.now ∷ later) book c.args.left) later [] c.in-Ok.left book mid new c.open_each.result front (c.open_each.ensures.opened first limit (is ∙ sym c.open_by.ensures.limit)))

pub returns-in-Err-clause-opened : goal.returns-in-Err-clause-opened
returns-in-Err-clause-opened g t c = λ first limit is.
    let m = g.R.Rules.meaning in let book = c.args.book.now in let mid = c.open_by.new.book in
    let later = map round_of c.in-Some.others.now in
    subst (λ (n : ℕ). IsOpened g.D.Disk.disk (outside m first (g.C.Clock.told c.args.clock.now) n) (place_with (map round_of c.args.names.now) book c.args.left) [] book mid (Err c.in-Err.end)) (sym is)
    (subst (λ (ns : List (List ℕ)). IsOpened g.D.Disk.disk (outside m first (g.C.Clock.told c.args.clock.now) book.limit) (place_with (map round_of ns) book c.args.left) [] book mid (Err c.in-Err.end)) (sym c.in-Some.ensures.cases.0)
    (ends_anyhow (outside m first (g.C.Clock.told c.args.clock.now) book.limit) (place_with (round_of c.in-Some.bot.now ∷ later) book c.args.left) later [] book mid c.in-Err.end (c.in-Err.ensures.opened first later)))

pub returns-in-Ok-clause-undamaged : goal.returns-in-Ok-clause-undamaged
returns-in-Ok-clause-undamaged g t c = λ files told.
    let between = ((c.in-Ok.ensures.opened (record { counts = []; told = None }) []).goes_on.others files told).told files told in
    c.open_each.ensures.undamaged between.0 between.1
