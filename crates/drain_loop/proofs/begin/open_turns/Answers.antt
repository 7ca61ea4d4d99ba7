use Rattle.std.proofs.Common.{◌≡◌, [], ◌∷◌, ◌++◌, ℕ, Bool, true, List, None, Ok, Err, sym, subst, ◌∙◌}
use Rattle.step_code.specs.declared.step.StepKind.{StepKind}
use Rattle.step_code.specs.declared.step.StepKind.TheVariants as kind
use Rattle.drain_loop.specs.Calls.{outside, place_with, reload_of, rounds_of, with_bundle, IsOpened}
use Rattle.drain_loop.proofs.Begun.{ends_anyhow, opens_more, rounds_started}
use Rattle.drain_loop.proofs.begin.open_turns.Goals as goal

pub returns-in-Err-clause-opened : goal.returns-in-Err-clause-opened
returns-in-Err-clause-opened g c = λ first.
    let m = g.R.Rules.meaning in let book = c.args.book.now in
    let bundle = c.args.opening.bundle in let asked = c.args.opening.rounds in
    let later = reload_of bundle ++ rounds_of m (with_bundle m book.state bundle) asked in
    ends_anyhow (outside m first (g.C.Clock.told c.args.clock.now) book.limit) (place_with (kind.Start ∷ later) book c.args.left) later [] book c.open_by.new.book c.in-Err.end (c.in-Err.ensures.opened first later)

pub returns-in-Err-reload-clause-opened : goal.returns-in-Err-reload-clause-opened
returns-in-Err-reload-clause-opened g c = λ first.
    let m = g.R.Rules.meaning in let book = c.args.book.now in let mid = c.open_by.new.book in let new = c.reload.new.book in
    let bundle = c.args.opening.bundle in let asked = c.args.opening.rounds in
    let o = outside m first (g.C.Clock.told c.args.clock.now) book.limit in
    let rounds = rounds_of m (with_bundle m book.state bundle) asked in
    let later = reload_of bundle ++ rounds in
    let rest = subst (λ (n : ℕ). IsOpened g.D.Disk.disk (outside m first (g.C.Clock.told c.args.clock.now) n) (place_with later mid c.in-Ok.left) rounds mid new (Err c.in-Err-reload.end)) c.open_by.ensures.limit
    (c.in-Err-reload.ensures.opened first rounds) in
    ends_anyhow o (place_with (kind.Start ∷ later) book c.args.left) rounds [] book new c.in-Err-reload.end
    (opens_more o (place_with (kind.Start ∷ later) book c.args.left) later rounds c.in-Ok.left book mid new (Err c.in-Err-reload.end) (c.in-Ok.ensures.opened first later) rest)

pub returns-then-rounds-clause-opened : goal.returns-then-rounds-clause-opened
returns-then-rounds-clause-opened g c = λ first.
    let m = g.R.Rules.meaning in let book = c.args.book.now in let mid = c.open_by.new.book in let behind = c.reload.new.book in let new = c.open_rounds.new.book in
    let bundle = c.args.opening.bundle in let asked = c.args.opening.rounds in
    let o = outside m first (g.C.Clock.told c.args.clock.now) book.limit in
    let rounds = rounds_of m (with_bundle m book.state bundle) asked in
    let later = reload_of bundle ++ rounds in
    let start = place_with (kind.Start ∷ later) book c.args.left in
    let rest = subst (λ (n : ℕ). IsOpened g.D.Disk.disk (outside m first (g.C.Clock.told c.args.clock.now) n) (place_with later mid c.in-Ok.left) rounds mid behind (Ok c.in-Ok-reload.left)) c.open_by.ensures.limit (c.in-Ok-reload.ensures.opened first rounds) in
    let front = opens_more o start later rounds c.in-Ok.left book mid behind (Ok c.in-Ok-reload.left) (c.in-Ok.ensures.opened first later) rest in
    let step = c.in-Ok.ensures.step in
    let same = c.in-Ok-reload.ensures.rounds true ∙ rounds_started m book.state mid.state step.0 bundle true step.1 step.2 in
    let named = subst (λ (a : Bool). rounds_of m behind.state true ≡ rounds_of m (with_bundle m book.state bundle) a) (sym c.if-rounds.true) same in
    let last = subst (λ (n : ℕ). IsOpened g.D.Disk.disk (outside m first (g.C.Clock.told c.args.clock.now) n) (place_with (rounds_of m behind.state true) behind c.in-Ok-reload.left) [] behind new c.open_rounds.result)
    (c.reload.ensures.limit ∙ c.open_by.ensures.limit) (c.open_rounds.ensures.opened first) in
    opens_more o start rounds [] c.in-Ok-reload.left book behind new c.open_rounds.result front
    (subst (λ (ks : List StepKind). IsOpened g.D.Disk.disk o (place_with ks behind c.in-Ok-reload.left) [] behind new c.open_rounds.result) named last)

pub returns-else-rounds-clause-opened : goal.returns-else-rounds-clause-opened
returns-else-rounds-clause-opened g c = λ first.
    let m = g.R.Rules.meaning in let book = c.args.book.now in let mid = c.open_by.new.book in let behind = c.reload.new.book in
    let bundle = c.args.opening.bundle in let asked = c.args.opening.rounds in
    let o = outside m first (g.C.Clock.told c.args.clock.now) book.limit in
    let rounds = rounds_of m (with_bundle m book.state bundle) asked in
    let later = reload_of bundle ++ rounds in
    let start = place_with (kind.Start ∷ later) book c.args.left in
    let rest = subst (λ (n : ℕ). IsOpened g.D.Disk.disk (outside m first (g.C.Clock.told c.args.clock.now) n) (place_with later mid c.in-Ok.left) rounds mid behind (Ok c.in-Ok-reload.left)) c.open_by.ensures.limit (c.in-Ok-reload.ensures.opened first rounds) in
    let front = opens_more o start later rounds c.in-Ok.left book mid behind (Ok c.in-Ok-reload.left) (c.in-Ok.ensures.opened first later) rest in
    subst (λ (a : Bool). IsOpened g.D.Disk.disk o start (rounds_of m (with_bundle m book.state bundle) a) book behind (Ok c.in-Ok-reload.left)) c.if-rounds.false front

pub returns-in-Err-reload-clause-undamaged : goal.returns-in-Err-reload-clause-undamaged
returns-in-Err-reload-clause-undamaged g c = λ files told.
    let between = ((c.in-Ok.ensures.opened (record { counts = []; told = None }) []).goes_on.others files told).told files told in
    c.in-Err-reload.ensures.undamaged between.0 between.1

pub returns-then-rounds-clause-undamaged : goal.returns-then-rounds-clause-undamaged
returns-then-rounds-clause-undamaged g c = λ files told.
    let between = ((c.in-Ok.ensures.opened (record { counts = []; told = None }) []).goes_on.others files told).told files told in
    let behind = ((c.in-Ok-reload.ensures.opened (record { counts = []; told = None }) []).goes_on.others between.0 between.1).told between.0 between.1 in
    c.open_rounds.ensures.undamaged behind.0 behind.1
