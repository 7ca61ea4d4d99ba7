use Rattle.std.proofs.Common.{rules, ◌≡◌, ◌≤◌, [], ◌∷◌, ◌++◌, sym, ap, subst, arith, List}
use Rattle.std.specs.Prelude.{vec_len, vec_capacity}
use Rattle.book_lock.specs.Seats.{knows, opening, Known}
use Rattle.bot_runner.specs.Parts.{HasJoined, HasWorked}
use Rattle.bot_runner.specs.declared.worker.Worker.{Worker}
use Rattle.bot_runner.specs.declared.worker.WorkerEnd.{WorkerEnd}
use Rattle.bot_runner.proofs.Joining.{all_last, begins_join, both_in, each_last, each_none, joins, some_in, some_unless}
use Rattle.bot_runner.proofs.slots.+gather.Goals as goal

pub gather-all-requires : goal.gather-all-requires
gather-all-requires g t c =
    let sp = all_last _ c.pop.new.self.items c.in-Some.slot (rw c.in-Some.ensures.items at c.requires.each) in
    let each = sp.0 in
    let room : vec_len c.pop.new.self ≤ vec_capacity c.args.ends.now = omega (arith, c.requires.room, c.in-Some.ensures.len) in
    search rules

pub unreachable-requires : goal.unreachable-requires
unreachable-requires g t c =
    let sp = all_last _ c.pop.new.self.items c.in-Some.slot (rw c.in-Some.ensures.items at c.requires.each) in
    let some = some_in _ sp.1.0 in
    c.in_default.not-Some some.0 some.1

pub unreachable-requires-in_default-worker : goal.unreachable-requires-in_default-worker
unreachable-requires-in_default-worker g t c =
    let sp = all_last _ c.pop.new.self.items c.in-Some.slot (rw c.in-Some.ensures.items at c.requires.each) in
    c.in_default-worker.not-None sp.1.1

pub unreachable-requires-in_default-end : goal.unreachable-requires-in_default-end
unreachable-requires-in_default-end g t c =
    let sp = all_last _ c.pop.new.self.items c.in-Some.slot (rw c.in-Some.ensures.items at c.requires.each) in
    let some = some_unless _ sp.1.2 in
    c.in_default-end.not-Some some.0 some.1

pub join-requires-clause-second : goal.join-requires-clause-second
join-requires-clause-second g t c =
    let sp = all_last _ c.pop.new.self.items c.in-Some.slot (rw c.in-Some.ensures.items at c.requires.each) in
    (rw c.in-Some-seat.is at sp.1.0).0

pub returns-in-Some-end-clause-parts : goal.returns-in-Some-end-clause-parts
returns-in-Some-end-clause-parts g t c =
    let sp = all_last _ c.pop.new.self.items c.in-Some.slot (rw c.in-Some.ensures.items at c.requires.each) in
    let one = (rw c.in-Some-seat.is at sp.1.0).1 in
    let both = ap (λ (k : Known _). k.parts) c.join.ensures.both in
    omega (arith, one, both, c.gather-all.ensures.parts, c.in-Some.ensures.len)

pub returns-in-Some-end-clause-joined : goal.returns-in-Some-end-clause-joined
returns-in-Some-end-clause-joined g t c = λ clock left workers each.
    let r = each_last _ workers c.pop.new.self.items c.in-Some.slot (rw c.in-Some.ensures.items at each) in
    let worked = both_in (λ s e. HasWorked g.S.Source.source g.R.Rules.meaning clock left (opening c.args.lock.now).opening r.1 (knows s) e) _ _ _ _ c.in-Some-seat.is c.in-Some-end.is r.4 in
    let m = g.R.Rules.meaning in
    let o = (opening c.args.lock.now).opening in
    subst (λ (ws : List (Worker _)). HasJoined g.S.Source.source m clock left o c.args.last (knows c.join.result) ws c.push_reserved.new.self.items) (sym r.2)
    (subst (λ (es : List (WorkerEnd _)). HasJoined g.S.Source.source m clock left o c.args.last (knows c.join.result) (r.0 ++ r.1 ∷ []) es) (sym c.push_reserved.ensures.items)
    (joins g.S.Source.source m clock left o (knows c.gather-all.result) _ (knows c.join.result) c.args.last r.0 c.gather-all.new.ends.items r.1 _
    (c.gather-all.ensures.joined clock left r.0 r.3) worked c.join.ensures.both c.join.ensures.seen.0 c.join.ensures.seen.1))

pub returns-in-None-clause-joined : goal.returns-in-None-clause-joined
returns-in-None-clause-joined g t c = λ clock left workers each.
    let m = g.R.Rules.meaning in
    let o = (opening c.args.lock.now).opening in
    let none : c.args.slots.items ≡ [] = search rules in
    let nobody = each_none _ workers c.args.slots.items none each in
    subst (λ (ws : List (Worker _)). HasJoined g.S.Source.source m clock left o c.args.last (knows c.args.seat) ws c.args.ends.now.items) (sym nobody)
    (subst (λ (es : List (WorkerEnd _)). HasJoined g.S.Source.source m clock left o c.args.last (knows c.args.seat) [] es) (sym c.requires.empty) (begins_join g.S.Source.source m clock left o (knows c.args.seat) c.args.last c.requires.waited))
