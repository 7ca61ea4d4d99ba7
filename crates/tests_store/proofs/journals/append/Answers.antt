use Rattle.std.proofs.Common.{◌≡◌, ◌≤◌, length, refl, sym, ap, subst, arith}
use Rattle.edge_traits.specs.Disk.{Image}
use Rattle.edge_memory.specs.Disk.{files_of, may_leave}
use Rattle.disk_journal.specs.Journal.{JournalView, IsAtRest}
use Rattle.tests_store.specs.Usable.{IsUsable}
use Rattle.tests_store.proofs.Usable.{with_room, short, after_append}
use Rattle.tests_store.proofs.journals.append.Goals as goal

pub append-requires-clause-at_rest : goal.append-requires-clause-at_rest
append-requires-clause-at_rest c = λ whole files told.
    let reserved = subst (λ (j : JournalView). IsUsable j c.args.disk.now) (sym c.reserve.ensures.same) (with_room c.args.journal.now c.reserve.new.self.room c.args.disk.now c.requires) in
    let found = reserved.at_rest whole in
    let same : files_of c.args.disk.now ≡ files = cc in
    (found.0, subst (λ (f : Image). IsAtRest c.reserve.new.self (may_leave c.args.disk.now) found.0 f) same found.1)

pub returns : goal.returns
returns c =
    let reserved = subst (λ (j : JournalView). IsUsable j c.args.disk.now) (sym c.reserve.ensures.same) (with_room c.args.journal.now c.reserve.new.self.room c.args.disk.now c.requires) in
    let few : length (files_of c.args.disk.now 7) ≤ 1000000 = omega (arith, ap length c.in_ok-file.ensures) in
    after_append c.append.result c.reserve.new.self c.append.new.self c.args.disk.now c.append.new.disk c.args.body.now reserved
    (short c.reserve.new.self.broken c.reserve.new.self c.args.disk.now refl reserved few)
    c.append.ensures.ok
    (λ bodies rest. c.append.ensures.at_rest (files_of c.args.disk.now) (files_of c.append.new.disk) bodies refl refl rest)
    c.append.ensures.disk c.append.ensures.broken c.append.ensures.nothing
