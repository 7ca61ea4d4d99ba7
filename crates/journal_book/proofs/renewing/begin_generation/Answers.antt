use Rattle.std.proofs.Common.{◌≡◌, ◌≢◌, ◌+◌, ◌*◌, [], ◌∷◌, ◌++◌, ℕ, List, ◌∙◌, ap, subst, arith}
use Rattle.edge_traits.specs.Disk.{Leaves, LeavesOthers}
use Rattle.edge_traits.proofs.Moments.{widened}
use Rattle.disk_journal.specs.GateFile.{HasOldOrNew}
use Rattle.disk_journal.specs.Journal.{IsAtRest}
use Rattle.journal_book.proofs.Alone.{alone_narrower, alone_on, one_alone}
use Rattle.journal_book.proofs.Flushing.{rests_elsewhere}
use Rattle.journal_book.proofs.Renewed.{begins_made, begins_on, begins_still, rests_alone, rests_roomier}
use Rattle.journal_book.proofs.renewing.begin_generation.Goals as goal

pub returns-in-Err-clause-any_moment : goal.returns-in-Err-clause-any_moment
returns-in-Err-clause-any_moment g c = λ files bodies told rest.
    begins_still (g.D.Disk.disk c.args.disk.now) c.args.root.now bodies c.args.code.now c.args.generation files c.requires.file c.requires.heading rest (g.met.D.Disk.only_now c.args.disk.now)

pub returns-in-Err-create_generation-clause-any_moment : goal.returns-in-Err-create_generation-clause-any_moment
returns-in-Err-create_generation-clause-any_moment g c = λ files bodies told rest.
    begins_made (g.D.Disk.disk c.args.disk.now) (g.D.Disk.disk c.create_generation.new.disk) c.args.root.now bodies c.args.code.now c.args.generation files c.requires.file c.requires.heading rest c.create_generation.ensures.alone

-- the root isn't the generation's file
apart : (file g : ℕ) → file ≡ 0 → file ≢ 17 + 2 * g
apart file g is same = omega (arith, is, same)

made_apart : (made root g : ℕ) → made ≡ 17 + 2 * g → root ≡ 0 → made ≢ root
made_apart made root g is_made is_root same = omega (arith, is_made, is_root, same)

pub returns-in-Ok-append-clause-root_rests : goal.returns-in-Ok-append-clause-root_rests
returns-in-Ok-append-clause-root_rests g c = λ files after bodies told now rest.
    let mid = c.create_generation.ensures.alone.told files told in
    let same = c.in_default.ensures.same in
    let roomier = rests_roomier c.args.root.now c.reserve.new.self (g.D.Disk.disk c.args.disk.now).may_leave bodies files (ap (λ j. j.file) same) (ap (λ j. j.heading) same) (ap (λ j. j.length) same) (ap (λ j. j.broken) same ∙ c.requires.whole) rest in
    let between = rests_alone (g.D.Disk.disk c.args.disk.now) (g.D.Disk.disk c.create_generation.new.disk) c.reserve.new.self bodies files mid.0 (apart _ c.args.generation (ap (λ j. j.file) same ∙ c.requires.file)) c.create_generation.ensures.alone told mid.1 roomier in
    subst (λ (b : List ℕ). IsAtRest c.append.new.self (g.D.Disk.disk c.append.new.disk).may_leave (bodies ++ b ∷ []) after) c.to_be_bytes.ensures (c.in-Ok-append.ensures.at_rest mid.0 after bodies mid.1 now between)

pub returns-in-Ok-append-clause-journal_rests : goal.returns-in-Ok-append-clause-journal_rests
returns-in-Ok-append-clause-journal_rests g c = λ files after told now.
    let mid = c.create_generation.ensures.alone.told files told in
    let same = c.in_default.ensures.same in
    rests_elsewhere (g.D.Disk.disk c.create_generation.new.disk) (g.D.Disk.disk c.append.new.disk) c.in-Ok.journal (c.args.code.now ∷ []) mid.0 after c.reserve.new.self.file
    (made_apart c.in-Ok.journal.file c.reserve.new.self.file c.args.generation (ap (λ j. j.file) c.in-Ok.ensures.journal) (ap (λ j. j.file) same ∙ c.requires.file)) (c.append.ensures.elsewhere mid.0 mid.1) now c.append.ensures.crash_elsewhere
    (c.in-Ok.ensures.at_rest files mid.0 told mid.1)

pub returns-in-Ok-append-clause-alone : goal.returns-in-Ok-append-clause-alone
returns-in-Ok-append-clause-alone g c = λ files told.
    let mid = c.create_generation.ensures.alone.told files told in
    let same = c.in_default.ensures.same in
    let was = c.requires.at_rest files told in
    let roomier = rests_roomier c.args.root.now c.reserve.new.self (g.D.Disk.disk c.args.disk.now).may_leave was.0 files (ap (λ j. j.file) same) (ap (λ j. j.heading) same) (ap (λ j. j.length) same) (ap (λ j. j.broken) same ∙ c.requires.whole) was.1 in
    let between = rests_alone (g.D.Disk.disk c.args.disk.now) (g.D.Disk.disk c.create_generation.new.disk) c.reserve.new.self was.0 files mid.0 (apart _ c.args.generation (ap (λ j. j.file) same ∙ c.requires.file)) c.create_generation.ensures.alone told mid.1 roomier in
    alone_on (alone_narrower (λ file is. is.1) c.create_generation.ensures.alone)
    (alone_narrower (λ file is here. is.0 (here ∙ ap (λ j. j.file) same ∙ c.requires.file))
    (one_alone c.reserve.new.self.file c.append.ensures.elsewhere c.append.ensures.crash_elsewhere (widened (λ image left. left.1) (c.append.ensures.any_moment mid.0 was.0 mid.1 between))))

pub returns-in-Ok-append-clause-any_moment : goal.returns-in-Ok-append-clause-any_moment
returns-in-Ok-append-clause-any_moment g c = λ files bodies told rest.
    let mid = c.create_generation.ensures.alone.told files told in
    let same = c.in_default.ensures.same in
    let made = c.in-Ok.ensures.journal in
    let roomier = rests_roomier c.args.root.now c.reserve.new.self (g.D.Disk.disk c.args.disk.now).may_leave bodies files (ap (λ j. j.file) same) (ap (λ j. j.heading) same) (ap (λ j. j.length) same) (ap (λ j. j.broken) same ∙ c.requires.whole) rest in
    let between = rests_alone (g.D.Disk.disk c.args.disk.now) (g.D.Disk.disk c.create_generation.new.disk) c.reserve.new.self bodies files mid.0 (apart _ c.args.generation (ap (λ j. j.file) same ∙ c.requires.file)) c.create_generation.ensures.alone told mid.1 roomier in
    begins_on (g.D.Disk.disk c.args.disk.now) (g.D.Disk.disk c.create_generation.new.disk) (g.D.Disk.disk c.append.new.disk) c.args.root.now c.reserve.new.self c.in-Ok.journal bodies c.args.code.now c.args.generation files mid.0
    c.requires.file c.requires.heading (ap (λ j. j.file) same) (ap (λ j. j.heading) same) (ap (λ j. j.file) made) (ap (λ j. j.heading) made) rest (c.in-Ok.ensures.at_rest files mid.0 told mid.1) c.create_generation.ensures.alone
    (subst (λ (b : List ℕ). Leaves (g.D.Disk.disk c.create_generation.new.disk) (g.D.Disk.disk c.append.new.disk) (λ image. HasOldOrNew c.reserve.new.self.heading bodies b (image c.reserve.new.self.file) × LeavesOthers (g.D.Disk.disk c.create_generation.new.disk) c.reserve.new.self.file image)) c.to_be_bytes.ensures
    (c.append.ensures.any_moment mid.0 bodies mid.1 between))

pub returns-in-Err-append-clause-alone : goal.returns-in-Err-append-clause-alone
returns-in-Err-append-clause-alone g c = λ files told.
    let mid = c.create_generation.ensures.alone.told files told in
    let same = c.in_default.ensures.same in
    let was = c.requires.at_rest files told in
    let roomier = rests_roomier c.args.root.now c.reserve.new.self (g.D.Disk.disk c.args.disk.now).may_leave was.0 files (ap (λ j. j.file) same) (ap (λ j. j.heading) same) (ap (λ j. j.length) same) (ap (λ j. j.broken) same ∙ c.requires.whole) was.1 in
    let between = rests_alone (g.D.Disk.disk c.args.disk.now) (g.D.Disk.disk c.create_generation.new.disk) c.reserve.new.self was.0 files mid.0 (apart _ c.args.generation (ap (λ j. j.file) same ∙ c.requires.file)) c.create_generation.ensures.alone told mid.1 roomier in
    alone_on (alone_narrower (λ file is. is.1) c.create_generation.ensures.alone)
    (alone_narrower (λ file is here. is.0 (here ∙ ap (λ j. j.file) same ∙ c.requires.file))
    (one_alone c.reserve.new.self.file c.append.ensures.elsewhere c.append.ensures.crash_elsewhere (widened (λ image left. left.1) (c.append.ensures.any_moment mid.0 was.0 mid.1 between))))

pub returns-in-Err-append-clause-any_moment : goal.returns-in-Err-append-clause-any_moment
returns-in-Err-append-clause-any_moment g c = λ files bodies told rest.
    let mid = c.create_generation.ensures.alone.told files told in
    let same = c.in_default.ensures.same in
    let made = c.in-Ok.ensures.journal in
    let roomier = rests_roomier c.args.root.now c.reserve.new.self (g.D.Disk.disk c.args.disk.now).may_leave bodies files (ap (λ j. j.file) same) (ap (λ j. j.heading) same) (ap (λ j. j.length) same) (ap (λ j. j.broken) same ∙ c.requires.whole) rest in
    let between = rests_alone (g.D.Disk.disk c.args.disk.now) (g.D.Disk.disk c.create_generation.new.disk) c.reserve.new.self bodies files mid.0 (apart _ c.args.generation (ap (λ j. j.file) same ∙ c.requires.file)) c.create_generation.ensures.alone told mid.1 roomier in
    begins_on (g.D.Disk.disk c.args.disk.now) (g.D.Disk.disk c.create_generation.new.disk) (g.D.Disk.disk c.append.new.disk) c.args.root.now c.reserve.new.self c.in-Ok.journal bodies c.args.code.now c.args.generation files mid.0
    c.requires.file c.requires.heading (ap (λ j. j.file) same) (ap (λ j. j.heading) same) (ap (λ j. j.file) made) (ap (λ j. j.heading) made) rest (c.in-Ok.ensures.at_rest files mid.0 told mid.1) c.create_generation.ensures.alone
    (subst (λ (b : List ℕ). Leaves (g.D.Disk.disk c.create_generation.new.disk) (g.D.Disk.disk c.append.new.disk) (λ image. HasOldOrNew c.reserve.new.self.heading bodies b (image c.reserve.new.self.file) × LeavesOthers (g.D.Disk.disk c.create_generation.new.disk) c.reserve.new.self.file image)) c.to_be_bytes.ensures
    (c.append.ensures.any_moment mid.0 bodies mid.1 between))
