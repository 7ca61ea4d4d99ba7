use Rattle.std.proofs.Common.{◌≡◌, ◌≢◌, inl, inr, [], ◌∷◌, List, ℕ, ◌∙◌, ap, subst, arith}
use Rattle.edge_traits.proofs.Moments.{run_on, widened}
use Rattle.disk_journal.specs.Journal.{IsAtRest}
use Rattle.journal_book.proofs.Alone.{alone_narrower, alone_on, one_alone}
use Rattle.journal_book.proofs.Beginning.{left_at_rest}
use Rattle.journal_book.proofs.Flushing.{rests_elsewhere}
use Rattle.journal_book.proofs.create.make_files.Goals as goal
use Rattle.store_image.specs.Files.{heading_of, written_format}

pub returns-in-Ok-create_journal-clause-root : goal.returns-in-Ok-create_journal-clause-root
returns-in-Ok-create_journal-clause-root g c = λ files after told now.
    let mid = c.in-Ok.ensures.elsewhere files told in
    subst (λ (b : List ℕ). IsAtRest c.in-Ok-create_journal.root (g.D.Disk.disk c.create_journal-2.new.disk).may_leave (b ∷ []) after) c.to_be_bytes.ensures (c.in-Ok-create_journal.ensures.at_rest mid.0 after mid.1 now)

apart : (file : ℕ) → file ≡ 17 → file ≢ 0
apart file is same = omega (arith, is, same)

root_apart : (file : ℕ) → file ≡ 17 → 0 ≢ file
root_apart file is same = omega (arith, is, same)

pub returns-in-Ok-create_journal-clause-journal : goal.returns-in-Ok-create_journal-clause-journal
returns-in-Ok-create_journal-clause-journal g c = λ files after told now.
    let mid = c.in-Ok.ensures.elsewhere files told in
    rests_elsewhere (g.D.Disk.disk c.create_journal.new.disk) (g.D.Disk.disk c.create_journal-2.new.disk) c.in-Ok.journal (c.args.code.now ∷ []) mid.0 after 0
    (apart c.in-Ok.journal.file (ap (λ j. j.file) c.in-Ok.ensures.journal ∙ c.generation_file.ensures)) (c.in-Ok-create_journal.ensures.elsewhere mid.0 mid.1) now c.in-Ok-create_journal.ensures.crash_elsewhere
    (c.in-Ok.ensures.at_rest files mid.0 told mid.1)

-- the generation's file, and then the root
pub returns-in-Err-clause-others : goal.returns-in-Err-clause-others
returns-in-Err-clause-others g c = alone_narrower (λ file apart same. apart.1 (same ∙ c.generation_file.ensures)) (one_alone _ c.create_journal.ensures.elsewhere c.create_journal.ensures.crash_elsewhere c.create_journal.ensures.others_any_moment)

pub returns-in-Err-clause-generation_first : goal.returns-in-Err-clause-generation_first
returns-in-Err-clause-generation_first g c = λ files told. widened (λ image left. inl (left 0 (root_apart _ c.generation_file.ensures))) c.create_journal.ensures.others_any_moment

pub returns-in-Ok-create_journal-clause-others : goal.returns-in-Ok-create_journal-clause-others
returns-in-Ok-create_journal-clause-others g c =
    alone_on
    (alone_narrower (λ file apart same. apart.1 (same ∙ c.generation_file.ensures)) (one_alone _ c.create_journal.ensures.elsewhere c.create_journal.ensures.crash_elsewhere c.create_journal.ensures.others_any_moment))
    (alone_narrower (λ file apart. apart.0) (one_alone 0 c.create_journal-2.ensures.elsewhere c.create_journal-2.ensures.crash_elsewhere c.create_journal-2.ensures.others_any_moment))

pub returns-in-Ok-create_journal-clause-generation_first : goal.returns-in-Ok-create_journal-clause-generation_first
returns-in-Ok-create_journal-clause-generation_first g c = λ files told.
    let mid = c.in-Ok.ensures.elsewhere files told in
    let journal = c.in-Ok.ensures.journal in
    run_on (widened (λ image left. inl (left 0 (root_apart _ c.generation_file.ensures))) c.create_journal.ensures.others_any_moment)
    (widened
    (λ image left.
    inr (left_at_rest c.in-Ok.journal (g.D.Disk.disk c.create_journal.new.disk).may_leave (c.args.code.now ∷ []) mid.0 17 (heading_of written_format 0) (ap (λ j. j.file) journal ∙ c.generation_file.ensures) (ap (λ j. j.heading) journal ∙ c.heading_of-heading.ensures) (c.in-Ok.ensures.at_rest files mid.0 told mid.1) (image 17) (left 17 (λ same. omega (arith, same)))))
    c.create_journal-2.ensures.others_any_moment)

pub returns-in-Err-create_journal-clause-others : goal.returns-in-Err-create_journal-clause-others
returns-in-Err-create_journal-clause-others g c =
    alone_on
    (alone_narrower (λ file apart same. apart.1 (same ∙ c.generation_file.ensures)) (one_alone _ c.create_journal.ensures.elsewhere c.create_journal.ensures.crash_elsewhere c.create_journal.ensures.others_any_moment))
    (alone_narrower (λ file apart. apart.0) (one_alone 0 c.create_journal-2.ensures.elsewhere c.create_journal-2.ensures.crash_elsewhere c.create_journal-2.ensures.others_any_moment))

pub returns-in-Err-create_journal-clause-generation_first : goal.returns-in-Err-create_journal-clause-generation_first
returns-in-Err-create_journal-clause-generation_first g c = λ files told.
    let mid = c.in-Ok.ensures.elsewhere files told in
    let journal = c.in-Ok.ensures.journal in
    run_on (widened (λ image left. inl (left 0 (root_apart _ c.generation_file.ensures))) c.create_journal.ensures.others_any_moment)
    (widened
    (λ image left.
    inr (left_at_rest c.in-Ok.journal (g.D.Disk.disk c.create_journal.new.disk).may_leave (c.args.code.now ∷ []) mid.0 17 (heading_of written_format 0) (ap (λ j. j.file) journal ∙ c.generation_file.ensures) (ap (λ j. j.heading) journal ∙ c.heading_of-heading.ensures) (c.in-Ok.ensures.at_rest files mid.0 told mid.1) (image 17) (left 17 (λ same. omega (arith, same)))))
    c.create_journal-2.ensures.others_any_moment)
