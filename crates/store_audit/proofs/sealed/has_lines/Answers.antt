use Rattle.std.proofs.Common.{◌≡◌, List, ℕ, get_or, sym, ap, subst, ◌∙◌, ◌+◌, length, arith}
use Rattle.disk_journal.proofs.Walking.{reads_on}
use Rattle.out_files.proofs.Contents.{lines_no_longer}
use Rattle.store_audit.proofs.Following.{never, unless}
use Rattle.store_audit.proofs.Standing.{one_more, one_of, place_more}
use Rattle.store_audit.proofs.sealed.has_lines.Goals as goal

pub returns-in-Ok-false-clause-have : goal.returns-in-Ok-false-clause-have
returns-in-Ok-false-clause-have g c = λ files told.
    let lines = c.args.lines.now in
    let i = c.lines.line-index in
    let line = c.bytes.result.now in
    let is : line ≡ get_or lines i line = subst (λ (l : List ℕ). l ≡ get_or lines i l) (sym c.bytes.ensures) c.line-item.is in
    never (λ all.
    unless c.in-Ok-false.field-0 c.in-Ok-false.field-0-test (c.in-Ok-false.ensures.has files (c.lines.invariant.reads.told ∙ told))
    (one_of lines i line c.args.start c.lines.at (files c.args.file) c.lines-test.true is c.lines.invariant.place all))

pub overflow_add-at-in-lines : goal.overflow_add-at-in-lines
overflow_add-at-in-lines g c =
    let lines = c.args.lines.now in
    let i = c.lines.line-index in
    let next = place_more lines i c.line-item.result c.args.start c.lines.at _ c.lines-test.true c.line-item.is c.lines.invariant.place (ap length c.bytes-in-lines.ensures) in
    omega (arith, next, lines_no_longer lines (i + 1), c.requires.small)

pub lines-preserved : goal.lines-preserved
lines-preserved g c =
    let lines = c.args.lines.now in
    let i = c.lines.line-index in
    let line = c.bytes.result.now in
    let is : line ≡ get_or lines i line = subst (λ (l : List ℕ). l ≡ get_or lines i l) (sym c.bytes.ensures) c.line-item.is in
    let was = c.lines.invariant in
    record {
      reads = reads_on was.reads c.in-Ok-true.ensures.reads;
      place = place_more lines i c.line-item.result c.args.start c.lines.at _ c.lines-test.true c.line-item.is was.place (ap length c.bytes-in-lines.ensures);
      stand = λ files told.
          one_more lines i line c.args.start c.lines.at (files c.args.file) c.lines-test.true is was.place (was.stand files told) ((c.in-Ok-true.ensures.has files (was.reads.told ∙ told)).0 c.in-Ok-true.field-0-test);
    }
