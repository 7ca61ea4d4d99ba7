use Rattle.std.proofs.Common.{length, refl, sym, ◌∙◌, ap, arith}
use Rattle.disk_journal.proofs.Appends.{written_anew}
use Rattle.disk_journal.proofs.journal.Journal.create.Goals as goal

pub returns-clause-created : goal.returns-clause-created
returns-clause-created g c = λ files after told now.
    let mid = c.in_ok-cut.ensures.elsewhere files told in
    written_anew c.in_ok-bytes.bytes.items (mid.0 c.args.file) (after c.args.file) c.deref.result.now _ (c.in_ok-cut.ensures.shortened files mid.0 told mid.1) (c.in_ok-write_durably.ensures.written mid.0 after mid.1 now) c.deref.ensures.value c.in_ok-bytes.ensures

pub returns-clause-at_rest : goal.returns-clause-at_rest
returns-clause-at_rest g c = λ files after told now.
    let mid = c.in_ok-cut.ensures.elsewhere files told in
    let content = written_anew c.in_ok-bytes.bytes.items (mid.0 c.args.file) (after c.args.file) c.deref.result.now _ (c.in_ok-cut.ensures.shortened files mid.0 told mid.1) (c.in_ok-write_durably.ensures.written mid.0 after mid.1 now) c.deref.ensures.value c.in_ok-bytes.ensures in
    record {
      whole = refl;
      gate = 0;
      closed = omega arith;
      lengths = (omega (arith, c.requires.small), tt);
      content = content;
      end = omega (arith, c.len.ensures, c.in_ok-bytes.bytes.ok, ap length (c.in_ok-bytes.ensures ∙ sym content));
      durable = c.in_ok-write_durably.ensures.durable after now;
    }
