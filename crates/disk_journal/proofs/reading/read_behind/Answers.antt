use Rattle.std.proofs.Common.{◌≡◌, ◌<◌, ◌+◌, drop, length, sym, ◌∙◌, ap, subst, arith, Err, MatchOption, IfSome}
use Rattle.disk_journal.specs.Reads.{BeginsWithBody, IsReadTo, IsClosed}
use Rattle.disk_journal.proofs.Walking.{reads_on, pushed, place_more, record_read}
use Rattle.disk_journal.proofs.reading.read_behind.Goals as goal

pub returns-in-Err-Damaged-clause-records : goal.returns-in-Err-Damaged-clause-records
returns-in-Err-Damaged-clause-records g c = λ files heading told end begins.
    let so_far = c.records.invariant in
    record {
      to = so_far.to files heading told end begins;
      closed = λ is. let none = is in absurd (cc);
      cut = λ is. (c.in-Err-Damaged.ensures.damaged files _ (so_far.reads.told ∙ told) end (ap Err c.in-Err-Damaged.field-0-is)).1;
    }

pub records-preserved : goal.records-preserved
records-preserved g c =
    let so_far = c.records.invariant in
    let body = c.in-Ok-Some.body in
    let size : length c.bytes.result.now ≡ length body = ap length c.bytes.ensures in
    let longer = pushed c.push.result c.push.ensures.ok (sym c.is_err.ensures.value ∙ c.if-is_err.false) in
    let fits : c.records.at + 9 + length body < c.args.end = subst (λ o. IfSome o (λ b. c.records.at + 9 + length b < c.args.end)) c.in-Ok-Some.field-0-is c.in-Ok-Some.ensures.fits in
    record {
      reads = reads_on so_far.reads c.in-Ok-Some.ensures.reads;
      place = place_more _ _ _ _ _ so_far.place longer size;
      within = omega (arith, fits, size);
      to = λ files heading told end begins.
          let rest = drop c.records.at (files c.args.file) in
          let here : BeginsWithBody rest body = subst (λ o. MatchOption o (IsClosed rest) (BeginsWithBody rest)) c.in-Ok-Some.field-0-is (c.in-Ok-Some.ensures.record files (so_far.reads.told ∙ told) end) in
          let next = record_read heading c.records.bodies c.records.at body (files c.args.file) (so_far.to files heading told end begins) here in
          subst (λ n. IsReadTo heading c.push.new.self (c.records.at + (9 + n)) (drop (c.records.at + (9 + n)) (files c.args.file)) (files c.args.file)) (sym size)
          (subst (λ bodies. IsReadTo heading bodies (c.records.at + (9 + length body)) (drop (c.records.at + (9 + length body)) (files c.args.file)) (files c.args.file)) (sym longer) next);
    }
