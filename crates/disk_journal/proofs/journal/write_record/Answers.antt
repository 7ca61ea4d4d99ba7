use Rattle.edge_traits.proofs.Moments.{widened, run_on}
use Rattle.std.proofs.lemmas.Result.{on_ok_weaker}
use Rattle.disk_journal.proofs.Appends.{gate_within, appended, first_leaves, second_leaves}
use Rattle.disk_journal.proofs.journal.write_record.Goals as goal

pub write_durably-requires-2-clause-within : goal.write_durably-requires-2-clause-within
write_durably-requires-2-clause-within g c = λ files told.
    gate_within _ _ c.args.file c.args.end c.args.bytes.now files c.write_durably.ensures.untold c.requires.within c.in_ok-write_durably.ensures.written told

pub returns-in_err-write_durably-clause-any_moment : goal.returns-in_err-write_durably-clause-any_moment
returns-in_err-write_durably-clause-any_moment g c = λ files heading bodies body told at_end is_record.
    widened (λ image left. (first_leaves heading c.args.end bodies _ (files c.args.file) at_end body c.args.bytes.now is_record (image c.args.file) left.0, left.1)) c.write_durably.ensures.any_moment

pub returns-clause-any_moment : goal.returns-clause-any_moment
returns-clause-any_moment g c = λ files heading bodies body told at_end is_record.
    let mid = c.in_ok-write_durably.ensures.elsewhere files told in
    let staged = c.in_ok-write_durably.ensures.written files mid.0 told mid.1 in
    let only = c.in_ok-write_durably.ensures.durable mid.0 mid.1 in
    run_on
    (widened (λ image left. (first_leaves heading c.args.end bodies _ (files c.args.file) at_end body c.args.bytes.now is_record (image c.args.file) left.0, left.1)) c.write_durably.ensures.any_moment)
    (widened (λ image left. (second_leaves heading c.args.end bodies _ (files c.args.file) at_end body c.args.bytes.now is_record (mid.0 c.args.file) _ staged only (image c.args.file) left.0, λ other ne. c.write_durably.ensures.crash_elsewhere other ne (image other) (left.1 other ne))) c.write_durably-2.ensures.any_moment)

pub returns-clause-written : goal.returns-clause-written
returns-clause-written g c = λ files after heading bodies body told now at_end is_record.
    let mid = c.in_ok-write_durably.ensures.elsewhere files told in
    let staged = c.in_ok-write_durably.ensures.written files mid.0 told mid.1 in
    on_ok_weaker c.write_durably-2.result (λ opened. appended heading c.args.end bodies _ (files c.args.file) at_end body c.args.bytes.now is_record (mid.0 c.args.file) (after c.args.file) staged opened) (c.write_durably-2.ensures.written mid.0 after mid.1 now)
