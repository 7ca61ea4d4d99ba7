use Rattle.std.proofs.Common.{◌≡◌, length, ap, ◌∙◌, arith}
use Rattle.edge_traits.specs.Disk.{overwritten}
use Rattle.out_files.proofs.Runs.{one_call, write_keeps}
use Rattle.out_files.proofs.Contents.{written_out}
use Rattle.out_files.proofs.out_files.write_out.Goals as goal

pub returns-in_err-write_at-clause-run : goal.returns-in_err-write_at-clause-run
returns-in_err-write_at-clause-run g c sealed above =
    one_call c.args.file sealed (g.met.D.Disk.only_now c.args.disk.now)
    c.write_at.ensures.time c.write_at.ensures.elsewhere c.write_at.ensures.untold c.write_at.ensures.crash_elsewhere
    (write_keeps (g.D.Disk.disk c.args.disk.now) (g.D.Disk.disk c.write_at.new.self) c.args.file sealed c.args.at _ above c.write_at.ensures.crash) c.write_at.ensures.count

pub returns-clause-written : goal.returns-clause-written
returns-clause-written g c files after text told told_after before =
    let same = c.deref.ensures.value in
    let is = c.in_ok-write_at.ensures.written files after told told_after ∙ ap (overwritten (files c.args.file) c.args.at) same in
    let count : c.len-2.result ≡ length c.args.buffer.now.items = omega arith in
    rw (count, c.clear.ensures.items) (written_out c.args.at c.args.buffer.now.items text (files c.args.file) (after c.args.file) before is)

pub returns-clause-run : goal.returns-clause-run
returns-clause-run g c sealed above =
    one_call c.args.file sealed (g.met.D.Disk.only_now c.args.disk.now)
    c.write_at.ensures.time c.write_at.ensures.elsewhere c.write_at.ensures.untold c.write_at.ensures.crash_elsewhere
    (write_keeps (g.D.Disk.disk c.args.disk.now) (g.D.Disk.disk c.write_at.new.self) c.args.file sealed c.args.at _ above c.write_at.ensures.crash) c.write_at.ensures.count
