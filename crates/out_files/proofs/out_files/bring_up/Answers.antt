use Rattle.std.proofs.Common.{◌≤◌, take, sym, ◌∙◌, arith}
use Rattle.std.proofs.lemmas.List.{append-nil}
use Rattle.out_files.proofs.Runs.{one_call, one_look, then_run, shortening_keeps, told_before}
use Rattle.out_files.proofs.out_files.bring_up.Goals as goal

pub returns-in_err-end-clause-any_moment : goal.returns-in_err-end-clause-any_moment
returns-in_err-end-clause-any_moment g c =
    let looked = one_look c.args.file c.args.sealed (g.met.D.Disk.only_now c.args.disk.now) c.len.ensures.time c.len.ensures.told c.len.ensures.crash c.len.ensures.count in
    let lined = then_run looked c.write_lines.ensures.run in
    lined.any_moment

pub returns-in_err-end-clause-others_any_moment : goal.returns-in_err-end-clause-others_any_moment
returns-in_err-end-clause-others_any_moment g c =
    let looked = one_look c.args.file c.args.sealed (g.met.D.Disk.only_now c.args.disk.now) c.len.ensures.time c.len.ensures.told c.len.ensures.crash c.len.ensures.count in
    let lined = then_run looked c.write_lines.ensures.run in
    lined.others_any_moment

pub cut-requires : goal.cut-requires
cut-requires g c files told =
    let old = told_before _ _ c.write_lines.ensures.run.untold files told in
    (c.in_ok-end.ensures.written old.0 files old.1 told).within

pub returns-in_err-cut-clause-any_moment : goal.returns-in_err-cut-clause-any_moment
returns-in_err-cut-clause-any_moment g c =
    let looked = one_look c.args.file c.args.sealed (g.met.D.Disk.only_now c.args.disk.now) c.len.ensures.time c.len.ensures.told c.len.ensures.crash c.len.ensures.count in
    let lined = then_run looked c.write_lines.ensures.run in
    let above : c.args.sealed ≤ c.in_ok-end.end = omega (arith, c.in_ok-end.ensures.end) in
    let cut = then_run lined (one_call c.args.file c.args.sealed (g.met.D.Disk.only_now c.write_lines.new.disk) c.cut.ensures.time c.cut.ensures.elsewhere c.cut.ensures.untold c.cut.ensures.crash_elsewhere
    (shortening_keeps (g.D.Disk.disk c.write_lines.new.disk) (g.D.Disk.disk c.cut.new.self) c.args.file c.args.sealed c.in_ok-end.end above c.cut.ensures.crash) c.cut.ensures.count) in
    cut.any_moment

pub returns-in_err-cut-clause-others_any_moment : goal.returns-in_err-cut-clause-others_any_moment
returns-in_err-cut-clause-others_any_moment g c =
    let looked = one_look c.args.file c.args.sealed (g.met.D.Disk.only_now c.args.disk.now) c.len.ensures.time c.len.ensures.told c.len.ensures.crash c.len.ensures.count in
    let lined = then_run looked c.write_lines.ensures.run in
    let above : c.args.sealed ≤ c.in_ok-end.end = omega (arith, c.in_ok-end.ensures.end) in
    let cut = then_run lined (one_call c.args.file c.args.sealed (g.met.D.Disk.only_now c.write_lines.new.disk) c.cut.ensures.time c.cut.ensures.elsewhere c.cut.ensures.untold c.cut.ensures.crash_elsewhere
    (shortening_keeps (g.D.Disk.disk c.write_lines.new.disk) (g.D.Disk.disk c.cut.new.self) c.args.file c.args.sealed c.in_ok-end.end above c.cut.ensures.crash) c.cut.ensures.count) in
    cut.others_any_moment

pub returns-in_err-sync-clause-any_moment : goal.returns-in_err-sync-clause-any_moment
returns-in_err-sync-clause-any_moment g c =
    let looked = one_look c.args.file c.args.sealed (g.met.D.Disk.only_now c.args.disk.now) c.len.ensures.time c.len.ensures.told c.len.ensures.crash c.len.ensures.count in
    let lined = then_run looked c.write_lines.ensures.run in
    let above : c.args.sealed ≤ c.in_ok-end.end = omega (arith, c.in_ok-end.ensures.end) in
    let cut = then_run lined (one_call c.args.file c.args.sealed (g.met.D.Disk.only_now c.write_lines.new.disk) c.cut.ensures.time c.cut.ensures.elsewhere c.cut.ensures.untold c.cut.ensures.crash_elsewhere
    (shortening_keeps (g.D.Disk.disk c.write_lines.new.disk) (g.D.Disk.disk c.cut.new.self) c.args.file c.args.sealed c.in_ok-end.end above c.cut.ensures.crash) c.cut.ensures.count) in
    let synced = then_run cut (one_look c.args.file c.args.sealed (g.met.D.Disk.only_now c.cut.new.self) c.sync.ensures.time c.sync.ensures.told c.sync.ensures.crash c.sync.ensures.count) in
    synced.any_moment

pub returns-in_err-sync-clause-others_any_moment : goal.returns-in_err-sync-clause-others_any_moment
returns-in_err-sync-clause-others_any_moment g c =
    let looked = one_look c.args.file c.args.sealed (g.met.D.Disk.only_now c.args.disk.now) c.len.ensures.time c.len.ensures.told c.len.ensures.crash c.len.ensures.count in
    let lined = then_run looked c.write_lines.ensures.run in
    let above : c.args.sealed ≤ c.in_ok-end.end = omega (arith, c.in_ok-end.ensures.end) in
    let cut = then_run lined (one_call c.args.file c.args.sealed (g.met.D.Disk.only_now c.write_lines.new.disk) c.cut.ensures.time c.cut.ensures.elsewhere c.cut.ensures.untold c.cut.ensures.crash_elsewhere
    (shortening_keeps (g.D.Disk.disk c.write_lines.new.disk) (g.D.Disk.disk c.cut.new.self) c.args.file c.args.sealed c.in_ok-end.end above c.cut.ensures.crash) c.cut.ensures.count) in
    let synced = then_run cut (one_look c.args.file c.args.sealed (g.met.D.Disk.only_now c.cut.new.self) c.sync.ensures.time c.sync.ensures.told c.sync.ensures.crash c.sync.ensures.count) in
    synced.others_any_moment

pub returns-clause-completed : goal.returns-clause-completed
returns-clause-completed g c files after told told_after =
    let found = c.len.ensures.told ∙ told in
    let mid = c.write_lines.ensures.run.elsewhere files found in
    let written = c.in_ok-end.ensures.written files mid.0 found mid.1 in
    c.in_ok-cut.ensures.shortened mid.0 after mid.1 (sym c.sync.ensures.told ∙ told_after) ∙ sym (append-nil (take c.in_ok-end.end (mid.0 c.args.file))) ∙ written.so_far

pub returns-clause-any_moment : goal.returns-clause-any_moment
returns-clause-any_moment g c =
    let looked = one_look c.args.file c.args.sealed (g.met.D.Disk.only_now c.args.disk.now) c.len.ensures.time c.len.ensures.told c.len.ensures.crash c.len.ensures.count in
    let lined = then_run looked c.write_lines.ensures.run in
    let above : c.args.sealed ≤ c.in_ok-end.end = omega (arith, c.in_ok-end.ensures.end) in
    let cut = then_run lined (one_call c.args.file c.args.sealed (g.met.D.Disk.only_now c.write_lines.new.disk) c.cut.ensures.time c.cut.ensures.elsewhere c.cut.ensures.untold c.cut.ensures.crash_elsewhere
    (shortening_keeps (g.D.Disk.disk c.write_lines.new.disk) (g.D.Disk.disk c.cut.new.self) c.args.file c.args.sealed c.in_ok-end.end above c.cut.ensures.crash) c.cut.ensures.count) in
    let synced = then_run cut (one_look c.args.file c.args.sealed (g.met.D.Disk.only_now c.cut.new.self) c.sync.ensures.time c.sync.ensures.told c.sync.ensures.crash c.sync.ensures.count) in
    synced.any_moment

pub returns-clause-others_any_moment : goal.returns-clause-others_any_moment
returns-clause-others_any_moment g c =
    let looked = one_look c.args.file c.args.sealed (g.met.D.Disk.only_now c.args.disk.now) c.len.ensures.time c.len.ensures.told c.len.ensures.crash c.len.ensures.count in
    let lined = then_run looked c.write_lines.ensures.run in
    let above : c.args.sealed ≤ c.in_ok-end.end = omega (arith, c.in_ok-end.ensures.end) in
    let cut = then_run lined (one_call c.args.file c.args.sealed (g.met.D.Disk.only_now c.write_lines.new.disk) c.cut.ensures.time c.cut.ensures.elsewhere c.cut.ensures.untold c.cut.ensures.crash_elsewhere
    (shortening_keeps (g.D.Disk.disk c.write_lines.new.disk) (g.D.Disk.disk c.cut.new.self) c.args.file c.args.sealed c.in_ok-end.end above c.cut.ensures.crash) c.cut.ensures.count) in
    let synced = then_run cut (one_look c.args.file c.args.sealed (g.met.D.Disk.only_now c.cut.new.self) c.sync.ensures.time c.sync.ensures.told c.sync.ensures.crash c.sync.ensures.count) in
    synced.others_any_moment
