use Rattle.std.proofs.Common.{List, ap, subst}
use Rattle.edge_memory.specs.declared.change.Entry.{Entry}
use Rattle.edge_memory.specs.Entries.{content, left}
use Rattle.edge_memory.specs.Moments.{made_all}
use Rattle.edge_memory.proofs.disk.image.image_is_left_since.Goals as goal

pub returns-clause-now : goal.returns-clause-now
returns-clause-now c = λ file bytes is_left.
    let log = c.args.disk.now.log in
    subst (λ (es : List Entry). left file es bytes) (made_all log.calls log.entries.items log.numbered) is_left

pub returns-clause-files_now : goal.returns-clause-files_now
returns-clause-files_now c = λ file.
    let log = c.args.disk.now.log in
    ap (content file) (made_all log.calls log.entries.items log.numbered)
