use Rattle.std.proofs.Common.{◌∙◌, List, ℕ, sym, ap, subst}
use Rattle.step_code.specs.declared.output.Output.{Output}
use Rattle.step_code.specs.History.{replay}
use Rattle.store_image.specs.Damage.{AreNoHistory, IsDamagedFile}
use Rattle.store_image.specs.Files.{generation_file, heading_of}
use Rattle.store_image.specs.Opens.{AreLong}
use Rattle.journal_book.specs.declared.book_fault.BookFault.{BookFault}
use Rattle.journal_book.specs.Opening.{in_file, IsFileFault, IsReopenFault, IsShortFault}
use Rattle.journal_book.specs.Alone.{IsBeside}
use Rattle.journal_book.proofs.Alone.{alone_narrower, alone_on, reads_alone, recovers_alone}
use Rattle.journal_book.proofs.Opened.{generation_fault, journal_short, opens_with, outs_fault, root_apart, root_fault, short_with, some_bytes, store_rests}
use Rattle.journal_book.proofs.Recovering.{call_reads, keeps_on, reads_keep}
use Rattle.journal_book.proofs.opening.open_store.Goals as goal
use Rattle.step_code.specs.Code.{first_format}

pub returns-in-Err-clause-fault : goal.returns-in-Err-clause-fault
returns-in-Err-clause-fault g c =
    subst (λ (e : BookFault). IsReopenFault g.R.Rules.meaning (g.D.Disk.disk c.args.disk.now).told e) (sym c.in_file.ensures)
    (root_fault g.R.Rules.meaning (g.D.Disk.disk c.args.disk.now).told c.in-Err.fault (λ files told. some_bytes c.in_ok-have.have (files 0) (c.in_ok-have.ensures.len files told) c.if-have-eq0.false)
    (λ files told. c.in-Err.ensures.fault files (c.len.ensures.told ∙ told)))

pub returns-in-Err-clause-histories : goal.returns-in-Err-clause-histories
returns-in-Err-clause-histories g c =
    keeps_on (reads_keep (g.met.D.Disk.only_now c.args.disk.now) (call_reads c.len.ensures.told c.len.ensures.crash c.len.ensures.time c.len.ensures.count)) c.open_root.ensures.recovers.histories

pub returns-in-Err-open_generation-clause-fault : goal.returns-in-Err-open_generation-clause-fault
returns-in-Err-open_generation-clause-fault g c =
    let gen = c.in-Ok.found.1 in
    let told_is = (g.D.Disk.disk c.args.disk.now).told in
    subst (λ (e : BookFault). IsReopenFault g.R.Rules.meaning told_is e) (sym (c.in_file-in-Err-open_generation.ensures ∙ ap (λ (n : ℕ). in_file n c.in-Err-open_generation.fault) c.generation_file.ensures))
    (generation_fault g.R.Rules.meaning told_is gen c.in-Err-open_generation.fault (λ files told. some_bytes c.in_ok-have.have (files 0) (c.in_ok-have.ensures.len files told) c.if-have-eq0.false)
    (λ files told. c.in-Ok.ensures.named files (c.len.ensures.told ∙ told))
    (λ files told.
    let mid = c.open_root.ensures.recovers.elsewhere files (c.len.ensures.told ∙ told) in
    subst (λ (content : List ℕ). IsFileFault (IsDamagedFile (heading_of first_format gen) (AreNoHistory g.R.Rules.meaning) content) c.in-Err-open_generation.fault) (mid.2 (generation_file gen) (λ same. root_apart gen (sym same)))
    (c.in-Err-open_generation.ensures.fault mid.0 mid.1)))

pub returns-in-Err-open_generation-clause-histories : goal.returns-in-Err-open_generation-clause-histories
returns-in-Err-open_generation-clause-histories g c =
    keeps_on (reads_keep (g.met.D.Disk.only_now c.args.disk.now) (call_reads c.len.ensures.told c.len.ensures.crash c.len.ensures.time c.len.ensures.count))
    (keeps_on c.open_root.ensures.recovers.histories c.open_generation.ensures.recovers.histories)

pub returns-in-Ok-check_outs-clause-length : goal.returns-in-Ok-check_outs-clause-length
returns-in-Ok-check_outs-clause-length g c =
    let found = c.in-Ok-open_generation.ensures.history in
    journal_short g.R.Rules.meaning found.0 c.in-Ok-open_generation.found.1.base.value c.in-Ok-open_generation.found.1.steps c.in-Ok.found.1 c.in-Ok-open_generation.found.0.length found.1 found.2

pub returns-in-Ok-check_outs-clause-opens : goal.returns-in-Ok-check_outs-clause-opens
returns-in-Ok-check_outs-clause-opens g c = λ files told.
    let m = g.R.Rules.meaning in
    let history = c.in-Ok-open_generation.found.1 in
    let found = c.in-Ok-open_generation.ensures.history in
    let told_len = c.len.ensures.told ∙ told in
    let mid = c.open_root.ensures.recovers.elsewhere files told_len in
    let last = c.open_generation.ensures.recovers.elsewhere mid.0 mid.1 in
    let outs = ap (λ core. core.state.outs) c.in-Ok-open_generation.ensures.core in
    opens_with m files mid.0 last.0 c.in-Ok.found.1 history.base.value history.steps found.0 (c.in-Ok.ensures.named files told_len) mid.2 (found.3 mid.0 mid.1) found.1 last.2
    (subst (λ (os : List Output). AreLong 0 os last.0) outs (c.in-Ok-check_outs.ensures.long last.0 last.1))

pub returns-in-Ok-check_outs-clause-long : goal.returns-in-Ok-check_outs-clause-long
returns-in-Ok-check_outs-clause-long g c = λ files told.
    let mid = c.open_root.ensures.recovers.elsewhere files (c.len.ensures.told ∙ told) in
    let last = c.open_generation.ensures.recovers.elsewhere mid.0 mid.1 in
    (last.0, c.check_outs.ensures.reads.told ∙ last.1, c.in-Ok-check_outs.ensures.long last.0 last.1)

pub returns-in-Ok-check_outs-clause-at_rest : goal.returns-in-Ok-check_outs-clause-at_rest
returns-in-Ok-check_outs-clause-at_rest g c = λ files after told now.
    let m = g.R.Rules.meaning in
    let history = c.in-Ok-open_generation.found.1 in
    let found = c.in-Ok-open_generation.ensures.history in
    let told_len = c.len.ensures.told ∙ told in
    let mid = c.open_root.ensures.recovers.elsewhere files told_len in
    let reads = c.check_outs.ensures.reads in
    let last = sym reads.told ∙ now in
    let root = c.in-Ok.ensures.at_rest files mid.0 told_len mid.1 in
    store_rests (g.D.Disk.disk c.open_root.new.disk) (g.D.Disk.disk c.open_generation.new.disk) (g.D.Disk.disk c.check_outs.new.disk) m c.in-Ok.found.0 c.in-Ok-open_generation.found.0 c.in-Ok.found.1 history.base.value history.steps root.0
    found.0 mid.0 after c.in-Ok.ensures.journal.0 root.1 root.2 mid.1 c.open_generation.ensures.recovers last found.1 (found.4 mid.0 after mid.1 last) reads.crash

pub returns-in-Ok-check_outs-clause-histories : goal.returns-in-Ok-check_outs-clause-histories
returns-in-Ok-check_outs-clause-histories g c =
    keeps_on (reads_keep (g.met.D.Disk.only_now c.args.disk.now) (call_reads c.len.ensures.told c.len.ensures.crash c.len.ensures.time c.len.ensures.count))
    (keeps_on c.open_root.ensures.recovers.histories (keeps_on c.open_generation.ensures.recovers.histories (reads_keep (g.met.D.Disk.only_now c.open_generation.new.disk) c.check_outs.ensures.reads)))

pub returns-in-Err-check_outs-clause-fault : goal.returns-in-Err-check_outs-clause-fault
returns-in-Err-check_outs-clause-fault g c =
    let m = g.R.Rules.meaning in
    let history = c.in-Ok-open_generation.found.1 in
    let found = c.in-Ok-open_generation.ensures.history in
    let outs = replay m history.base.value history.steps in
    let same = ap (λ core. core.state.outs) c.in-Ok-open_generation.ensures.core in
    let bad = subst (λ (os : List Output). IsShortFault os (g.D.Disk.disk c.open_generation.new.disk).told c.in-Err-check_outs.fault) same c.in-Err-check_outs.ensures.short in
    outs_fault m (g.D.Disk.disk c.args.disk.now).told (g.D.Disk.disk c.open_generation.new.disk).told c.in-Ok.found.1 outs.outs c.in-Err-check_outs.fault
    (λ files told. some_bytes c.in_ok-have.have (files 0) (c.in_ok-have.ensures.len files told) c.if-have-eq0.false) (λ files told. c.in-Ok.ensures.named files (c.len.ensures.told ∙ told))
    (λ files file at told short.
    let mid = c.open_root.ensures.recovers.elsewhere files (c.len.ensures.told ∙ told) in
    let last = c.open_generation.ensures.recovers.elsewhere mid.0 mid.1 in
    short_with m files mid.0 last.0 c.in-Ok.found.1 history.base.value history.steps found.0 (c.in-Ok.ensures.named files (c.len.ensures.told ∙ told)) mid.2 (found.3 mid.0 mid.1) found.1 last.2 file at (short last.0 last.1))
    bad

pub returns-in-Err-check_outs-clause-histories : goal.returns-in-Err-check_outs-clause-histories
returns-in-Err-check_outs-clause-histories g c =
    keeps_on (reads_keep (g.met.D.Disk.only_now c.args.disk.now) (call_reads c.len.ensures.told c.len.ensures.crash c.len.ensures.time c.len.ensures.count))
    (keeps_on c.open_root.ensures.recovers.histories (keeps_on c.open_generation.ensures.recovers.histories (reads_keep (g.met.D.Disk.only_now c.open_generation.new.disk) c.check_outs.ensures.reads)))

pub returns-in_err-have-clause-others : goal.returns-in_err-have-clause-others
returns-in_err-have-clause-others g c = λ files told. reads_alone (IsBeside files) (g.met.D.Disk.only_now c.args.disk.now) (call_reads c.len.ensures.told c.len.ensures.crash c.len.ensures.time c.len.ensures.count)

pub returns-then-have-eq0-clause-others : goal.returns-then-have-eq0-clause-others
returns-then-have-eq0-clause-others g c = λ files told. reads_alone (IsBeside files) (g.met.D.Disk.only_now c.args.disk.now) (call_reads c.len.ensures.told c.len.ensures.crash c.len.ensures.time c.len.ensures.count)

pub returns-in-Err-clause-others : goal.returns-in-Err-clause-others
returns-in-Err-clause-others g c = λ files told.
    let told_len = c.len.ensures.told ∙ told in
    alone_on (reads_alone (IsBeside files) (g.met.D.Disk.only_now c.args.disk.now) (call_reads c.len.ensures.told c.len.ensures.crash c.len.ensures.time c.len.ensures.count))
    (alone_narrower (λ file beside. beside.0) (recovers_alone 0 c.open_root.ensures.recovers files told_len))

pub returns-in-Err-open_generation-clause-others : goal.returns-in-Err-open_generation-clause-others
returns-in-Err-open_generation-clause-others g c = λ files told.
    let told_len = c.len.ensures.told ∙ told in
    let gen = c.in-Ok.found.1 in
    let mid = c.open_root.ensures.recovers.elsewhere files told_len in
    alone_on (reads_alone (IsBeside files) (g.met.D.Disk.only_now c.args.disk.now) (call_reads c.len.ensures.told c.len.ensures.crash c.len.ensures.time c.len.ensures.count))
    (alone_on (alone_narrower (λ file beside. beside.0) (recovers_alone 0 c.open_root.ensures.recovers files told_len))
    (alone_narrower (λ file beside. beside.1 gen (c.in-Ok.ensures.named files told_len)) (recovers_alone (generation_file gen) c.open_generation.ensures.recovers mid.0 mid.1)))

pub returns-in-Ok-check_outs-clause-others : goal.returns-in-Ok-check_outs-clause-others
returns-in-Ok-check_outs-clause-others g c = λ files told.
    let told_len = c.len.ensures.told ∙ told in
    let gen = c.in-Ok.found.1 in
    let mid = c.open_root.ensures.recovers.elsewhere files told_len in
    alone_on (reads_alone (IsBeside files) (g.met.D.Disk.only_now c.args.disk.now) (call_reads c.len.ensures.told c.len.ensures.crash c.len.ensures.time c.len.ensures.count))
    (alone_on (alone_narrower (λ file beside. beside.0) (recovers_alone 0 c.open_root.ensures.recovers files told_len))
    (alone_on (alone_narrower (λ file beside. beside.1 gen (c.in-Ok.ensures.named files told_len)) (recovers_alone (generation_file gen) c.open_generation.ensures.recovers mid.0 mid.1))
    (reads_alone (IsBeside files) (g.met.D.Disk.only_now c.open_generation.new.disk) c.check_outs.ensures.reads)))

pub returns-in-Err-check_outs-clause-others : goal.returns-in-Err-check_outs-clause-others
returns-in-Err-check_outs-clause-others g c = λ files told.
    let told_len = c.len.ensures.told ∙ told in
    let gen = c.in-Ok.found.1 in
    let mid = c.open_root.ensures.recovers.elsewhere files told_len in
    alone_on (reads_alone (IsBeside files) (g.met.D.Disk.only_now c.args.disk.now) (call_reads c.len.ensures.told c.len.ensures.crash c.len.ensures.time c.len.ensures.count))
    (alone_on (alone_narrower (λ file beside. beside.0) (recovers_alone 0 c.open_root.ensures.recovers files told_len))
    (alone_on (alone_narrower (λ file beside. beside.1 gen (c.in-Ok.ensures.named files told_len)) (recovers_alone (generation_file gen) c.open_generation.ensures.recovers mid.0 mid.1))
    (reads_alone (IsBeside files) (g.met.D.Disk.only_now c.open_generation.new.disk) c.check_outs.ensures.reads)))

pub returns-in-Ok-check_outs-clause-root : goal.returns-in-Ok-check_outs-clause-root
returns-in-Ok-check_outs-clause-root g c = λ files told. c.in-Ok.ensures.root files (c.len.ensures.told ∙ told)
