use Rattle.std.proofs.Common.{◌≡◌, inl, inr, ⊎_elim, [], ◌∷◌, List, ℕ, length, refl, sym, ◌∙◌, ap, subst, arith}
use Rattle.edge_traits.proofs.Moments.{run_on, widened}
use Rattle.disk_journal.specs.Journal.{IsAtRest}
use Rattle.step_code.specs.declared.base.Base.{Base}
use Rattle.step_code.specs.Code.{code_of_base, first_format}
use Rattle.journal_book.specs.Alone.{IsBesideNew}
use Rattle.journal_book.proofs.Alone.{alone_narrower, alone_on, reads_alone}
use Rattle.journal_book.proofs.Beginning.{first_holds, is_nothing, none_there, root_read}
use Rattle.journal_book.proofs.Recovering.{call_reads}
use Rattle.journal_book.proofs.create.make_store.Goals as goal

pub returns-in-Err-clause-fault : goal.returns-in-Err-clause-fault
returns-in-Err-clause-fault g c = c.in-Err.ensures.fault (g.D.Disk.disk c.args.disk.now).told

pub returns-in-Ok-make_files-clause-at_rest : goal.returns-in-Ok-make_files-clause-at_rest
returns-in-Ok-make_files-clause-at_rest g c = λ files after told now.
    let before = c.len.ensures.told ∙ told in
    let code : c.bytes.result.now ≡ code_of_base first_format c.of-base.result.value = c.bytes.ensures ∙ c.in-Ok-begin.ensures.code ∙ ap (λ (b : Base). code_of_base first_format b) (sym c.of-base.ensures) in
    record {
      before = [];
      given = (omega arith, tt);
      root_rests = c.in-Ok-make_files.ensures.root files after before now;
      records = [];
      journal_rests = subst (λ (b : List ℕ). IsAtRest c.in-Ok-make_files.journal (g.D.Disk.disk c.make_files.new.disk).may_leave (b ∷ []) after) code (c.in-Ok-make_files.ensures.journal files after before now);
      content = refl;
    }

pub returns-in-Ok-make_files-clause-empty : goal.returns-in-Ok-make_files-clause-empty
returns-in-Ok-make_files-clause-empty g c = λ files told. is_nothing _ c.in_ok-have.have (c.in_ok-have.ensures.len files told) c.if-have-ne0.false

pub returns-in-Err-make_files-clause-fault : goal.returns-in-Err-make_files-clause-fault
returns-in-Err-make_files-clause-fault g c = c.in-Err-make_files.ensures.fault g.R.Rules.meaning c.args.bundle.now (g.D.Disk.disk c.args.disk.now).told

-- the root was empty
pub returns-in-Err-clause-left_alone : goal.returns-in-Err-clause-left_alone
returns-in-Err-clause-left_alone g c = λ files told some. absurd (omega (arith, some, ap length (is_nothing _ c.in_ok-have.have (c.in_ok-have.ensures.len files told) c.if-have-ne0.false)))

pub returns-in-Err-clause-refused_empty : goal.returns-in-Err-clause-refused_empty
returns-in-Err-clause-refused_empty g c = λ files told refused. is_nothing _ c.in_ok-have.have (c.in_ok-have.ensures.len files told) c.if-have-ne0.false

pub returns-in-Err-begin-clause-left_alone : goal.returns-in-Err-begin-clause-left_alone
returns-in-Err-begin-clause-left_alone g c = λ files told some. absurd (omega (arith, some, ap length (is_nothing _ c.in_ok-have.have (c.in_ok-have.ensures.len files told) c.if-have-ne0.false)))

pub returns-in-Err-begin-clause-refused_empty : goal.returns-in-Err-begin-clause-refused_empty
returns-in-Err-begin-clause-refused_empty g c = λ files told refused. is_nothing _ c.in_ok-have.have (c.in_ok-have.ensures.len files told) c.if-have-ne0.false

pub returns-in-Ok-make_files-clause-left_alone : goal.returns-in-Ok-make_files-clause-left_alone
returns-in-Ok-make_files-clause-left_alone g c = λ files told some. absurd (omega (arith, some, ap length (is_nothing _ c.in_ok-have.have (c.in_ok-have.ensures.len files told) c.if-have-ne0.false)))

pub returns-in-Err-make_files-clause-left_alone : goal.returns-in-Err-make_files-clause-left_alone
returns-in-Err-make_files-clause-left_alone g c = λ files told some. absurd (omega (arith, some, ap length (is_nothing _ c.in_ok-have.have (c.in_ok-have.ensures.len files told) c.if-have-ne0.false)))

pub returns-in-Err-make_files-clause-refused_empty : goal.returns-in-Err-make_files-clause-refused_empty
returns-in-Err-make_files-clause-refused_empty g c = λ files told refused. is_nothing _ c.in_ok-have.have (c.in_ok-have.ensures.len files told) c.if-have-ne0.false

pub returns-in_err-have-clause-others : goal.returns-in_err-have-clause-others
returns-in_err-have-clause-others g c = λ files told. reads_alone (IsBesideNew files) (g.met.D.Disk.only_now c.args.disk.now) (call_reads c.len.ensures.told c.len.ensures.crash c.len.ensures.time c.len.ensures.count)

pub returns-in_err-have-clause-generation_first : goal.returns-in_err-have-clause-generation_first
returns-in_err-have-clause-generation_first g c = λ files told. root_read (g.met.D.Disk.only_now c.args.disk.now) (call_reads c.len.ensures.told c.len.ensures.crash c.len.ensures.time c.len.ensures.count)

pub returns-then-have-ne0-clause-others : goal.returns-then-have-ne0-clause-others
returns-then-have-ne0-clause-others g c = λ files told. reads_alone (IsBesideNew files) (g.met.D.Disk.only_now c.args.disk.now) (call_reads c.len.ensures.told c.len.ensures.crash c.len.ensures.time c.len.ensures.count)

pub returns-then-have-ne0-clause-generation_first : goal.returns-then-have-ne0-clause-generation_first
returns-then-have-ne0-clause-generation_first g c = λ files told. root_read (g.met.D.Disk.only_now c.args.disk.now) (call_reads c.len.ensures.told c.len.ensures.crash c.len.ensures.time c.len.ensures.count)

pub returns-in-Err-clause-others : goal.returns-in-Err-clause-others
returns-in-Err-clause-others g c = λ files told. reads_alone (IsBesideNew files) (g.met.D.Disk.only_now c.args.disk.now) (call_reads c.len.ensures.told c.len.ensures.crash c.len.ensures.time c.len.ensures.count)

pub returns-in-Err-clause-generation_first : goal.returns-in-Err-clause-generation_first
returns-in-Err-clause-generation_first g c = λ files told. root_read (g.met.D.Disk.only_now c.args.disk.now) (call_reads c.len.ensures.told c.len.ensures.crash c.len.ensures.time c.len.ensures.count)

pub returns-in-Err-begin-clause-others : goal.returns-in-Err-begin-clause-others
returns-in-Err-begin-clause-others g c = λ files told. reads_alone (IsBesideNew files) (g.met.D.Disk.only_now c.args.disk.now) (call_reads c.len.ensures.told c.len.ensures.crash c.len.ensures.time c.len.ensures.count)

pub returns-in-Err-begin-clause-generation_first : goal.returns-in-Err-begin-clause-generation_first
returns-in-Err-begin-clause-generation_first g c = λ files told. root_read (g.met.D.Disk.only_now c.args.disk.now) (call_reads c.len.ensures.told c.len.ensures.crash c.len.ensures.time c.len.ensures.count)

pub returns-in-Ok-make_files-clause-others : goal.returns-in-Ok-make_files-clause-others
returns-in-Ok-make_files-clause-others g c = λ files told.
    alone_on (reads_alone (IsBesideNew files) (g.met.D.Disk.only_now c.args.disk.now) (call_reads c.len.ensures.told c.len.ensures.crash c.len.ensures.time c.len.ensures.count))
    (alone_narrower (λ file beside. none_there files (is_nothing _ c.in_ok-have.have (c.in_ok-have.ensures.len files told) c.if-have-ne0.false) file beside) c.make_files.ensures.others)

pub returns-in-Ok-make_files-clause-generation_first : goal.returns-in-Ok-make_files-clause-generation_first
returns-in-Ok-make_files-clause-generation_first g c = λ files told.
    let code : c.bytes.result.now ≡ code_of_base first_format c.in-Ok.first = c.bytes.ensures ∙ c.in-Ok-begin.ensures.code in
    run_on (root_read (g.met.D.Disk.only_now c.args.disk.now) (call_reads c.len.ensures.told c.len.ensures.crash c.len.ensures.time c.len.ensures.count))
    (widened
    (λ image found.
    ⊎_elim (λ left. inl (c.len.ensures.crash 0 tt (image 0) left))
    (λ has. inr (first_holds g.R.Rules.meaning c.in-Ok.ensures.base.0 c.args.bundle.now c.in-Ok.first c.bytes.result.now image c.in-Ok.ensures.base.1 c.in-Ok.ensures.base.2 c.in-Ok-begin.ensures.sound c.in-Ok-begin.ensures.writable code has))
    found)
    (c.make_files.ensures.generation_first files (c.len.ensures.told ∙ told)))

pub returns-in-Err-make_files-clause-others : goal.returns-in-Err-make_files-clause-others
returns-in-Err-make_files-clause-others g c = λ files told.
    alone_on (reads_alone (IsBesideNew files) (g.met.D.Disk.only_now c.args.disk.now) (call_reads c.len.ensures.told c.len.ensures.crash c.len.ensures.time c.len.ensures.count))
    (alone_narrower (λ file beside. none_there files (is_nothing _ c.in_ok-have.have (c.in_ok-have.ensures.len files told) c.if-have-ne0.false) file beside) c.make_files.ensures.others)

pub returns-in-Err-make_files-clause-generation_first : goal.returns-in-Err-make_files-clause-generation_first
returns-in-Err-make_files-clause-generation_first g c = λ files told.
    let code : c.bytes.result.now ≡ code_of_base first_format c.in-Ok.first = c.bytes.ensures ∙ c.in-Ok-begin.ensures.code in
    run_on (root_read (g.met.D.Disk.only_now c.args.disk.now) (call_reads c.len.ensures.told c.len.ensures.crash c.len.ensures.time c.len.ensures.count))
    (widened
    (λ image found.
    ⊎_elim (λ left. inl (c.len.ensures.crash 0 tt (image 0) left))
    (λ has. inr (first_holds g.R.Rules.meaning c.in-Ok.ensures.base.0 c.args.bundle.now c.in-Ok.first c.bytes.result.now image c.in-Ok.ensures.base.1 c.in-Ok.ensures.base.2 c.in-Ok-begin.ensures.sound c.in-Ok-begin.ensures.writable code has))
    found)
    (c.make_files.ensures.generation_first files (c.len.ensures.told ∙ told)))
