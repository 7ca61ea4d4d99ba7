use Rattle.std.proofs.Common.{◌≡◌, ◌++◌, [], ◌∷◌, suc, ℕ, Some, false, length, take, map, refl, sym, ◌∙◌, ap, subst, arith}
use Rattle.edge_traits.specs.Disk.{Image, Leaves}
use Rattle.core_state.specs.Sealing.{sealed_whole}
use Rattle.stored_types.specs.Code.{number}
use Rattle.step_code.specs.declared.base.Base.{Base}
use Rattle.step_code.specs.Code.{code_of_base, first_format, IsWritableBase}
use Rattle.step_code.specs.Sound.{IsSound}
use Rattle.store_image.specs.Files.{written_format}
use Rattle.store_image.specs.Opens.{AreLong}
use Rattle.store_image.specs.Stands.{StandsFor}
use Rattle.journal_book.specs.Book.{BookView, IsKept}
use Rattle.journal_book.specs.Keeping.{AreAtRest, AreShort}
use Rattle.journal_book.specs.Outputs.{AreWritten}
use Rattle.journal_book.proofs.Beginning.{pending_created, replayed_created}
use Rattle.journal_book.proofs.Renewed.{kept_renewed, kept_unrenewed, long_alone, renewal_leaves, rest_renewed, rest_still, short_sealed, stores_renewed, view_renewed, MayBegin}
use Rattle.journal_book.proofs.book.Book.begin_next.Goals as goal

pub begin_generation-requires-clause-at_rest : goal.begin_generation-requires-clause-at_rest
begin_generation-requires-clause-at_rest g c = λ files told.
    let rest = c.self.invariant.5 (ap (λ b. b.broken) c.self.view_is ∙ c.requires.whole) files told in
    (map number (rest.before ++ c.self.inside.generation ∷ []), rest.root_rests)

pub invariant_of-self : goal.invariant_of-self
invariant_of-self g c =
    let i = c.self.inside in
    let m = g.R.Rules.meaning in
    let root = c.in-Ok.ensures.root in
    let made = c.in-Ok.ensures.journal in
    let was = ap (λ (b : BookView g.row.D.Denot g.row.R.Denot). b.state) c.self.view_is in
    let number_is = c.requires.number ∙ ap (λ (b : BookView g.row.D.Denot g.row.R.Denot). suc b.generation) (sym c.self.view_is) in
    let sealed : c.seal.new.self.state ≡ sealed_whole i.core.state = ap (λ core. core.state) c.seal.ensures in
    let state_is : c.seal.new.self.state ≡ c.args.base.value = sealed ∙ ap sealed_whole was ∙ sym c.requires.base in
    let sound = subst (λ (b : Base). IsSound m b) (sym c.requires.base) c.requires.sound in
    let writable = subst (λ (b : Base). IsWritableBase first_format b) (sym c.requires.base) c.requires.writable in
    let coded : c.bytes.result.now ≡ code_of_base first_format c.args.base.value = c.bytes.ensures ∙ c.requires.code ∙ ap (λ (b : Base). code_of_base first_format b) (sym c.requires.base) in
    let long = subst (λ (b : BookView g.row.D.Denot g.row.R.Denot). (files : Image) → (g.D.Disk.disk b.disk).told ≡ Some files → AreLong 0 (sealed_whole b.state).outs files) (sym c.self.view_is) c.requires.long in (
      stores_renewed i.root c.begin_generation.new.root i.journal c.in-Ok.journal i.generation c.args.number c.self.invariant.0 number_is (ap (λ j. j.file) root) (ap (λ j. j.heading) root) (ap (λ j. j.file) made) (ap (λ j. j.heading) made) c.requires.given,
      replayed_created m c.args.base.value c.seal.new.self.state c.new-self-inside.result c.new-self-inside.ensures state_is sound writable,
      pending_created c.new-self-inside.result i.pending i.limit c.in-Ok.journal c.new-self-inside.ensures c.self.invariant.2.bound (omega (arith, ap (λ j. j.length) made, ap length coded, sound.short)),
      subst (λ (s : Base). AreShort s.outs) (sym sealed) (short_sealed i.core.state.outs c.self.invariant.3),
      λ whole. ap (λ j. j.broken) made,
      λ whole after told.
          rest_renewed (g.D.Disk.disk i.disk) (g.D.Disk.disk c.begin_generation.new.disk) i.root c.begin_generation.new.root i.journal c.in-Ok.journal i.generation c.args.number i.base.value c.args.base.value (take i.durable i.steps) c.bytes.result.now
          after (g.D.Disk.disk i.disk).told refl told number_is c.requires.given coded c.begin_generation.ensures.untold (c.self.invariant.5 whole) (λ files bodies was rest. c.in-Ok.ensures.root_rests files after bodies was told rest)
          (λ files was. c.in-Ok.ensures.journal_rests files after was told),
      λ whole after told.
          subst (λ (s : Base). AreLong 0 s.outs after) (sym sealed)
          (long_alone (g.D.Disk.disk i.disk) (g.D.Disk.disk c.begin_generation.new.disk) (sealed_whole i.core.state).outs after (λ k. ((λ same. omega (arith, same)), (λ same. omega (arith, same)))) c.begin_generation.ensures.alone c.begin_generation.ensures.untold told long),
      λ whole. ap (λ j. j.broken) root ∙ c.self.invariant.7 whole,
    )

pub invariant_of-self-in-Err-1 : goal.invariant_of-self-in-Err-1
invariant_of-self-in-Err-1 g c =
    let i = c.self.inside in
    let same = c.in-Err.ensures.same in
    let before : i.broken ≡ false = ap (λ b. b.broken) c.self.view_is ∙ c.requires.whole in
    let still : c.is_disk_fault-self-inside.result ≡ false → (c.begin_generation.new.disk ≡ i.disk) × (c.begin_generation.new.root.broken ≡ false) = λ no. c.in-Err.ensures.still (λ is. absurd (cc (c.is_disk_fault-self-inside.ensures.1 is, no))) in (
      record { root_file_is = ap (λ j. j.file) same ∙ c.self.invariant.0.root_file_is; root_heading_is = ap (λ j. j.heading) same ∙ c.self.invariant.0.root_heading_is; file_is = c.self.invariant.0.file_is; heading_is = c.self.invariant.0.heading_is; known = c.self.invariant.0.known; given = c.self.invariant.0.given },
      c.self.invariant.1,
      c.self.invariant.2,
      c.self.invariant.3,
      λ no. c.self.invariant.4 before,
      λ no files told.
          let stays = still no in
          subst (λ d. AreAtRest c.begin_generation.new.root i.journal (g.D.Disk.disk d).may_leave i.generation i.base.value (take i.durable i.steps) files) (sym stays.0)
          (rest_still i.root c.begin_generation.new.root i.journal (g.D.Disk.disk i.disk).may_leave i.generation i.base.value (take i.durable i.steps) files (ap (λ j. j.file) same) (ap (λ j. j.heading) same) (ap (λ j. j.length) same) stays.1
          (c.self.invariant.5 before files (ap (λ d. (g.D.Disk.disk d).told) (sym stays.0) ∙ told))),
      λ no files told. c.self.invariant.6 before files (ap (λ d. (g.D.Disk.disk d).told) (sym (still no).0) ∙ told),
      λ no. (still no).1,
    )

pub returns-in-Ok-clause-kept : goal.returns-in-Ok-clause-kept
returns-in-Ok-clause-kept g c = λ origin past kept written.
    let m = g.R.Rules.meaning in
    let i = c.self.inside in
    let inside : BookView g.row.D.Denot g.row.R.Denot = record { disk = i.disk; rules = i.core.rules; format = i.format; generation = i.generation; root = i.root.length; base = i.base.value; steps = i.steps; kept = i.durable; state = i.core.state; limit = i.limit; broken = i.broken } in
    let here = subst (λ (b : BookView g.row.D.Denot g.row.R.Denot). IsKept g.D.Disk.disk m origin past b) (sym c.self.view_is) kept in
    let lines = subst (λ (b : BookView g.row.D.Denot g.row.R.Denot). AreWritten m origin.first (past ++ b.steps) (g.D.Disk.disk b.disk)) (sym c.self.view_is) written in
    let may = subst (λ (b : BookView g.row.D.Denot g.row.R.Denot). MayBegin b c.args.number c.bytes.result.now) (sym c.self.view_is)
    (record { all = c.requires.durable; number = c.requires.number; given = c.requires.given; coded = c.bytes.ensures ∙ c.requires.code; writable = c.requires.writable; short = c.requires.sound.short }) in
    let rest = c.self.invariant.5 (ap (λ b. b.broken) c.self.view_is ∙ c.requires.whole) here.files here.tells in
    let run = c.begin_generation.ensures.any_moment here.files (map number (rest.before ++ i.generation ∷ [])) here.tells rest.root_rests in
    let after = (c.begin_generation.ensures.alone here.files here.tells).told here.files here.tells in
    let behind = kept_renewed g.D.Disk.disk m inside i.root i.journal here.files (g.met.D.Disk.honest i.disk here.files here.tells) c.self.invariant.0 c.self.invariant.1.writable rest c.self.invariant.1.behind c.args.number c.bytes.result.now may origin past here here.tells lines
    c.begin_generation.new.disk after.0 after.1 (λ image le left. g.met.D.Disk.counts_now c.begin_generation.new.disk _ image le left) run in
    let core = c.seal.ensures in
    let new = view_renewed inside c.begin_generation.new.disk c.seal.new.self.rules c.args.number c.begin_generation.new.root.length c.args.base.value c.seal.new.self.state c.new-self-inside.result (ap (λ k. k.rules) core) may.number
    (ap (λ j. j.length) c.in-Ok.ensures.root) (c.requires.base ∙ ap (λ (b : BookView g.row.D.Denot g.row.R.Denot). sealed_whole b.state) (sym c.self.view_is)) (ap (λ k. k.state) core) c.new-self-inside.ensures in
    let later : BookView g.row.D.Denot g.row.R.Denot =
    record {
      disk = c.begin_generation.new.disk;
      rules = c.seal.new.self.rules;
      format = written_format;
      generation = c.args.number;
      root = c.begin_generation.new.root.length;
      base = c.args.base.value;
      steps = c.new-self-inside.result;
      kept = 0;
      state = c.seal.new.self.state;
      limit = i.limit;
      broken = i.broken;
    } in
    subst (λ (b : BookView g.row.D.Denot g.row.R.Denot). IsKept g.D.Disk.disk m origin (past ++ b.steps) later) c.self.view_is (subst (λ (b : BookView g.row.D.Denot g.row.R.Denot). IsKept g.D.Disk.disk m origin (past ++ i.steps) b) (sym new) behind)

pub returns-in-Ok-clause-any_moment : goal.returns-in-Ok-clause-any_moment
returns-in-Ok-clause-any_moment g c = λ origin past kept written.
    let m = g.R.Rules.meaning in
    let i = c.self.inside in
    let here = subst (λ (b : BookView g.row.D.Denot g.row.R.Denot). IsKept g.D.Disk.disk m origin past b) (sym c.self.view_is) kept in
    let lines = subst (λ (b : BookView g.row.D.Denot g.row.R.Denot). AreWritten m origin.first (past ++ b.steps) (g.D.Disk.disk b.disk)) (sym c.self.view_is) written in
    let may = subst (λ (b : BookView g.row.D.Denot g.row.R.Denot). MayBegin b c.args.number c.bytes.result.now) (sym c.self.view_is)
    (record { all = c.requires.durable; number = c.requires.number; given = c.requires.given; coded = c.bytes.ensures ∙ c.requires.code; writable = c.requires.writable; short = c.requires.sound.short }) in
    let rest = c.self.invariant.5 (ap (λ b. b.broken) c.self.view_is ∙ c.requires.whole) here.files here.tells in
    let run = c.begin_generation.ensures.any_moment here.files (map number (rest.before ++ i.generation ∷ [])) here.tells rest.root_rests in
    subst (λ (b : BookView g.row.D.Denot g.row.R.Denot). Leaves (g.D.Disk.disk b.disk) (g.D.Disk.disk c.begin_generation.new.disk) (StandsFor m origin (past ++ b.steps) [])) c.self.view_is
    (renewal_leaves g.D.Disk.disk m _ i.root i.journal here.files (g.met.D.Disk.honest i.disk here.files here.tells) c.self.invariant.0 c.self.invariant.1.writable rest c.self.invariant.1.behind c.args.number c.bytes.result.now may origin past here here.tells lines c.begin_generation.new.disk run)

pub returns-in-Err-clause-kept_err : goal.returns-in-Err-clause-kept_err
returns-in-Err-clause-kept_err g c = λ origin past kept written.
    let m = g.R.Rules.meaning in
    let i = c.self.inside in
    let here = subst (λ (b : BookView g.row.D.Denot g.row.R.Denot). IsKept g.D.Disk.disk m origin past b) (sym c.self.view_is) kept in
    let lines = subst (λ (b : BookView g.row.D.Denot g.row.R.Denot). AreWritten m origin.first (past ++ b.steps) (g.D.Disk.disk b.disk)) (sym c.self.view_is) written in
    let may = subst (λ (b : BookView g.row.D.Denot g.row.R.Denot). MayBegin b c.args.number c.bytes.result.now) (sym c.self.view_is)
    (record { all = c.requires.durable; number = c.requires.number; given = c.requires.given; coded = c.bytes.ensures ∙ c.requires.code; writable = c.requires.writable; short = c.requires.sound.short }) in
    let rest = c.self.invariant.5 (ap (λ b. b.broken) c.self.view_is ∙ c.requires.whole) here.files here.tells in
    let run = c.begin_generation.ensures.any_moment here.files (map number (rest.before ++ i.generation ∷ [])) here.tells rest.root_rests in
    let after = (c.begin_generation.ensures.alone here.files here.tells).told here.files here.tells in
    let behind = kept_unrenewed g.D.Disk.disk m _ i.root i.journal here.files (g.met.D.Disk.honest i.disk here.files here.tells) c.self.invariant.0 c.self.invariant.1.writable rest c.self.invariant.1.behind c.args.number c.bytes.result.now may origin past here here.tells lines
    c.begin_generation.new.disk c.is_disk_fault-self-inside.result after.0 after.1 (λ image le left. g.met.D.Disk.counts_now c.begin_generation.new.disk _ image le left) run in
    subst (λ (n : ℕ). IsKept g.D.Disk.disk m origin past (record { disk = c.begin_generation.new.disk; rules = i.core.rules; format = i.format; generation = i.generation; root = n; base = i.base.value; steps = i.steps; kept = i.durable; state = i.core.state; limit = i.limit; broken = c.is_disk_fault-self-inside.result }))
    (sym (ap (λ j. j.length) c.in-Err.ensures.same)) behind

pub returns-in-Err-clause-any_moment : goal.returns-in-Err-clause-any_moment
returns-in-Err-clause-any_moment g c = λ origin past kept written.
    let m = g.R.Rules.meaning in
    let i = c.self.inside in
    let here = subst (λ (b : BookView g.row.D.Denot g.row.R.Denot). IsKept g.D.Disk.disk m origin past b) (sym c.self.view_is) kept in
    let lines = subst (λ (b : BookView g.row.D.Denot g.row.R.Denot). AreWritten m origin.first (past ++ b.steps) (g.D.Disk.disk b.disk)) (sym c.self.view_is) written in
    let may = subst (λ (b : BookView g.row.D.Denot g.row.R.Denot). MayBegin b c.args.number c.bytes.result.now) (sym c.self.view_is)
    (record { all = c.requires.durable; number = c.requires.number; given = c.requires.given; coded = c.bytes.ensures ∙ c.requires.code; writable = c.requires.writable; short = c.requires.sound.short }) in
    let rest = c.self.invariant.5 (ap (λ b. b.broken) c.self.view_is ∙ c.requires.whole) here.files here.tells in
    let run = c.begin_generation.ensures.any_moment here.files (map number (rest.before ++ i.generation ∷ [])) here.tells rest.root_rests in
    subst (λ (b : BookView g.row.D.Denot g.row.R.Denot). Leaves (g.D.Disk.disk b.disk) (g.D.Disk.disk c.begin_generation.new.disk) (StandsFor m origin (past ++ b.steps) [])) c.self.view_is
    (renewal_leaves g.D.Disk.disk m _ i.root i.journal here.files (g.met.D.Disk.honest i.disk here.files here.tells) c.self.invariant.0 c.self.invariant.1.writable rest c.self.invariant.1.behind c.args.number c.bytes.result.now may origin past here here.tells lines c.begin_generation.new.disk run)
