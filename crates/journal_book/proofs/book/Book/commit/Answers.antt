use Rattle.std.proofs.Common.{◌≡◌, ◌++◌, [], ◌∷◌, List, None, take, refl, sym, ◌∙◌, ap, subst}
use Rattle.step_code.specs.declared.base.Base.{Base}
use Rattle.step_code.specs.declared.step.Step.{Step}
use Rattle.step_code.specs.After.{after}
use Rattle.store_image.specs.Opens.{AreLong}
use Rattle.journal_book.specs.Book.{BookView}
use Rattle.journal_book.specs.Keeping.{AreShort, IsPending, IsReplayed}
use Rattle.journal_book.specs.Staged.{step_cause}
use Rattle.journal_book.proofs.Flushing.{stores_still}
use Rattle.journal_book.proofs.Long.{long_after}
use Rattle.journal_book.proofs.OneMore.{durable_more, nothing_refuses, pending_more, pending_still, replayed_more, rest_roomier, short_outs}
use Rattle.journal_book.proofs.book.Book.commit.Goals as goal

pub enter-requires-clause-small : goal.enter-requires-clause-small
enter-requires-clause-small g c =
    let i = c.self.inside in
    let m = g.R.Rules.meaning in
    let step = c.args.step.now in
    (nothing_refuses m i.core.state i.steps i.limit step
    (subst (λ (b : BookView g.row.D.Denot g.row.R.Denot). step_cause m b.state b.steps b.limit step ≡ None) (sym c.self.view_is) c.requires.causes)).1

pub invariant_of-self : goal.invariant_of-self
invariant_of-self g c =
    let i = c.self.inside in
    let m = g.R.Rules.meaning in
    let step = c.args.step.now in
    let pushed : c.in_ok-steps.steps ≡ i.steps ++ step ∷ [] = c.in_ok-steps.ensures in
    let state_is : c.enter.new.core.state ≡ after m i.core.state step = ap (λ core. core.state) c.in-Ok.ensures.core in
    let causes : step_cause m i.core.state i.steps i.limit step ≡ None = subst (λ (b : BookView g.row.D.Denot g.row.R.Denot). step_cause m b.state b.steps b.limit step ≡ None) (sym c.self.view_is) c.requires.causes in
    let nothing = nothing_refuses m i.core.state i.steps i.limit step causes in
    let journal = c.in-Ok.ensures.journal in
    let replayed = replayed_more m i.base.value i.steps i.durable i.core.state step c.self.invariant.1 c.in-Ok.ensures.writable c.requires.may.content.time.limit in
    let pending = pending_more i.steps step i.durable i.pending c.enter.new.pending i.used c.in-Ok.used i.limit i.journal c.enter.new.journal c.self.invariant.1.within c.self.invariant.2 c.in-Ok.ensures.code c.in-Ok.ensures.len c.in-Ok.ensures.room
    (ap (λ j. j.length) journal) nothing.2 in (
      stores_still i.root i.journal c.enter.new.journal i.generation c.self.invariant.0 (ap (λ j. j.file) journal) (ap (λ j. j.heading) journal),
      subst (λ (ss : List Step). IsReplayed m i.base.value ss i.durable c.enter.new.core.state) (sym pushed)
          (subst (λ (s : Base). IsReplayed m i.base.value (i.steps ++ step ∷ []) i.durable s) (sym state_is) replayed),
      subst (λ (ss : List Step). IsPending ss i.durable c.enter.new.pending c.in-Ok.used i.limit c.enter.new.journal) (sym pushed) pending,
      subst (λ (s : Base). AreShort s.outs) (sym state_is) (short_outs m i.core.state step nothing.1),
      λ whole. ap (λ j. j.broken) journal ∙ c.self.invariant.4 whole,
      λ whole files told.
          rest_roomier i.root i.journal c.enter.new.journal (g.D.Disk.disk i.disk).may_leave i.generation i.base.value (take i.durable i.steps) (take i.durable c.in_ok-steps.steps) files (c.self.invariant.5 whole files told) journal
          (durable_more i.durable i.steps c.in_ok-steps.steps step c.self.invariant.1.within pushed),
      λ whole files told. subst (λ (s : Base). AreLong 0 s.outs files) (sym state_is) (long_after m i.core.state step files (c.self.invariant.6 whole files told)),
      c.self.invariant.7,
    )

pub invariant_of-self-in-Err : goal.invariant_of-self-in-Err
invariant_of-self-in-Err g c =
    let i = c.self.inside in
    let m = g.R.Rules.meaning in
    let state_is : c.enter.new.core.state ≡ i.core.state = ap (λ core. core.state) c.in-Err.ensures.err in
    let journal = c.in-Err.ensures.journal in (
      stores_still i.root i.journal c.enter.new.journal i.generation c.self.invariant.0 (ap (λ j. j.file) journal) (ap (λ j. j.heading) journal),
      subst (λ (s : Base). IsReplayed m i.base.value i.steps i.durable s) (sym state_is) c.self.invariant.1,
      pending_still i.steps i.durable i.pending c.enter.new.pending i.used i.limit i.journal c.enter.new.journal c.self.invariant.2 c.in-Err.ensures.kept c.in-Err.ensures.still c.in-Err.ensures.no_less (ap (λ j. j.length) journal),
      subst (λ (s : Base). AreShort s.outs) (sym state_is) c.self.invariant.3,
      λ whole. ap (λ j. j.broken) journal ∙ c.self.invariant.4 whole,
      λ whole files told.
          rest_roomier i.root i.journal c.enter.new.journal (g.D.Disk.disk i.disk).may_leave i.generation i.base.value (take i.durable i.steps) (take i.durable i.steps) files (c.self.invariant.5 whole files told) journal refl,
      λ whole files told. subst (λ (s : Base). AreLong 0 s.outs files) (sym state_is) (c.self.invariant.6 whole files told),
      c.self.invariant.7,
    )
