use Rattle.std.proofs.Common.{◌==◌, refl, ◌∙◌, arith}
use Rattle.std.proofs.lemmas.Option.{slice_get_within}
use Rattle.disk_journal.proofs.Walking.{reads_on}
use Rattle.store_audit.proofs.Following.{fronts_more, never, no_fronts, unless}
use Rattle.store_audit.proofs.sealed.have_sealed.Goals as goal

pub returns-in-Ok-false-clause-have : goal.returns-in-Ok-false-clause-have
returns-in-Ok-false-clause-have g c = λ files told.
    let os = c.args.before.now.state.outs in
    let ss = c.args.core.now.state.outs in
    let was = c.outputs.invariant in
    never (no_fronts os ss c.outputs.k files (omega (arith, c.outputs-test.true, was.end, c.requires.as_many)) (omega (arith, c.outputs-test.true, was.end))
    (λ o sealed there here. unless c.in-Ok-false.field-0 c.in-Ok-false.field-0-test (c.in-Ok-false.ensures.has o sealed files there here (was.reads.told ∙ told))))

pub outputs-preserved : goal.outputs-preserved
outputs-preserved g c =
    let os = c.args.before.now.state.outs in
    let ss = c.args.core.now.state.outs in
    let was = c.outputs.invariant in
    record {
      end = was.end;
      reads = reads_on was.reads c.in-Ok-true.ensures.reads;
      have = λ files told j o sealed below there here.
          fronts_more os ss c.outputs.k files (was.have files told)
          (λ a b at_a at_b. (c.in-Ok-true.ensures.has a b files at_a at_b (was.reads.told ∙ told)).0 c.in-Ok-true.field-0-test) j o sealed below there here (j == c.outputs.k) refl;
    }

pub returns-clause-have : goal.returns-clause-have
returns-clause-have g c = λ files told. (
  λ yes k o sealed there here.
      c.outputs.invariant.have files told k o sealed (omega (arith, slice_get_within c.args.core.now.state.outs k sealed here, c.outputs-test.false, c.outputs.invariant.end)) there here,
  λ all. refl,
)
