use Rattle.std.proofs.Common.{◌≡◌, ◌↔◌, true}
use Rattle.std.proofs.lemmas.Result.{IfOk-weaker}
use Rattle.store_audit.specs.Audit.{GoesOnFrom}
use Rattle.store_audit.specs.Sealed.{AllHaveFronts}
use Rattle.store_audit.proofs.Following.{few_outputs, goes_by, goes_from_none, never, unless}
use Rattle.store_audit.proofs.sealed.goes_on.Goals as goal

pub returns-then-not-is_same-clause-goes : goal.returns-then-not-is_same-clause-goes
returns-then-not-is_same-clause-goes g c = λ files told.
    never (goes_from_none c.args.before.now.state c.args.core.now.state files (unless c.in_ok-is_same.is_same c.if-not-is_same.true c.in_ok-is_same.ensures.same))

pub have_sealed-requires-clause-few : goal.have_sealed-requires-clause-few
have_sealed-requires-clause-few g c = few_outputs g.R.Rules.meaning c.args.core.now.state c.requires.sound

pub returns-clause-goes : goal.returns-clause-goes
returns-clause-goes g c = λ files told.
    let s = c.args.before.now.state in
    let base = c.args.core.now.state in
    IfOk-weaker c.have_sealed.result (λ have. (have ≡ true) ↔ AllHaveFronts s.outs base.outs files) (λ is. (is ≡ true) ↔ GoesOnFrom s base files)
    (λ is both. goes_by s base files is (c.in_ok-is_same.ensures.same.0 c.if-not-is_same.false) both) (c.have_sealed.ensures.have files told)
