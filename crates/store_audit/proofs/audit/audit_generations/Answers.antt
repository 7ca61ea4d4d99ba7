use Rattle.std.proofs.Common.{ℕ, suc, Some, None, inl, sym, subst, arith, ◌∙◌}
use Rattle.store_audit.specs.Audit.{ComeTo, IsWrong}
use Rattle.store_audit.specs.declared.verdict.Verdict.TheVariants as verdict
use Rattle.store_audit.proofs.Generations.{comes_legal, comes_wrong, end_by, has_begun, has_come, verdict_by}
use Rattle.store_audit.proofs.audit.audit_generations.Goals as goal

pub returns-in-Err-clause-verdict : goal.returns-in-Err-clause-verdict
returns-in-Err-clause-verdict g c = λ files told.
    let m = g.R.Rules.meaning in
    let come = ComeTo m files (suc c.args.generation) 0 None in
    verdict_by come c.in-Err.end c.verdict_of.result c.verdict_of.ensures (end_by (IsWrong m files 0 None) come (λ found wrong. inl wrong) c.in-Err.end (c.in-Err.ensures.wrong files told))

pub generations-init : goal.generations-init
generations-init g c =
    (has_begun g.R.Rules.meaning (g.D.Disk.disk c.args.disk.now) (g.D.Disk.disk c.audit_generation.new.disk) (suc c.args.generation) c.in-Ok.core.state (omega arith) c.in-Ok.ensures.reads (λ files told. c.in-Ok.ensures.right files told), omega arith)

pub returns-in-Err-audit_generation-clause-verdict : goal.returns-in-Err-audit_generation-clause-verdict
returns-in-Err-audit_generation-clause-verdict g c = λ files told.
    let m = g.R.Rules.meaning in
    let come = ComeTo m files (suc c.args.generation) 0 None in
    let was = c.generations.invariant.0 in
    let next = c.generations.next in
    let s = c.generations.core.state in
    verdict_by come c.in-Err-audit_generation.end c.verdict_of-in-Err-audit_generation.result c.verdict_of-in-Err-audit_generation.ensures
    (end_by (IsWrong m files next (Some s)) come (λ found wrong. comes_wrong m (g.D.Disk.disk c.args.disk.now) (g.D.Disk.disk c.generations.disk) (suc c.args.generation) next s (omega (arith, c.generations-test.true)) was files told found wrong)
    c.in-Err-audit_generation.end (c.in-Err-audit_generation.ensures.wrong files (was.reads.told ∙ told)))

pub generations-preserved : goal.generations-preserved
generations-preserved g c = (
  has_come g.R.Rules.meaning (g.D.Disk.disk c.args.disk.now) (g.D.Disk.disk c.generations.disk) (g.D.Disk.disk c.audit_generation-in-generations.new.disk) (suc c.args.generation) c.generations.next c.generations.core.state c.in-Ok-audit_generation.later.state
      (omega (arith, c.generations-test.true)) c.generations.invariant.0 c.in-Ok-audit_generation.ensures.reads (λ files told. c.in-Ok-audit_generation.ensures.right files told),
  omega (arith, c.generations-test.true),
)

pub returns-clause-verdict : goal.returns-clause-verdict
returns-clause-verdict g c = λ files told.
    let m = g.R.Rules.meaning in
    let legal = comes_legal m (g.D.Disk.disk c.args.disk.now) (g.D.Disk.disk c.generations.disk) (suc c.args.generation) c.generations.next c.generations.core.state (omega (arith, c.generations-test.false)) c.generations.invariant.0 files told in
    subst (λ (n : ℕ). ComeTo m files (suc c.args.generation) 0 None (verdict.Legal n)) (sym c.steps.ensures) legal
