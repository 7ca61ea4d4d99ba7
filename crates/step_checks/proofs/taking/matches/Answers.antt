use Rattle.std.proofs.Common.{◌≡◌, ◌↔◌, true, [], ◌∷◌, None, subst, sym}
use Rattle.step_code.specs.declared.step.StepKind.{StepKind}
use Rattle.step_code.specs.declared.step.StepRefusal.TheVariants as refusal
use Rattle.step_code.specs.Content.{Matches}
use Rattle.step_code.specs.Fits.{first_failing, may_retry, parts}
use Rattle.step_code.specs.State.{tries_of}
use Rattle.step_checks.proofs.Matching.{faults, full_by, results}
use Rattle.step_checks.proofs.taking.matches.Goals as goal

pub returns-in_ok-given-in-Done-clause-matches : goal.returns-in_ok-given-in-Done-clause-matches
returns-in_ok-given-in-Done-clause-matches g c =
    let m = g.R.Rules.meaning in let s = c.args.core.now.state in let step = c.in-Done in
    let fits = subst (λ (k : StepKind). first_failing (parts m s k) ≡ None) step.is c.requires.fits in
    let full = full_by m s step.bot step.instance step.message step.bundle [] fits in
    let same = results m s step.bot step.instance c.args.now.0 c.in_ok-given-in-Done.given step.sends step.dumps step.key step.line full c.in_ok-given-in-Done.ensures.gave in
    let pass = c.is_pass.ensures in
    subst (λ (k : StepKind). (c.is_pass.result ≡ true) ↔ Matches m s c.args.now.0 k) (sym step.is) (λ is. same.0 (pass.0 is), λ is. pass.1 (same.1 is))

pub returns-in_ok-given-in-Retry-clause-matches : goal.returns-in_ok-given-in-Retry-clause-matches
returns-in_ok-given-in-Retry-clause-matches g c =
    let m = g.R.Rules.meaning in let s = c.args.core.now.state in let step = c.in-Retry in
    let fits = subst (λ (k : StepKind). first_failing (parts m s k) ≡ None) step.is c.requires.fits in
    let full = full_by m s step.bot step.instance step.message step.bundle ((may_retry m s step.bot step.instance, refusal.Tries (tries_of step.bot step.instance s)) ∷ []) fits in
    let same = faults m s step.bot step.instance c.in_ok-given-in-Retry.given step.note full c.in_ok-given-in-Retry.ensures.gave in
    let fault = c.is_fault.ensures in
    subst (λ (k : StepKind). (c.is_fault.result ≡ true) ↔ Matches m s c.args.now.0 k) (sym step.is) (λ is. same.0 (fault.0 is), λ is. fault.1 (same.1 is))
