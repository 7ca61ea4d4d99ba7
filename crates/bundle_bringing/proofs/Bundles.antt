-- A bundle that loads has bots, and one that was fetched has its files.
use Rattle.std.proofs.Common.{◌≡◌, ℕ, List, Option, Some, Result, Ok, Err, IfOk, map, refl, sym, ap, ◌∙◌, subst}
use Rattle.std.specs.Prelude.{IsSome, option_map, option_and_then}
use Rattle.std.specs.Result.{result_ok}
use Rattle.config_bundle.specs.declared.bundle.Bundle.{Bundle}
use Rattle.config_bundle.specs.Bundle.{bundle_code, IsBundle}
use Rattle.config_bundle.proofs.Codes.{reads_back}
use Rattle.base_types.specs.Lists.{IsIn}
use Rattle.runtime_text.specs.Named.{named_files}
use Rattle.runtime_config.proofs.Absent.{has_all, no_absent_file}
use Rattle.runtime_config.specs.Load.{load}
use Rattle.runtime_config.specs.declared.fault.LoadFault.TheVariants as fault
use Rattle.runtime_config.specs.declared.plan.Plan.{Plan}
use Rattle.bot_rules.specs.Facts.{facts_of}
use Rattle.bot_rules.specs.Intel.{intel, plan_in}

pub has_bots : (bundle : Bundle) (plan : Plan) → IsBundle bundle → load bundle ≡ Ok plan → IsSome (intel.facts (bundle_code bundle))
unfolding plan_in
has_bots bundle plan coded loads =
    let read : plan_in (bundle_code bundle) ≡ Some plan = ap (option_and_then (λ b. result_ok (load b))) (reads_back bundle coded) ∙ ap result_ok loads in
    subst (λ (o : Option Plan). IsSome (option_map (λ p. map facts_of p.bots) o)) (sym read) refl

-- so has the code of one
pub code_has_bots : {E : Type 0} (bundle : Bundle) (plan : Plan) (r : Result (List ℕ) E) → IsBundle bundle → load bundle ≡ Ok plan → IfOk r (λ code. code ≡ bundle_code bundle) → IfOk r (λ code. IsSome (intel.facts code))
code_has_bots bundle plan (Ok code) coded loads is = subst (λ (c : List ℕ). IsSome (intel.facts c)) (sym is) (has_bots bundle plan coded loads)
code_has_bots bundle plan (Err e) coded loads is = tt

-- a bundle with the files that its runtime text names
pub lacks_no_file : (bundle : Bundle) → map (λ (f : List ℕ × List ℕ). f.0) bundle.files ≡ named_files bundle.runtime → (bot : List ℕ) → load bundle ≡ Err (fault.File bot) → ⊥
lacks_no_file bundle named bot is = no_absent_file bundle (λ name there. has_all bundle.files name (subst (IsIn name) (sym named) there)) bot is
