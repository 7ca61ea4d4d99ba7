-- A step that fits also does so as a duplicate's.
use Rattle.std.proofs.Common.{◌≡◌, ℕ, Bool, true, false, [], None, refl, ap, ◌∙◌, if◌then◌else◌}
use Rattle.step_code.specs.declared.base.Base.{Base}
use Rattle.step_code.specs.declared.step.StepKind.{StepKind}
use Rattle.step_code.specs.declared.step.StepKind.TheVariants as kind
use Rattle.step_code.specs.Content.{is_duplicate}
use Rattle.step_code.specs.Fits.{first_failing, parts}
use Rattle.step_code.specs.Rules.{Meaning}
use Rattle.journal_book.specs.Staged.{screened}

pub parts_screened : (m : Meaning) (s : Base) (now : ℕ) (what : StepKind) → parts m s (screened m s now what) ≡ parts m s what
parts_screened m s now kind.Start = refl
parts_screened m s now (kind.Collect bot from upto piece) = refl
parts_screened m s now (kind.FeedEnd bot position) = refl
parts_screened m s now (kind.Take bot instance message) = refl
parts_screened m s now (kind.Done bot instance message bundle sends dumps key line) = go (is_duplicate m s bot now key)
  where
    go : (d : Bool) → parts m s (if d then kind.Done bot instance message bundle [] dumps None line else kind.Done bot instance message bundle sends dumps key line) ≡ parts m s (kind.Done bot instance message bundle sends dumps key line)
    go true = refl
    go false = refl
parts_screened m s now (kind.Retry bot instance message bundle note) = refl
parts_screened m s now (kind.Fail bot instance message bundle note queues halts) = refl
parts_screened m s now (kind.Reload bundle) = refl
parts_screened m s now (kind.Redo dump) = refl
parts_screened m s now (kind.Round bot) = refl

pub screened_fits : (m : Meaning) (s : Base) (now : ℕ) (what : StepKind) → first_failing (parts m s what) ≡ None → first_failing (parts m s (screened m s now what)) ≡ None
screened_fits m s now what fits = ap first_failing (parts_screened m s now what) ∙ fits
