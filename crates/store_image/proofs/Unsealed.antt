-- No step seals a line.
use Rattle.std.proofs.Common.{◌+◌, ◌++◌, List, [], ◌∷◌, ℕ, Bool, true, false, map, find, refl, sym, subst}
use Rattle.std.specs.Prelude.{Option, None, Some}
use Rattle.std.specs.List.{AllByRecursion}
use Rattle.base_types.specs.declared.message.Moment.{Moment}
use Rattle.base_types.specs.declared.message.Msg.{Msg}
use Rattle.base_types.specs.Name.{queue_name}
use Rattle.base_types.proofs.Everywhere.{all-append, all_changed}
use Rattle.stored_types.specs.declared.message.Dump.{Dump}
use Rattle.step_code.specs.declared.base.Base.{Base}
use Rattle.step_code.specs.declared.output.Output.{Output}
use Rattle.step_code.specs.declared.rules.Facts.{Facts}
use Rattle.step_code.specs.declared.step.Step.{Step}
use Rattle.step_code.specs.declared.step.StepKind.{StepKind}
use Rattle.step_code.specs.declared.step.StepKind.TheVariants as kind
use Rattle.step_code.specs.After.{after, body_in_hand, instances_of, redone, taken_first, written}
use Rattle.step_code.specs.History.{replay}
use Rattle.step_code.specs.Rules.{Meaning}
use Rattle.step_code.specs.State.{bots_in_force, bots_of, is_dump, is_out, new_out, waiting}
use Rattle.step_code.proofs.GivenBack.{kept-all_given_back}
use Rattle.store_image.specs.Stands.{IsUnsealed}

pub new_unsealed : (bots : List Facts) → AllByRecursion IsUnsealed (map new_out bots)
new_unsealed [] = tt
new_unsealed (f ∷ bots) = ((refl, refl), new_unsealed bots)

written_unsealed : (line : Bool) (bot body : List ℕ) (outs : List Output) → AllByRecursion IsUnsealed outs → AllByRecursion IsUnsealed (written line bot body outs)
written_unsealed true bot body outs all = all_changed IsUnsealed (is_out bot) (λ (o : Output). record o { lines = o.lines ++ body ∷ [] }) outs (λ o is. is) all
written_unsealed false bot body outs all = all

unsealed_after : (m : Meaning) (s : Base) (now : Moment) (what : StepKind) → AllByRecursion IsUnsealed s.outs → AllByRecursion IsUnsealed (after m s (record { moment = now; what = what })).outs
unsealed_after m s now kind.Start all = all
unsealed_after m s now (kind.Collect bot from upto piece) all = all
unsealed_after m s now (kind.FeedEnd bot position) all = all
unsealed_after m s now (kind.Take bot instance message) all = go (waiting (queue_name bot) s)
  where
    go : (messages : List Msg) → AllByRecursion IsUnsealed (taken_first bot instance now messages (record s { steps = s.steps + 1; latest = now })).outs
    go [] = all
    go (x ∷ xs) = all
unsealed_after m s now (kind.Done bot instance message bundle sends dumps key line) all = written_unsealed line bot (body_in_hand bot instance s) s.outs all
unsealed_after m s now (kind.Retry bot instance message bundle fault) all = all
unsealed_after m s now (kind.Fail bot instance message bundle fault queues halts) all = all
unsealed_after m s now (kind.Reload bundle) all =
    subst (λ (outs : List Output). AllByRecursion IsUnsealed outs)
    (sym (kept-all_given_back (λ (t : Base). t.outs) (λ t queues hands. refl) (bots_of m bundle) (instances_of (bots_in_force m s)) _)) (all-append IsUnsealed s.outs _ all (new_unsealed _))
unsealed_after m s now (kind.Redo dump) all = go (find (is_dump dump) s.dumps)
  where
    go : (found : Option Dump) → AllByRecursion IsUnsealed (redone dump found (record s { steps = s.steps + 1; latest = now })).outs
    go None = all
    go (Some d) = all
unsealed_after m s now (kind.Round bot) all = all

pub unsealed_replay : (m : Meaning) (s : Base) (steps : List Step) → AllByRecursion IsUnsealed s.outs → AllByRecursion IsUnsealed (replay m s steps).outs
unsealed_replay m s [] all = all
unsealed_replay m s (step ∷ steps) all = unsealed_replay m (after m s step) steps (unsealed_after m s step.moment step.what all)
