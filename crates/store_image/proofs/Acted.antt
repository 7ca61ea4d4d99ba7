-- What a step makes of a state with other outputs.
use Rattle.std.proofs.Common.{◌≡◌, ℕ, Bool, true, false, cond, List, [], ◌∷◌, Option, Some, None, find, refl, ap, ◌∙◌}
use Rattle.base_types.specs.declared.message.Moment.{Moment}
use Rattle.base_types.specs.declared.message.Msg.{Msg}
use Rattle.base_types.specs.Name.{queue_name}
use Rattle.stored_types.specs.declared.hand.Hand.{Hand}
use Rattle.stored_types.specs.declared.message.Dump.{Dump}
use Rattle.step_code.specs.declared.base.Base.{Base}
use Rattle.step_code.specs.declared.output.Output.{Output}
use Rattle.step_code.specs.declared.rules.Facts.{Facts}
use Rattle.step_code.specs.declared.step.StepKind.{StepKind}
use Rattle.step_code.specs.declared.step.StepKind.TheVariants as kind
use Rattle.step_code.specs.After.{acted, all_given_back, body_in_hand, given_back, instances_of, redone, returned, taken_first, with_outs, written}
use Rattle.step_code.specs.Rules.{Meaning}
use Rattle.step_code.specs.State.{bots_in_force, bots_of, hand_of, is_dump, is_instance, waiting}

-- the state with other outputs
abbrev pub outs_as : Base → List Output → Base
outs_as s outs = record s { outs = outs }

-- what a kind of step makes of outputs
abbrev pub new_outs : Meaning → Base → StepKind → List Output → List Output
new_outs m s (kind.Done bot instance message bundle sends dumps key line) outs = written line bot (body_in_hand bot instance s) outs
new_outs m s (kind.Reload bundle) outs = with_outs (bots_of m bundle) outs
new_outs m s _ outs = outs

taken_outs : (bot : List ℕ) (instance : ℕ) (now : Moment) (messages : List Msg) (s : Base) (outs : List Output) → taken_first bot instance now messages (outs_as s outs) ≡ outs_as (taken_first bot instance now messages s) outs
taken_outs bot instance now [] s outs = refl
taken_outs bot instance now (message ∷ others) s outs = refl

redone_outs : (number : ℕ) (dump : Option Dump) (s : Base) (outs : List Output) → redone number dump (outs_as s outs) ≡ outs_as (redone number dump s) outs
redone_outs number None s outs = refl
redone_outs number (Some d) s outs = refl

returned_outs : (bot : List ℕ) (instance : ℕ) (hand : Option Hand) (s : Base) (outs : List Output) → returned bot instance hand (outs_as s outs) ≡ outs_as (returned bot instance hand s) outs
returned_outs bot instance None s outs = refl
returned_outs bot instance (Some h) s outs = refl

-- those that stay and those that give back
kept_outs : (stays : Bool) (bot : List ℕ) (instance : ℕ) (s : Base) (outs : List Output) → cond stays (outs_as s outs) (given_back bot instance (outs_as s outs)) ≡ outs_as (cond stays s (given_back bot instance s)) outs
kept_outs true bot instance s outs = refl
kept_outs false bot instance s outs = returned_outs bot instance (hand_of bot instance s) s outs

all_given_outs : (bots : List Facts) (xs : List (List ℕ × ℕ)) (s : Base) (outs : List Output) → all_given_back bots xs (outs_as s outs) ≡ outs_as (all_given_back bots xs s) outs
all_given_outs bots [] s outs = refl
all_given_outs bots (x ∷ xs) s outs =
    ap (all_given_back bots xs) (kept_outs (is_instance bots x.0 x.1) x.0 x.1 s outs) ∙ all_given_outs bots xs (cond (is_instance bots x.0 x.1) s (given_back x.0 x.1 s)) outs

pub acted_outs : (m : Meaning) (now : Moment) (s : Base) (what : StepKind) (outs : List Output) → acted m now (outs_as s outs) what ≡ outs_as (acted m now s what) (new_outs m s what outs)
acted_outs m now s kind.Start outs = refl
acted_outs m now s (kind.Collect bot from upto piece) outs = refl
acted_outs m now s (kind.FeedEnd bot position) outs = refl
acted_outs m now s (kind.Take bot instance message) outs = taken_outs bot instance now (waiting (queue_name bot) s) s outs
acted_outs m now s (kind.Done bot instance message bundle sends dumps key line) outs = refl
acted_outs m now s (kind.Retry bot instance message bundle fault) outs = refl
acted_outs m now s (kind.Fail bot instance message bundle fault queues halts) outs = refl
acted_outs m now s (kind.Reload bundle) outs = all_given_outs (bots_of m bundle) (instances_of (bots_in_force m s)) _ (with_outs (bots_of m bundle) outs)
acted_outs m now s (kind.Redo dump) outs = redone_outs dump (find (is_dump dump) s.dumps) s outs
acted_outs m now s (kind.Round bot) outs = refl

-- the outputs themselves
pub own_outs : (m : Meaning) (now : Moment) (s : Base) (what : StepKind) → (acted m now s what).outs ≡ new_outs m s what s.outs
own_outs m now s what = ap (λ (t : Base). t.outs) (acted_outs m now s what s.outs)
