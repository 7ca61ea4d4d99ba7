-- What a reload's giving back leaves as it was, and that each step is counted and sets the latest moment.
use Rattle.std.proofs.Common.{◌≡◌, ◌+◌, ℕ, Bool, true, false, List, [], ◌∷◌, find, Option, Some, None, refl, ◌∙◌, if◌then◌else◌}
use Rattle.base_types.specs.declared.message.Moment.{Moment}
use Rattle.base_types.specs.declared.message.Msg.{Msg}
use Rattle.base_types.specs.Lists.{without}
use Rattle.base_types.specs.Name.{queue_name}
use Rattle.stored_types.specs.declared.hand.Hand.{Hand}
use Rattle.stored_types.specs.declared.message.Dump.{Dump}
use Rattle.stored_types.specs.declared.queue.Queue.{Queue}
use Rattle.stored_types.specs.Hand.{is_hand}
use Rattle.stored_types.specs.Queue.{put_first}
use Rattle.step_code.specs.declared.base.Base.{Base}
use Rattle.step_code.specs.declared.rules.Facts.{Facts}
use Rattle.step_code.specs.declared.step.StepKind.{StepKind}
use Rattle.step_code.specs.declared.step.StepKind.TheVariants as kind
use Rattle.step_code.specs.Rules.{Meaning}
use Rattle.step_code.specs.After.{after, all_given_back, given_back, instances_of, redone, returned, taken_first}
use Rattle.step_code.specs.State.{bots_in_force, bots_of, hand_of, is_dump, is_instance, waiting}

-- what giving back changes are queues and hands alone
module _ {A : Type 0} (f : Base → A) (same : (s : Base) (queues : List Queue) (hands : List Hand) → f (record s { queues = queues; hands = hands }) ≡ f s) where
  kept-returned : (bot : List ℕ) (instance : ℕ) (found : Option Hand) (s : Base) → f (returned bot instance found s) ≡ f s
  kept-returned bot instance None s = refl
  kept-returned bot instance (Some h) s = same s (put_first (queue_name bot) h.message s.queues) (without (is_hand bot instance) s.hands)

  kept-one : (live : Bool) (bot : List ℕ) (instance : ℕ) (s : Base) → f (if live then s else given_back bot instance s) ≡ f s
  kept-one true bot instance s = refl
  kept-one false bot instance s = kept-returned bot instance (hand_of bot instance s) s

  pub kept-all_given_back : (bots : List Facts) (instances : List (List ℕ × ℕ)) (s : Base) → f (all_given_back bots instances s) ≡ f s
  kept-all_given_back bots [] s = refl
  kept-all_given_back bots (x ∷ xs) s =
      kept-all_given_back bots xs (if is_instance bots x.0 x.1 then s else given_back x.0 x.1 s) ∙ kept-one (is_instance bots x.0 x.1) x.0 x.1 s

-- each step is counted
pub steps_after : (m : Meaning) (s : Base) (now : Moment) (what : StepKind) → (after m s (record { moment = now; what = what })).steps ≡ s.steps + 1
steps_after m s now kind.Start = refl
steps_after m s now (kind.Collect bot from upto piece) = refl
steps_after m s now (kind.FeedEnd bot position) = refl
steps_after m s now (kind.Take bot instance message) = go (waiting (queue_name bot) s)
  where
    go : (messages : List Msg) → (taken_first bot instance now messages (record s { steps = s.steps + 1; latest = now })).steps ≡ s.steps + 1
    go [] = refl
    go (x ∷ xs) = refl
steps_after m s now (kind.Done bot instance message bundle sends dumps key line) = refl
steps_after m s now (kind.Retry bot instance message bundle fault) = refl
steps_after m s now (kind.Fail bot instance message bundle fault queues halts) = refl
steps_after m s now (kind.Reload bundle) = kept-all_given_back (λ (t : Base). t.steps) (λ t queues hands. refl) (bots_of m bundle) (instances_of (bots_in_force m s)) _
steps_after m s now (kind.Redo dump) = go (find (is_dump dump) s.dumps)
  where
    go : (found : Option Dump) → (redone dump found (record s { steps = s.steps + 1; latest = now })).steps ≡ s.steps + 1
    go None = refl
    go (Some d) = refl
steps_after m s now (kind.Round bot) = refl

-- and its moment is the latest
pub latest_after : (m : Meaning) (s : Base) (now : Moment) (what : StepKind) → (after m s (record { moment = now; what = what })).latest ≡ now
latest_after m s now kind.Start = refl
latest_after m s now (kind.Collect bot from upto piece) = refl
latest_after m s now (kind.FeedEnd bot position) = refl
latest_after m s now (kind.Take bot instance message) = go (waiting (queue_name bot) s)
  where
    go : (messages : List Msg) → (taken_first bot instance now messages (record s { steps = s.steps + 1; latest = now })).latest ≡ now
    go [] = refl
    go (x ∷ xs) = refl
latest_after m s now (kind.Done bot instance message bundle sends dumps key line) = refl
latest_after m s now (kind.Retry bot instance message bundle fault) = refl
latest_after m s now (kind.Fail bot instance message bundle fault queues halts) = refl
latest_after m s now (kind.Reload bundle) = kept-all_given_back (λ (t : Base). t.latest) (λ t queues hands. refl) (bots_of m bundle) (instances_of (bots_in_force m s)) _
latest_after m s now (kind.Redo dump) = go (find (is_dump dump) s.dumps)
  where
    go : (found : Option Dump) → (redone dump found (record s { steps = s.steps + 1; latest = now })).latest ≡ now
    go None = refl
    go (Some d) = refl
latest_after m s now (kind.Round bot) = refl
