-- What a bot gave, by what was read of its hand.
use Rattle.std.proofs.Common.{◌≡◌, ℕ, List, Option, Some, IsSomeAnd, Result, Ok, Err, IfOk, sym, ap, subst, ◌∙◌}
use Rattle.base_types.specs.declared.message.Moment.{Moment}
use Rattle.base_types.specs.declared.message.Msg.{Msg}
use Rattle.stored_types.specs.declared.hand.Hand.{Hand}
use Rattle.step_code.specs.declared.base.Base.{Base}
use Rattle.step_code.specs.declared.rules.Given.{Given}
use Rattle.step_code.specs.Rules.{Meaning, Task}
use Rattle.step_code.specs.State.{hand_of}
use Rattle.bot_works.specs.Given.{IsGivenOf}

-- what is shown of a hand
pub shown_is : {A : Type 0} (P : A → Type 0) (o : Option A) (x : A) → o ≡ Some x → IsSomeAnd o P → P x
shown_is P o x is shown = subst (λ p. IsSomeAnd p P) is shown

-- what the bot gives of the message in its hand
abbrev pub given_of : Meaning → Base → List ℕ → Hand → Given
given_of m s bot hand = m.give (record { bundle = s.bundle; bot = bot }) hand.message.body hand.since.0

-- what a bot gave of the message in its hand, by what was read of that
pub gave_is : (m : Meaning) (s : Base) (bot : List ℕ) (hand : Hand) (g : Given) (task : Task) (message : Msg) (since : Moment) → g ≡ m.give task message.body since.0 → task ≡ record { bundle = s.bundle; bot = bot } → message ≡ hand.message → since ≡ hand.since
    → given_of m s bot hand ≡ g
gave_is m s bot hand g task message since is task_is message_is since_is =
    sym (is ∙ ap (λ (t : Task). m.give t message.body since.0) task_is ∙ ap (λ (x : Msg). m.give (record { bundle = s.bundle; bot = bot }) x.body since.0) message_is
    ∙ ap (λ (t : Moment). m.give (record { bundle = s.bundle; bot = bot }) hand.message.body t.0) since_is)

-- so of whatever it gave
pub gave_whatever : {E : Type 0} (m : Meaning) (s : Base) (bot : List ℕ) (i : ℕ) (r : Result Given E) (task : Task) (message : Msg) (since : Moment) (tries : ℕ) → IfOk r (λ g. g ≡ m.give task message.body since.0)
    → task ≡ record { bundle = s.bundle; bot = bot } → IsSomeAnd (hand_of bot i s) (λ h. (message ≡ h.message) × (tries ≡ h.tries) × (since ≡ h.since)) → IfOk r (IsGivenOf m s bot i)
gave_whatever m s bot i (Err e) task message since tries is task_is shown = tt
gave_whatever m s bot i (Ok g) task message since tries is task_is shown = λ hand holds.
    let here = shown_is (λ (h : Hand). (message ≡ h.message) × (tries ≡ h.tries) × (since ≡ h.since)) (hand_of bot i s) hand holds shown in
    gave_is m s bot hand g task message since is task_is here.0 here.2
