-- Bots that are ready for work.
use Rattle.std.specs.Prelude.{◌≡◌, ℕ, List, get_or}
use Rattle.std.specs.List.{All}
use Rattle.step_code.specs.Rules.{Task}
use Rattle.bot_works.specs.declared.works.Ready.{Ready}

-- each is the bot of its name, under this bundle
abbrev pub AreReady : {W : Type 0} → (W → Task) → List ℕ → List (Ready W) → Type 0
AreReady task_of bundle works = All (λ ready. task_of ready.work ≡ record { bundle = bundle; bot = ready.bot }) works

-- the bot of this name stands at this place
abbrev pub IsFor : {W : Type 0} → List (Ready W) → List ℕ → ℕ → Type 0
IsFor {W} works bot place = (d : Ready W) → (get_or works place d).bot ≡ bot
