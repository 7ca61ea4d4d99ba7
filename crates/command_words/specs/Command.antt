-- What a command line may ask for.
use Rattle.std.specs.Prelude.{ℕ, Bool, List, Option}

-- at most so many steps; a bundle that is loaded first; whether feeds that have ended begin anew
pub record Ask : Type 0 where
  pub steps : Option ℕ
  pub reload : Option (List ℕ)
  pub round : Bool

-- the same on threads, and whether it goes on where nothing is left to do
pub record Run : Type 0 where
  pub ask : Ask
  pub stay : Bool

pub data Command : Type 0 where
  Convert : (feed : List ℕ) → Command
  Check : (bundle : List ℕ) → Command
  Init : (bundle : List ℕ) → Command
  Drain : Ask → Command
  Status : Command
  Dumps : Command
  Audit : Command
  Redo : (dump : ℕ) → Command
  Drill : (lines number : ℕ) → Command
