-- A source of bytes, as contracts see it.
use Rattle.std.specs.Prelude.{List, ℕ, Option}

-- the name under which it was fetched, if it was; its bytes, if it tells them; and its count of faults
pub record SourceView : Type 0 where
  pub name : Option (List ℕ)
  pub told : Option (List ℕ)
  pub faults : ℕ
