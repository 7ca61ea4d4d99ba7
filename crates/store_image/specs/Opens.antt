-- What opening a store takes: what is stored, a state that a store may hold, steps that can be replayed in it, and output
-- files that have what is sealed.
use Rattle.std.specs.Prelude.{◌≤◌, ℕ, suc, List, [], ◌∷◌, length}
use Rattle.edge_traits.specs.Disk.{Image}
use Rattle.step_code.specs.declared.base.Base.{Base}
use Rattle.step_code.specs.declared.output.Output.{Output}
use Rattle.step_code.specs.declared.step.Step.{Step}
use Rattle.step_code.specs.After.{after}
use Rattle.step_code.specs.Content.{MayReplay}
use Rattle.step_code.specs.History.{replay}
use Rattle.step_code.specs.Rules.{Meaning}
use Rattle.step_code.specs.Sound.{IsSound}
use Rattle.step_code.specs.Spent.{StaysSmall}
use Rattle.store_image.specs.Files.{out_file}
use Rattle.store_image.specs.Stored.{IsStored}

-- a stored step can be replayed, and brings no number past the last one
abbrev pub IsReplayable : Meaning → Base → Step → Type 0
IsReplayable m s step = MayReplay m s step × StaysSmall m s step

-- each of these steps passes a test, in the state that the steps before it leave
abbrev pub AreAlong : Meaning → (Base → Step → Type 0) → Base → List Step → Type 0
AreAlong m is s [] = Unit {0}
AreAlong m is s (step ∷ steps) = is s step × AreAlong m is (after m s step) steps

-- each can be replayed there
abbrev pub AreReplayable : Meaning → Base → List Step → Type 0
AreReplayable m s steps = AreAlong m (IsReplayable m) s steps

-- the files of these outputs, the first of which is output k, are no shorter than what is sealed
abbrev pub AreLong : ℕ → List Output → Image → Type 0
AreLong k [] image = Unit {0}
AreLong k (out ∷ outs) image = (out.sealed_bytes ≤ length (image (out_file k))) × AreLong (suc k) outs image

-- a store opens with this state, and with these steps behind it
pub record Opens (m : Meaning) (image : Image) (generation : ℕ) (base : Base) (steps : List Step) : Type 0 where
  pub stored : IsStored image generation base steps
  pub sound : IsSound m base
  pub replays : AreReplayable m base steps
  pub long : AreLong 0 (replay m base steps).outs image
