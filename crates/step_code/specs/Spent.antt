-- The numbers that a step brings, and the first of them that passes the last one that may be given.
use Rattle.std.specs.Prelude.{◌≡◌, ◌+◌, ◌-◌, ◌^◌, ℕ, Bool, List, [], ◌∷◌, length, map, min, sum_by, Option, None, find, nat_lt}
use Rattle.step_code.specs.declared.base.Base.{Base}
use Rattle.step_code.specs.declared.output.Output.{Output}
use Rattle.step_code.specs.declared.step.Step.{Step}
use Rattle.base_types.specs.Number.{last_u64}
use Rattle.step_code.specs.Rules.{Meaning}
use Rattle.step_code.specs.After.{after}

-- the last number that a step, a message, a dump, a bundle or an output may have, and the greatest length of an output
abbrev pub last_given : ℕ
last_given = 2 ^ 62

-- numbers are given one by one: the first one behind the last is the first that can't be given
abbrev pub up_to_spent : ℕ → ℕ
up_to_spent n = min n (last_given + 1)

-- the length of an output in bytes: what is sealed, and each line behind it with its newline
abbrev pub out_length : Output → ℕ
out_length o = o.sealed_bytes + sum_by (λ line. length line + 1) o.lines

-- what a step brings that leads to this state: the numbers of the step, of the last message, of the last dump and of the
-- bundle, the place of the last output, and the lengths of the outputs
abbrev pub numbers_brought : Base → List ℕ
numbers_brought t = t.steps ∷ up_to_spent (t.next_message - 1) ∷ up_to_spent (t.next_dump - 1) ∷ t.bundle_no ∷ (length t.outs - 1) ∷ map out_length t.outs

-- the number passes the last one that may be given
abbrev pub is_past : ℕ → Bool
is_past n = nat_lt last_given n

-- the first number that a step brings past the last one, if it brings one; one that 64 bits don't hold counts as the
-- greatest that they do
abbrev pub spent : Meaning → Base → Step → Option ℕ
spent m s step = find is_past (map (λ n. min n last_u64) (numbers_brought (after m s step)))

-- the step brings no such number
abbrev pub StaysSmall : Meaning → Base → Step → Type 0
StaysSmall m s step = spent m s step ≡ None

-- so it is with each of these steps, in the state that the steps before it leave
abbrev pub NothingIsSpent : Meaning → Base → List Step → Type 0
NothingIsSpent m s [] = Unit {0}
NothingIsSpent m s (step ∷ steps) = StaysSmall m s step × NothingIsSpent m (after m s step) steps
