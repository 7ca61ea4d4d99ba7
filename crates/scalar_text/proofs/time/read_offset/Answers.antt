use Rattle.std.proofs.Common.{◌≡◌, ℕ, pos, neg_ℤ, subst, MatchOption, arith}
use Rattle.std.proofs.lemmas.List.{take_rest}
use Rattle.scalar_text.specs.Time.{IsShift}
use Rattle.scalar_text.proofs.Times.{east_cases, west_cases}
use Rattle.scalar_text.proofs.time.read_offset.Goals as goal

pub returns-in-43-clause-value : goal.returns-in-43-clause-value
returns-in-43-clause-value c =
    let east = subst (λ t. MatchOption c.east.result ((n : ℕ) → ¬ (IsShift t n)) (λ z. (n : ℕ) × IsShift t n × (z ≡ pos n))) (take_rest c.args.text.now 1) c.east.ensures.value in
    east_cases c.args.text.now c.east.result (omega arith) c.in-43.is east

pub returns-in-45-clause-value : goal.returns-in-45-clause-value
returns-in-45-clause-value c =
    let west = subst (λ t. MatchOption c.west.result ((n : ℕ) → ¬ (IsShift t n)) (λ z. (n : ℕ) × IsShift t n × (z ≡ neg_ℤ (pos n)))) (take_rest c.args.text.now 1) c.west.ensures.value in
    west_cases c.args.text.now c.west.result (omega arith) c.in-45.is west
