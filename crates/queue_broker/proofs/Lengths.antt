-- How many messages wait, and how long their bodies are.
use Rattle.std.proofs.Common.{◌*◌, ◌≤◌, ◌^◌, ℕ, List, [], ◌∷◌, length, arith}
use Rattle.std.specs.List.{sum_by}
use Rattle.std.proofs.lemmas.List.Sums.{sum_by-cons}
use Rattle.base_types.specs.declared.message.Msg.{Msg}
use Rattle.queue_broker.specs.Kept.{AreShort}

abbrev body_length : Msg → ℕ
body_length message = length message.body

-- so many bodies can't be longer
pub bytes_bounded : (messages : List Msg) → AreShort messages → sum_by (λ message. length message.body) messages ≤ length messages * 2 ^ 64
bytes_bounded [] short = omega arith
bytes_bounded (message ∷ messages) short = omega (arith, short.0, bytes_bounded messages short.1, sum_by-cons body_length message messages)
