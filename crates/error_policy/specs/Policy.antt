-- What a bot does with a message that it couldn't process.
use Rattle.std.specs.Prelude.{ℕ, nat_lt, if◌then◌else◌}
use Rattle.error_policy.specs.declared.Next.{Next}
use Rattle.error_policy.specs.declared.Next.TheVariants.{Retry, Fail, FailAndStop}
use Rattle.error_policy.specs.declared.Policy.{Policy}

-- a message that was tried so often is tried again while that is below the retries; else it is given up, and the bot stops if it is set so
abbrev pub decided : Policy → ℕ → Next
decided policy tries = if nat_lt tries policy.retries then Retry else (if policy.stop then FailAndStop else Fail)
