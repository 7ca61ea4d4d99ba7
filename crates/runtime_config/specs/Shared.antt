-- The parameters that all bots have.
use Rattle.std.specs.Prelude.{◌≡◌, codes}
use Rattle.std.specs.Str.{bytes_eq}
use Rattle.serde_json.specs.Data.{Members}
use Rattle.runtime_text.specs.Runtime.{line, set_as, whole_in, Entry}
use Rattle.runtime_config.specs.Faults.{instances}
use Rattle.runtime_config.specs.declared.planning.Shared.{Shared}

-- they are those of the bot
pub record AreShared (global : Members) (bot : Entry) (s : Shared) : Type 0 where
  pub instances_are : s.instances ≡ instances global bot
  pub retries_are : s.retries ≡ whole_in (set_as global bot (codes "error_max_retries"))
  pub delay_is : s.delay ≡ whole_in (set_as global bot (codes "error_retry_delay"))
  pub stop_is : s.stop ≡ bytes_eq (line global bot (codes "error_procedure")) (codes "stop")
