use Rattle.std.proofs.Common.{ap, ◌∙◌, length}
use Rattle.std.specs.Option.{unwrap_or}
use Rattle.event_text.proofs.Runs.{first_or_all}
use Rattle.event_text.proofs.value.run_len.Goals as goal

pub returns-clause-value : goal.returns-clause-value
returns-clause-value c =
    c.unwrap_or.ensures ∙ ap (λ o. unwrap_or o (length c.args.rest.now)) c.first_stop.ensures ∙ first_or_all c.args.rest.now
