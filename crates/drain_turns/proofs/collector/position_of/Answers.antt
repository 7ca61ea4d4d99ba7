use Rattle.std.proofs.Common.{◌≤◌}
use Rattle.base_types.proofs.Everywhere.{all_found}
use Rattle.step_code.specs.declared.feed.Feed.{Feed}
use Rattle.step_code.specs.Sound.{last_number}
use Rattle.step_code.specs.State.{is_feed}
use Rattle.drain_turns.proofs.collector.position_of.Goals as goal

pub returns-in-Some-clause-near : goal.returns-in-Some-clause-near
returns-in-Some-clause-near g c = all_found (λ (f : Feed). f.position ≤ last_number) (is_feed c.args.bot.now) c.args.core.now.state.feeds c.in-Some.feed.now c.feeds.ensures.near c.in-Some.ensures
