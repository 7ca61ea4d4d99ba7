use Rattle.std.proofs.Common.{length, take, ap, arith}
use Rattle.std.proofs.lemmas.List.{length-append, length-take}
use Rattle.ack_steps.specs.Entries.{new_feeds}
use Rattle.ack_steps.proofs.Entries.{new_feeds-length}
use Rattle.ack_steps.proofs.reload.add_feeds.Goals as goal

pub add_feed-requires-clause-room : goal.add_feed-requires-clause-room
add_feed-requires-clause-room c =
    let old = c.args.feeds.now.items in
    let bots = c.args.bots.now in
    let i = c.bots.facts-index in
    omega (
      arith,
      ap length c.bots.invariant.0,
      length-append old (new_feeds (take i bots) old),
      new_feeds-length (take i bots) old,
      length-take i bots,
      c.bots-test.true,
      c.bots.invariant.1,
      c.requires,
    )
