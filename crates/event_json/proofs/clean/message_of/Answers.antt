use Rattle.event_json.specs.Direct.{ended}
use Rattle.event_json.proofs.Reading.{the_read}
use Rattle.event_json.proofs.clean.message_of.Goals as goal

pub returns-in-Some : goal.returns-in-Some
returns-in-Some c = the_read c.args.bytes.now (ended c.args.line) c.in-Some.message c.requires c.in-Some.ensures.text c.in-Some.ensures.typed
