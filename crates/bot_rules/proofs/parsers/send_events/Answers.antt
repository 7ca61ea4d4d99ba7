use Rattle.bot_rules.proofs.Sends.{next_event}
use Rattle.bot_rules.proofs.parsers.send_events.Goals as goal

pub events-preserved : goal.events-preserved
events-preserved c =
    next_event c.args.queues.now c.events.yielded c.in-Some.event c.events.sends c.send_event.new.sends c.events.invariant c.in_ok-send_event.ensures.sends c.in_ok-send_event.ensures.lawful
