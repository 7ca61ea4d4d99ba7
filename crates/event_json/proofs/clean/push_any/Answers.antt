use Rattle.event_json.proofs.Reading.{puts_text}
use Rattle.event_json.proofs.clean.push_any.Goals as goal

pub returns-in-Ok-write_message-clause-text : goal.returns-in-Ok-write_message-clause-text
returns-in-Ok-write_message-clause-text c =
    puts_text c.put_behind.result c.args.bytes.now c.in-Ok-write_message.text c.bytes.result.now c.args.out.now.items c.put_behind.new.out.items
    (record { message = c.in-Ok.message; is = c.in-Ok.ensures; typed = c.in-Ok-write_message.ensures.typed; text_is = c.in-Ok-write_message.ensures.text }) c.bytes.ensures
    c.put_behind.ensures.text
