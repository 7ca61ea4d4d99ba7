use Rattle.event_json.specs.Direct.{ended}
use Rattle.event_json.proofs.Reading.{all_lenient}
use Rattle.event_json.proofs.clean.write_line.Goals as goal

pub returns-in-Ok : goal.returns-in-Ok
returns-in-Ok c =
    all_lenient c.args.bytes.now c.in-Ok.text.now (ended c.write_text.new.line) c.write_text.result c.in-Ok.ensures.cases.0 c.in-Ok.ensures.cases.1 c.write_text.ensures
