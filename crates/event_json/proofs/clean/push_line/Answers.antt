use Rattle.std.proofs.Common.{ℕ, List, [], ◌∷◌, ◌++◌, ap}
use Rattle.event_json.specs.Direct.{ended}
use Rattle.event_json.proofs.Reading.{puts_text}
use Rattle.event_json.proofs.clean.push_line.Goals as goal

pub returns-in-Some-clause-text : goal.returns-in-Some-clause-text
returns-in-Some-clause-text c =
    puts_text c.put_ended.result c.args.bytes.now (ended c.args.line.now) (c.in-Some.text.now ++ 125 ∷ []) c.args.out.now.items c.put_ended.new.out.items c.requires
    (ap (λ (t : List ℕ). t ++ 125 ∷ []) c.in-Some.ensures) c.put_ended.ensures.text
