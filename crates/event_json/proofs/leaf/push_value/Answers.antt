use Rattle.event_json.proofs.Putting.{cleaned_value, field_cleaned}
use Rattle.event_json.proofs.leaf.push_value.Goals as goal

pub push_cleaned-requires-clause-field : goal.push_cleaned-requires-clause-field
push_cleaned-requires-clause-field c = field_cleaned c.args.key.now c.in-Some.kind c.args.value c.sanitise_own.result c.in-Some.ensures c.sanitise_own.ensures

pub returns : goal.returns
returns c =
    cleaned_value c.args.key.now c.in-Some.kind c.args.value c.sanitise_own.result c.args.line.now c.push_cleaned.new.line c.push_cleaned.result c.in-Some.ensures c.sanitise_own.ensures
    c.push_cleaned.ensures
