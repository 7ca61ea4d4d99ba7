use Rattle.event_json.proofs.Putting.{dropped_text, field_kept, kept_text}
use Rattle.event_json.proofs.leaf.push_text.Goals as goal

pub push_kept-requires-clause-field : goal.push_kept-requires-clause-field
push_kept-requires-clause-field c =
    field_kept c.args.key.now c.args.text.now c.strip-stripped.result.now c.in-Some.kind c.keep.result c.strip-stripped.ensures c.in-Some.ensures c.keep.ensures

pub returns-then-is_dropped_text : goal.returns-then-is_dropped_text
returns-then-is_dropped_text c = λ taken. dropped_text c.args.key.now c.args.text.now c.strip-stripped.result.now c.args.line.now c.strip-stripped.ensures c.if-is_dropped_text.ensures

pub returns : goal.returns
returns c =
    kept_text c.args.key.now c.args.text.now c.strip-stripped.result.now c.in-Some.kind c.keep.result c.args.line.now c.push_kept.new.line c.push_kept.result
    c.strip-stripped.ensures c.if-is_dropped_text.ensures c.in-Some.ensures c.keep.ensures c.push_kept.ensures
