use Rattle.std.proofs.lemmas.Result.{on_ok_weaker}
use Rattle.field_types.specs.Writing.{item_text}
use Rattle.field_types.proofs.Joined.{joined_rest, put_behind}
use Rattle.field_types.proofs.writing.push_items.Goals as goal

pub returns-clause-text : goal.returns-clause-text
returns-clause-text c =
    on_ok_weaker c.push_more_items.result
    (put_behind _ _ _ _ _ _ c.in_ok-push_item.ensures.text (joined_rest item_text c.args.items.now c.first-item.result c.first-item.is c.in-len1-up.len_at_least))
    c.push_more_items.ensures.text
