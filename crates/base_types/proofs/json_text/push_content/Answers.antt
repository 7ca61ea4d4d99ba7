use Rattle.std.proofs.Common.{◌++◌, List, ℕ, sym, ap, ◌∙◌}
use Rattle.base_types.proofs.PlainRuns.{written}
use Rattle.base_types.proofs.json_text.push_content.Goals as goal

pub returns-then-is_plain_text : goal.returns-then-is_plain_text
returns-then-is_plain_text c =
    c.in_ok-extend_from_slice.ensures.items
    ∙ ap (λ (t : List ℕ). c.args.out.now.items ++ t) (sym (written c.args.text.now (c.is_plain_text.ensures c.if-is_plain_text.true)))
