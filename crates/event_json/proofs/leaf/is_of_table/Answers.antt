use Rattle.std.proofs.Common.{sym, ◌∙◌}
use Rattle.std.proofs.lemmas.Bool.{not-true}
use Rattle.event_json.proofs.Lines.{plain_key}
use Rattle.event_json.proofs.leaf.is_of_table.Goals as goal

pub returns : goal.returns
returns c = λ taken. plain_key c.args.key.now c.args.kind c.requires (sym c.is_extra.ensures ∙ not-true _ taken)
