use Rattle.std.proofs.Common.{◌≡◌, ◌-◌, length, take, Less, sym, ap, ◌∙◌}
use Rattle.std.specs.FinMap.{is_sorted}
use Rattle.base_types.specs.Place.{is_above_all}
use Rattle.base_types.proofs.Places.{order, less_of}
use Rattle.event_json.specs.Direct.{named_values}
use Rattle.event_json.specs.Quoted.{quoted_view}
use Rattle.event_json.proofs.Placing.{named_last, above_last}
use Rattle.event_json.proofs.at_once.is_above.Goals as goal

pub returns-in-len1-up : goal.returns-in-len1-up
returns-in-len1-up c = λ yes.
    let ms = c.args.members.now in
    let last = c.last-item.result in
    let is = named_last ms last c.in-len1-up.len_at_least c.last-item.is in
    let less : order last.0 c.args.name.now ≡ Less = sym c.compare.ensures ∙ less_of c.compare.result (sym c.is_lt.ensures ∙ yes) in
    ap (is_above_all c.args.name.now) is ∙ above_last c.args.name.now (named_values (take (length ms - 1) ms)) (last.0, quoted_view last.1.now) (ap (is_sorted order) (sym is) ∙ c.requires) less
