use Rattle.std.proofs.Common.{sym, ◌∙◌}
use Rattle.core_state.proofs.Brought.{by_no_place, by_place}
use Rattle.core_state.proofs.spent.first_long_with.Goals as goal

pub returns-in-Some-place_of_output : goal.returns-in-Some-place_of_output
returns-in-Some-place_of_output c =
    by_place c.args.line.now c.in-Some.bot c.in-Some.bytes c.args.outs.now c.in-Some-place_of_output.place c.first_long_at.result c.in-Some.is
    (sym c.place_of_output.ensures ∙ c.in-Some-place_of_output.is) c.first_long_at.ensures

pub returns-in-None : goal.returns-in-None
returns-in-None c =
    by_no_place c.args.line.now c.in-Some.bot c.in-Some.bytes c.args.outs.now c.first_long-in-None.result c.in-Some.is
    (sym c.place_of_output.ensures ∙ c.in-None.is) c.first_long-in-None.ensures
