use Rattle.std.proofs.Common.{[], ◌∷◌, ◌++◌, sym, ◌∙◌, ap, position}
use Rattle.step_code.specs.declared.output.Output.{Output}
use Rattle.step_code.specs.State.{is_out}
use Rattle.core_state.specs.Outputs.{HasLength, is_written_by, out_of}
use Rattle.core_state.proofs.Seen.{all_set, changed_at, unchanged}
use Rattle.core_state.proofs.outputs.write_line.Goals as goal

pub returns-in-Some-clause-written : goal.returns-in-Some-clause-written
returns-in-Some-clause-written c =
    let place = ap (position (is_written_by c.args.bot.now)) (sym c.deref.ensures.value) ∙ sym c.place_of_output.ensures ∙ c.in-Some.is in
    let more : Output → Output = λ (o : Output). record o { lines = o.lines ++ c.args.line ∷ [] } in
    changed_at out_of (is_out c.args.bot.now) more c.args.outs.now.items c.in-Some.i c.index_mut.result.now c.add_line.new.written place c.index_mut.ensures.value c.add_line.ensures.added

pub returns-in-Some-clause-lengths : goal.returns-in-Some-clause-lengths
returns-in-Some-clause-lengths c all = all_set HasLength c.args.outs.now.items c.in-Some.i c.index_mut.result.now c.add_line.new.written c.index_mut.ensures.value c.add_line.ensures.length all

pub returns-in_default-clause-written : goal.returns-in_default-clause-written
returns-in_default-clause-written c =
    let none = ap (position (is_written_by c.args.bot.now)) (sym c.deref.ensures.value) ∙ sym c.place_of_output.ensures ∙ c.in_default.is in
    let more : Output → Output = λ (o : Output). record o { lines = o.lines ++ c.args.line ∷ [] } in
    unchanged out_of (is_out c.args.bot.now) more c.args.outs.now.items none
