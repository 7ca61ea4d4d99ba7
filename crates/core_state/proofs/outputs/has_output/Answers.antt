use Rattle.std.proofs.Common.{◌∙◌, sym}
use Rattle.step_code.specs.State.{is_out}
use Rattle.core_state.specs.Outputs.{out_of}
use Rattle.step_code.proofs.Lists.{any_map}
use Rattle.core_state.proofs.outputs.has_output.Goals as goal

pub returns : goal.returns
returns c = c.is_there.ensures ∙ sym (any_map out_of (is_out c.args.bot.now) c.args.outs.now)
