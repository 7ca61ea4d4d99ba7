use Rattle.std.proofs.lemmas.Result.{IfOk-weaker}
use Rattle.sound_states.proofs.Decided.{sound_Decides}
use Rattle.sound_states.proofs.soundness.is_sound.Goals as goal

pub returns : goal.returns
returns c m plan = IfOk-weaker c.is_sound_under.result _ _ (sound_Decides m c.args.bots.now c.args.base.now plan) c.is_sound_under.ensures
