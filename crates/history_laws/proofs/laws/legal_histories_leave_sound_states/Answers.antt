use Rattle.history_laws.proofs.SoundHistories.{sound_at_end}
use Rattle.history_laws.proofs.laws.legal_histories_leave_sound_states.Goals as goal

pub returns : goal.returns
returns g c bots bundle steps plan legal small =
    sound_at_end g.R.Rules.meaning g.met.R.Rules.bots_are_sound g.met.R.Rules.given_fits bots bundle plan steps legal small
