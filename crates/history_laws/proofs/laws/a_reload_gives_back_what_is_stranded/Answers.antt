use Rattle.history_laws.proofs.Stranded.{reload_leaves}
use Rattle.history_laws.proofs.laws.a_reload_gives_back_what_is_stranded.Goals as goal

pub returns : goal.returns
returns g c s now bundle sound = reload_leaves g.R.Rules.meaning g.met.R.Rules.bots_are_sound s now bundle sound
