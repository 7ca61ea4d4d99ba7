use Rattle.history_laws.proofs.Replayable.{may_replay}
use Rattle.history_laws.proofs.laws.what_may_be_taken_may_be_replayed.Goals as goal

pub returns : goal.returns
returns g c bots s step plan may = may_replay g.R.Rules.meaning bots (g.met.R.Rules.given_fits bots) s step plan may
