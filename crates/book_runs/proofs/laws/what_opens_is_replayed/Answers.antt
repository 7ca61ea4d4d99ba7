use Rattle.book_runs.proofs.Replayed.{replayed_whole}
use Rattle.book_runs.proofs.laws.what_opens_is_replayed.Goals as goal

pub returns : goal.returns
returns c m first whole files history generation base steps stands opens = replayed_whole m files history generation base steps opens first whole stands
