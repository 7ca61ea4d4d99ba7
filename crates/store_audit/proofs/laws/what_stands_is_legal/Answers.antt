use Rattle.store_audit.proofs.Audited.{stands_legal}
use Rattle.store_audit.proofs.laws.what_stands_is_legal.Goals as goal

pub returns : goal.returns
returns g c = stands_legal g.R.Rules.meaning c.legal_histories_leave_sound_states.ensures c.what_may_be_taken_may_be_replayed.ensures
