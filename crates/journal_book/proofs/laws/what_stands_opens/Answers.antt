use Rattle.journal_book.proofs.StandsOpen.{opens_as_it_stands}
use Rattle.journal_book.proofs.laws.what_stands_opens.Goals as goal

pub returns : goal.returns
returns g c = λ bots bundle whole image history loads legal small stands.
    opens_as_it_stands g.R.Rules.meaning bots bundle loads c.legal_histories_leave_sound_states.ensures c.what_may_be_taken_may_be_replayed.ensures whole image history legal small stands
