use Rattle.book_runs.proofs.Called.{called}
use Rattle.book_runs.proofs.laws.calls_go_on.Goals as goal

pub returns : goal.returns
returns g c begun steps more made old opened later is run = called begun steps more made old opened later is run c.each_message_stands_in_one_place.ensures
