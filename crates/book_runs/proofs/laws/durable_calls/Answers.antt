use Rattle.book_runs.proofs.Called.{called_durably}
use Rattle.book_runs.proofs.laws.durable_calls.Goals as goal

pub returns : goal.returns
returns g c begun steps more made old opened later is run = called_durably begun steps more made old opened later is run c.each_message_stands_in_one_place.ensures
