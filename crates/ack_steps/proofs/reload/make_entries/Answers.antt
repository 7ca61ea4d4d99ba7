use Rattle.ack_steps.proofs.reload.make_entries.Goals as goal

pub returns-clause-few : goal.returns-clause-few
returns-clause-few c = λ few. few
