use Rattle.store_commands.proofs.SameTexts.{same_shown, same_summary}
use Rattle.store_commands.proofs.laws.sealed_states_print_alike.Goals as goal

pub returns : goal.returns
returns c whole sealed is = (same_summary whole sealed is, λ what. same_shown what whole sealed is)
