use Rattle.runtime_text.proofs.AllNamed.{files_are_named}
use Rattle.runtime_text.proofs.laws.files_are_named.Goals as goal

pub returns : goal.returns
returns c = λ text runtime is bot there file given. files_are_named text runtime is bot there file given
