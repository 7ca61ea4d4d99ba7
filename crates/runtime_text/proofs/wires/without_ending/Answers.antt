use Rattle.std.proofs.lemmas.Slice.Eq.{strip_suffix_is}
use Rattle.std.proofs.lemmas.Bool.Decides.{Decides-eqb}
use Rattle.base_types.specs.Name.{queue_ending}
use Rattle.runtime_text.proofs.wires.without_ending.Goals as goal

pub returns : goal.returns
returns c = strip_suffix_is Decides-eqb c.args.queue.now queue_ending c.strip_suffix.result c.strip_suffix.ensures.cases
