use Rattle.std.proofs.Common.{option_map, ap}
use Rattle.store_audit.proofs.Generations.{unbegun}
use Rattle.store_audit.proofs.generation.begin.Goals as goal

pub returns-in-Ok-false-clause-unbegun : goal.returns-in-Ok-false-clause-unbegun
returns-in-Ok-false-clause-unbegun g c = λ files told.
    unbegun g.R.Rules.meaning files c.args.generation (option_map (λ core. core.now.state) c.args.before) c.args.body.now c.in-Ok.field-0-1.value c.in-Ok.core.state c.in-Ok.ensures.base (ap (λ core. core.state) c.in-Ok.ensures.core) c.in-Ok-false.field-0 c.in-Ok-false.field-0-test
    (c.in-Ok-false.ensures.follows files told) c.generation_file.result c.generation_file.ensures
