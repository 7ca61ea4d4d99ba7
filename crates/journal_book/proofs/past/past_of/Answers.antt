use Rattle.std.proofs.Common.{List, sym, subst}
use Rattle.step_code.specs.declared.base.Base.{Base}
use Rattle.step_code.specs.declared.step.Step.{Step}
use Rattle.generation_reading.specs.Reading.{AreHistory}
use Rattle.journal_book.proofs.past.past_of.Goals as goal

pub decode_history-requires : goal.decode_history-requires
decode_history-requires g c = (g.R.Rules.meaning, c.in-Ok.ensures.history.0, c.in-Ok.ensures.history.1, c.in-Ok.ensures.history.2)

pub returns-in-Ok-decode_history-clause-history : goal.returns-in-Ok-decode_history-clause-history
returns-in-Ok-decode_history-clause-history g c =
    let m = g.R.Rules.meaning in
    let found = c.in-Ok.ensures.history in
    let same = c.in-Ok-decode_history.ensures m found.0 found.1 found.2 in
    subst (λ (base : Base). AreHistory m c.args.bodies.now base c.in-Ok-decode_history.steps) (sym same.0)
    (subst (λ (steps : List Step). AreHistory m c.args.bodies.now found.0 steps) (sym same.1) found.2)
