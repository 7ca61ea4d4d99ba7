use Rattle.std.proofs.Common.{Err, ap, sym, subst}
use Rattle.step_code.specs.declared.base.Base.{Base}
use Rattle.generation_reading.specs.Reading.{IsBase}
use Rattle.generation_reading.proofs.Bodies.{base_longer, base_refused, base_whole}
use Rattle.generation_reading.proofs.reading.base_of.Goals as goal

pub returns-then-len-body-clause-bad : goal.returns-then-len-body-clause-bad
returns-then-len-body-clause-bad g c = λ bad base fits sound.
    base_longer c.in_ok-state.state base c.args.body.now c.in_ok-state.ensures.code.0 c.in_ok-state.len c.in_ok-state.ensures.base c.in_ok-state.ensures.code.1 c.in_ok-state.ensures.code.2 c.if-len-body.true fits

pub returns-in-Ok-clause-base : goal.returns-in-Ok-clause-base
returns-in-Ok-clause-base g c =
    subst (λ (b : Base). IsBase g.R.Rules.meaning c.args.body.now b) (sym c.of-base.ensures) (base_whole g.R.Rules.meaning c.in_ok-state.state c.args.body.now c.in_ok-state.ensures.code.0 c.in_ok-state.len c.in_ok-state.ensures.base c.in-Ok.ensures.sound c.in_ok-state.ensures.code.1 c.in_ok-state.ensures.code.2 c.if-len-body.false)

pub returns-in-Err-Refused-clause-bad : goal.returns-in-Err-Refused-clause-bad
returns-in-Err-Refused-clause-bad g c = λ bad base fits sound.
    base_refused g.R.Rules.meaning c.in_ok-state.state base c.args.body.now c.in_ok-state.ensures.code.0 c.in_ok-state.ensures.base c.in_ok-state.ensures.code.1 (c.in-Err-Refused.ensures.refused (ap Err c.in-Err-Refused.field-0-is)) fits sound
