use Rattle.std.proofs.Common.{sym, subst}
use Rattle.scalar_text.specs.Time.{IsExactly}
use Rattle.scalar_text.proofs.Times.{other_date}
use Rattle.scalar_text.proofs.time.read_date.Goals as goal

pub returns-in_default-clause-value : goal.returns-in_default-clause-value
returns-in_default-clause-value c = λ day h. c.in_default.ensures.value h.0 (subst (λ t. IsExactly 4 t h.0) (sym c.part-2.ensures) h.3)

pub returns-in_default-read_exactly-clause-value : goal.returns-in_default-read_exactly-clause-value
returns-in_default-read_exactly-clause-value c = λ day h. c.in_default-read_exactly.ensures.value h.1 (subst (λ t. IsExactly 2 t h.1) (sym c.part-3.ensures) h.5)

pub returns-in_default-read_exactly-2-clause-value : goal.returns-in_default-read_exactly-2-clause-value
returns-in_default-read_exactly-2-clause-value c = λ day h. c.in_default-read_exactly-2.ensures.value h.2 (subst (λ t. IsExactly 2 t h.2) (sym c.behind.ensures) h.7)

pub returns-in-None-clause-value : goal.returns-in-None-clause-value
returns-in-None-clause-value c = λ day h.
    c.in-None.ensures.value day (other_date c.args.text.now _ _ _
    (subst (λ t. IsExactly 4 t c.in-Some.year) c.part-2.ensures c.in-Some.ensures.value)
    (subst (λ t. IsExactly 2 t c.in-Some-read_exactly.month) c.part-3.ensures c.in-Some-read_exactly.ensures.value)
    (subst (λ t. IsExactly 2 t c.in-Some-read_exactly-2.mday) c.behind.ensures c.in-Some-read_exactly-2.ensures.value)
    day h)
