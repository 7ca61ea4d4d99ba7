use Rattle.std.proofs.Common.{◌≡◌, ◌+ℤ◌, ◌*ℤ◌, ◌-ℤ◌, pos, sym, ◌∙◌, subst, drop}
use Rattle.scalar_text.specs.Time.{IsFullDate, IsClock, IsTail, IsSeparator}
use Rattle.scalar_text.proofs.Times.{same_date, same_clock, same_tail, same_parts, in_64_bits}
use Rattle.scalar_text.proofs.time.seconds_of.Goals as goal

pub returns-in_default : goal.returns-in_default
returns-in_default c = λ n h. c.in_default.ensures.value h.day (subst (λ t. IsFullDate t h.day) (sym c.part-2.ensures) h.date)

pub returns-in_default-read_clock : goal.returns-in_default-read_clock
returns-in_default-read_clock c = λ n h. c.in_default-read_clock.ensures.value h.clock (subst (λ t. IsClock t h.clock) (sym c.part-3.ensures) h.time)

pub returns-in_default-read_tail : goal.returns-in_default-read_tail
returns-in_default-read_tail c = λ n h. c.in_default-read_tail.ensures.value h.offset (subst (λ t. IsTail t h.offset) (sym c.behind.ensures) h.tail)

pub returns-in-Some-in_years : goal.returns-in-Some-in_years
returns-in-Some-in_years c = record {
  day = c.in-Some.day;
  clock = c.in-Some-read_clock.clock;
  offset = c.in-Some-read_tail.offset;
  date = subst (λ t. IsFullDate t c.in-Some.day) c.part-2.ensures c.in-Some.ensures.value;
  separator = subst IsSeparator c.part.ensures (c.is_separator.ensures.0 c.if-not-is_separator.false);
  time = subst (λ t. IsClock t c.in-Some-read_clock.clock) c.part-3.ensures c.in-Some-read_clock.ensures.value;
  tail = subst (λ t. IsTail t c.in-Some-read_tail.offset) c.behind.ensures c.in-Some-read_tail.ensures.value;
  value = c.in-Some-in_years.ensures.1 ∙ in_64_bits c.in-Some.day c.in-Some-read_tail.offset c.in-Some-read_clock.clock c.in-Some.ensures.bound c.in-Some-read_clock.ensures.below c.in-Some-read_tail.ensures.bound;
  last = c.in-Some-in_years.ensures.0;
}

pub returns-in-None : goal.returns-in-None
returns-in-None c = λ n h.
    let day : h.day ≡ c.in-Some.day = same_date _ _ _ h.date (subst (λ t. IsFullDate t c.in-Some.day) c.part-2.ensures c.in-Some.ensures.value) in
    let clock : h.clock ≡ c.in-Some-read_clock.clock = same_clock _ _ _ h.time (subst (λ t. IsClock t c.in-Some-read_clock.clock) c.part-3.ensures c.in-Some-read_clock.ensures.value) in
    let offset : h.offset ≡ c.in-Some-read_tail.offset = same_tail (drop 19 c.args.text.now) _ _ h.tail (subst (λ t. IsTail t c.in-Some-read_tail.offset) c.behind.ensures c.in-Some-read_tail.ensures.value) in
    let sum = in_64_bits c.in-Some.day c.in-Some-read_tail.offset c.in-Some-read_clock.clock c.in-Some.ensures.bound c.in-Some-read_clock.ensures.below c.in-Some-read_tail.ensures.bound in
    let value : pos n ≡ c.in-Some.day *ℤ pos 86400 +ℤ pos c.in-Some-read_clock.clock -ℤ c.in-Some-read_tail.offset = same_parts day clock offset h.value in
    c.in-None.ensures n h.last (value ∙ sym sum)
