-- Numbers between two others.
use Rattle.std.proofs.Common.{◌≡◌, ◌≤◌, ℕ, Bool, true, false, Option, Some, None, refl, subst, arith}
use Rattle.std.specs.Prelude.{◌&&◌, is_none, nat_le, option_and_then, if◌then◌else◌}
use Rattle.std.proofs.lemmas.Bool.{and_parts, leb-true}
use Rattle.std.proofs.lemmas.Option.{cond_some}
use Rattle.serde_json.specs.Data.{Data}
use Rattle.serde_json.specs.Find.{as_number, as_u64}
use Rattle.module_settings.specs.Parameters.{taken_as, whole_within}
use Rattle.runtime_text.specs.Runtime.{whole_in}
use Rattle.module_settings.specs.declared.form.Form.TheVariants as form
use Rattle.module_settings.specs.declared.setting.Setting.TheVariants as setting

within : (o : Option ℕ) (least most n : ℕ) → option_and_then (whole_within least most) o ≡ Some (setting.Whole n) → (least ≤ n) × (n ≤ most)
within None least most n is = absurd (cc)
within (Some m) least most n is =
    let both = cond_some (nat_le least m && nat_le m most) (setting.Whole m) (setting.Whole n) is in
    let same : m ≡ n = cc (both.1) in
    let tests = and_parts (nat_le least m) (nat_le m most) both.0 in
    subst (λ k. (least ≤ k) × (k ≤ most)) same (leb-true least m tests.0, leb-true m most tests.1)

pub number_within : (least most n : ℕ) (d : Data) → taken_as (form.Number least most) d ≡ Some (setting.Whole n) → (least ≤ n) × (n ≤ most)
unfolding taken_as
number_within least most n d is = within (option_and_then as_u64 (as_number d)) least most n is

zero_within : (o : Option ℕ) (least most : ℕ) → whole_in (option_and_then (whole_within least most) o) ≤ most
zero_within None least most = omega arith
zero_within (Some n) least most = by_test (nat_le least n && nat_le n most) refl
  where
    by_test : (b : Bool) → (nat_le least n && nat_le n most) ≡ b → whole_in (if b then Some (setting.Whole n) else None) ≤ most
    by_test true is = leb-true n most (and_parts (nat_le least n) (nat_le n most) is).1
    by_test false is = omega arith

-- what is taken as a number is at most the greatest; what isn't counts as nothing
pub whole_is_within : (least most : ℕ) (d : Data) → whole_in (taken_as (form.Number least most) d) ≤ most
unfolding taken_as
whole_is_within least most d = zero_within (option_and_then as_u64 (as_number d)) least most

tested_least : (b : Bool) (least n : ℕ) → (b ≡ true → least ≤ n) → is_none (if b then Some (setting.Whole n) else None) ≡ false → least ≤ whole_in (if b then Some (setting.Whole n) else None)
tested_least true least n within is = within refl
tested_least false least n within is = absurd (cc (is))

some_least : (o : Option ℕ) (least most : ℕ) → is_none (option_and_then (whole_within least most) o) ≡ false → least ≤ whole_in (option_and_then (whole_within least most) o)
some_least None least most is = absurd (cc (is))
some_least (Some n) least most is =
    tested_least (nat_le least n && nat_le n most) least n (λ tests. leb-true least n (and_parts (nat_le least n) (nat_le n most) tests).0) is

-- what is taken as a number, where it is taken as one, is at least the least
pub least_within : (least most : ℕ) (d : Data) → is_none (taken_as (form.Number least most) d) ≡ false → least ≤ whole_in (taken_as (form.Number least most) d)
unfolding taken_as
least_within least most d is = some_least (option_and_then as_u64 (as_number d)) least most is
