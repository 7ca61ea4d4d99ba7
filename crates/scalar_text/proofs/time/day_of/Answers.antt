use Rattle.std.proofs.Common.{◌≡◌, pos, refl, ◌∙◌, to_z, w8, w16, arith}
use Rattle.std.proofs.lemmas.Int.{to_z_pos}
use Rattle.jiff_core.proofs.SignedLemmas.{signed_arith}
use Rattle.jiff_core.specs.Calendar.{IsDate, days_from_civil}
use Rattle.scalar_text.proofs.Times.{first_day, date_of, date_number}
use Rattle.scalar_text.proofs.time.day_of.Goals as goal

pub returns-in-Ok-clause-value : goal.returns-in-Ok-clause-value
returns-in-Ok-clause-value c =
    let y : to_z w16 c.args.year ≡ pos c.args.year = to_z_pos w16 c.args.year (omega arith) in
    let m : to_z w8 c.args.month ≡ pos c.args.month = to_z_pos w8 c.args.month (omega arith) in
    let d : to_z w8 c.args.mday ≡ pos c.args.mday = to_z_pos w8 c.args.mday (omega arith) in
    let is : IsDate (pos c.args.year) (pos c.args.month) (pos c.args.mday) = date_of _ _ _ _ _ _ y m d (c.in-Ok.ensures.succeeds.0 refl) in
    let parts = c.in-Ok.ensures.value in
    let number : c.to_unix_epoch_day.result ≡ days_from_civil (pos c.args.year) c.args.month c.args.mday = c.to_unix_epoch_day.ensures.value ∙ date_number _ _ _ _ _ _ (parts.0 ∙ y) (parts.1 ∙ m) (parts.2 ∙ d) in
    let bound = c.to_unix_epoch_day.ensures.bound in
    (omega arith, is, omega (arith, signed_arith, first_day))
