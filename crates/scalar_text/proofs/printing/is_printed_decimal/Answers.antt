use Rattle.std.proofs.Common.{◌≡◌, ◌↔◌, ◌&&◌, ◌+◌, take, drop, IsTrue, w64, sym, ap, subst, ◌∙◌}
use Rattle.std.specs.Int.{is_negative}
use Rattle.std.proofs.lemmas.Bool.{false≢true}
use Rattle.std.proofs.lemmas.Int.{to_z-of_z}
use Rattle.std.proofs.lemmas.Option.{none-some}
use Rattle.scalar_text.specs.Number.{decimal_text, point_in, is_shortest_whole, is_shortest_part}
use Rattle.scalar_text.proofs.CanonicalDecimals.{fits_word}
use Rattle.scalar_text.proofs.StandsPrinted.{exact, stands}
use Rattle.scalar_text.proofs.printing.is_printed_decimal.Goals as goal

pub returns-then-not-has_sign_of : goal.returns-then-not-has_sign_of
returns-then-not-has_sign_of c = (
  λ no. absurd (false≢true no),
  λ is.
      let (i, there) = stands c.args.text.now c.args.n (fits_word c.args.n c.ranges.n.sfits) is in
      sym c.if-not-has_sign_of.true ∙ c.has_sign_of.ensures.1 (there.sign ∙ ap is_negative (sym (to_z-of_z w64 c.args.n c.ranges.n))),
)

pub returns-in_default : goal.returns-in_default
returns-in_default c = (
  λ no. absurd (false≢true no),
  λ is.
      let (i, there) = stands c.args.text.now c.args.n (fits_word c.args.n c.ranges.n.sfits) is in
      absurd (none-some i (sym c.in_default.is ∙ c.point_in.ensures ∙ ap point_in c.behind_minus-digits.ensures ∙ there.point)),
)

pub returns : goal.returns
returns c =
    let n = c.args.n in
    let at = c.in-Some.at in
    let sign = c.has_sign_of.ensures.0 c.if-not-has_sign_of.false ∙ ap is_negative (to_z-of_z w64 n c.ranges.n) in
    let point = ap point_in (sym c.behind_minus-digits.ensures) ∙ sym c.point_in.ensures ∙ c.in-Some.is in
    subst (λ b. IsTrue b ↔ c.args.text.now ≡ decimal_text n)
    (sym (c.has_shortest_sides.ensures ∙ ap (λ ds. is_shortest_whole (take at ds) && is_shortest_part (drop (at + 1) ds)) c.behind_minus-digits.ensures))
    (exact c.args.text.now n at c.requires (fits_word n c.ranges.n.sfits) point sign)
