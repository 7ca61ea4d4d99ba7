use Rattle.std.proofs.Common.{◌≡◌, ◌↔◌, IsTrue, w64, sym, ap, subst, ◌∙◌}
use Rattle.std.specs.Fmt.{signed_decimal}
use Rattle.std.specs.Int.{is_negative}
use Rattle.std.proofs.lemmas.Bool.{false≢true}
use Rattle.std.proofs.lemmas.Int.{to_z-of_z}
use Rattle.scalar_text.specs.Number.{has_minus, is_shortest_whole}
use Rattle.scalar_text.proofs.CanonicalDecimals.{fits_word}
use Rattle.scalar_text.proofs.PrintedNumbers.{front_of}
use Rattle.scalar_text.proofs.StandsPrinted.{exact_whole}
use Rattle.scalar_text.proofs.printing.is_printed_whole.Goals as goal

pub returns-then-not-has_sign_of : goal.returns-then-not-has_sign_of
returns-then-not-has_sign_of c = (
  λ no. absurd (false≢true no),
  λ is.
      let sign = ap has_minus is ∙ (front_of c.args.n (fits_word c.args.n c.ranges.n.sfits)).0 in
      sym c.if-not-has_sign_of.true ∙ c.has_sign_of.ensures.1 (sign ∙ ap is_negative (sym (to_z-of_z w64 c.args.n c.ranges.n))),
)

pub returns : goal.returns
returns c =
    let n = c.args.n in
    let sign = c.has_sign_of.ensures.0 c.if-not-has_sign_of.false ∙ ap is_negative (to_z-of_z w64 n c.ranges.n) in
    subst (λ b. IsTrue b ↔ c.args.text.now ≡ signed_decimal n) (sym (c.is_shortest_whole.ensures ∙ ap is_shortest_whole c.behind_minus.ensures))
    (exact_whole c.args.text.now n c.requires (fits_word n c.ranges.n.sfits) sign)
