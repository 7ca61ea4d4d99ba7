-- What the least name has in common with the one at hand.
use Rattle.std.proofs.Common.{◌≡◌, ℕ, zero, suc, ◌-◌, ◌≤◌, List, [], ◌∷◌, length, take, drop, min, get_or, true, false, Option, Some, None, Ordering, Less, Equal, Greater, nat_cmp, refl, sym, ap, ◌∙◌, arith}
use Rattle.std.proofs.lemmas.List.{take-take, take_rest, length-take}
use Rattle.std.proofs.lemmas.Cmp.{nat_cmp_total, tied_itself}
use Rattle.std.specs.Ordering.{is_le, match_ordering, ordering_then}
use Rattle.std.specs.Cmp.Lexicographic.{slice_cmp}
use Rattle.event_model.specs.Noted.{leads, AgreeBelow, Agree}

abbrev pub Name : Type 0
Name = List ℕ

same_head : (a b : ℕ) (xs ys : Name) → a ∷ xs ≡ b ∷ ys → a ≡ b
same_head a b xs ys e = ap (λ (l : Name). get_or l 0 a) e

same_tail : (a b : ℕ) (xs ys : Name) → a ∷ xs ≡ b ∷ ys → xs ≡ ys
same_tail a b xs ys e = ap (λ (l : Name). drop 1 l) e

-- names compare as what stands behind their common front
compared : (s : ℕ) (name other : Name) → s ≤ length name → s ≤ length other → take s name ≡ take s other → slice_cmp nat_cmp name other ≡ slice_cmp nat_cmp (drop s name) (drop s other)
compared zero name other within inside same = refl
compared (suc s) [] other within inside same = absurd (omega arith)
compared (suc s) (a ∷ name) [] within inside same = absurd (omega arith)
compared (suc s) (a ∷ name) (b ∷ other) within inside same =
    ap (λ x. ordering_then (nat_cmp a x) (slice_cmp nat_cmp name other)) (sym (same_head a b _ _ same))
    ∙ ap (λ r. ordering_then r (slice_cmp nat_cmp name other)) (tied_itself nat_cmp_total a)
    ∙ compared s name other (omega arith) (omega arith) (same_tail a b _ _ same)

led : (r : Ordering) → is_le r ≡ match_ordering r true true false
led Less = refl
led Equal = refl
led Greater = refl

-- a name leads where what stands behind the common front does
pub leads_behind : (s : ℕ) (name other : Name) → AgreeBelow s name other
    → is_le (slice_cmp nat_cmp (take (length name - s) (drop s name)) (take (length other - s) (drop s other))) ≡ leads name other
leads_behind s name other agree =
    ap (λ (rest : Name). is_le (slice_cmp nat_cmp rest (take (length other - s) (drop s other)))) (take_rest name s)
    ∙ ap (λ (rest : Name). is_le (slice_cmp nat_cmp (drop s name) rest)) (take_rest other s)
    ∙ ap is_le (sym (compared s name other agree.within agree.inside agree.same))
    ∙ led (slice_cmp nat_cmp name other)

-- the name at hand is cut back
pub agree_cut : (s len : ℕ) (name : Name) (least : Option Name) → Agree s name least → Agree (min s len) (take len name) least
agree_cut s len name None agree = tt
agree_cut s len name (Some other) agree = record {
  within = let size = length-take len name in let a = agree.within in omega arith;
  inside = let a = agree.inside in omega arith;
  same = take-take (min s len) len name (omega arith) ∙ sym (take-take (min s len) s name (omega arith)) ∙ ap (take (min s len)) agree.same ∙ take-take (min s len) s other (omega arith);
}
