-- The look-up finds the longest.
use Rattle.std.proofs.Common.{◌≡◌, ◌<◌, ◌≤◌, ◌∙◌, ◌⊎◌, ℕ, Bool, true, false, cond, Option, Some, None, refl, sym, ap, subst, inl, inr, ⊎_elim, arith}
use Rattle.std.specs.Option.{option_or}
use Rattle.std.specs.Bool.{Decides}
use Rattle.std.specs.Cmp.{booleans_Decides}
use Rattle.std.proofs.lemmas.Bool.{both_ways}
use Rattle.std.proofs.lemmas.Bool.Decides.{Decides-and, Decides-eqb}
use Rattle.scalar_net.specs.declared.address.Ip.{Ip}
use Rattle.scalar_net.specs.declared.network.Network.{Network}
use Rattle.scalar_net.specs.Network.{IsInside, is_inside}
use Rattle.prefix_table.specs.Trie.{Tree, leaf, branch, IsOrderly, IsBelow, Each, HasRow, bit_at, descend}
use Rattle.prefix_table.proofs.Fronts.{held_above, same_bit}

-- what the look-up in a trie finds, beside what was found before
pub data Finds (tree : Tree) (ip : Ip) (best : Option ℕ) : Type 0 where
  nothing : (descend tree ip best ≡ best) → ((net : Network) (i : ℕ) → HasRow net i tree → IsInside net ip → ⊥) → Finds tree ip best
  found : (net : Network) (i : ℕ) → (descend tree ip best ≡ Some i) → HasRow net i tree → IsInside net ip
      → ((other : Network) (j : ℕ) → HasRow other j tree → IsInside other ip → other.len ≤ net.len) → Finds tree ip best

each_of : (P : Network → Type 0) (tree : Tree) (net : Network) (i : ℕ) → Each P tree → HasRow net i tree → P net
each_of P leaf net i each has = absurd has
each_of P (branch n r zero one) net i each (inl here) = subst P here.0 each.0
each_of P (branch n r zero one) net i each (inr (inl has)) = each_of P zero net i each.1 has
each_of P (branch n r zero one) net i each (inr (inr has)) = each_of P one net i each.2 has

inside_decides : (row : Network) (ip : Ip) → Decides (is_inside row ip) (IsInside row ip)
inside_decides row ip = Decides-and _ _ (booleans_Decides _ _) (Decides-eqb _ _)

-- the address goes on in one of the two
record IsChoice (net : Network) (row : Option ℕ) (zero one : Tree) (ip : Ip) (best : Option ℕ) (near : Tree) : Type 0 where
  same : descend (branch net row zero one) ip best ≡ descend near ip (option_or row best)
  below : (other : Network) (j : ℕ) → HasRow other j near → net.len < other.len
  has : (other : Network) (j : ℕ) → HasRow other j near → HasRow other j (branch net row zero one)
  split : (other : Network) (j : ℕ) → HasRow other j (branch net row zero one) → IsInside other ip → ((net ≡ other) × (row ≡ Some j)) ⊎ HasRow other j near

-- nothing below a network that doesn't hold the address holds it
module _ (net : Network) (row : Option ℕ) (zero one : Tree) (ip : Ip) (best : Option ℕ)
    (zeros : Each (IsBelow net false) zero) (ones : Each (IsBelow net true) one) where
  outside : is_inside net ip ≡ false → Finds (branch net row zero one) ip best
  outside out = nothing (rw out refl) none
    where
      not_here : IsInside net ip → ⊥
      not_here held = both_ways (is_inside net ip) out ((inside_decides net ip).1 held)

      none : (other : Network) (i : ℕ) → HasRow other i (branch net row zero one) → IsInside other ip → ⊥
      none other i (inl here) held = not_here (subst (λ n. IsInside n ip) (sym here.0) held)
      none other i (inr (inl has)) held = not_here (held_above net other false ip (each_of (IsBelow net false) zero other i zeros has) held)
      none other i (inr (inr has)) held = not_here (held_above net other true ip (each_of (IsBelow net true) one other i ones has) held)

  apart : (b c : Bool) → b ≡ c → b ≡ true → c ≡ false → ⊥
  apart b c e t f = absurd (cc)

  chosen : (b : Bool) → bit_at ip net.len ≡ b → is_inside net ip ≡ true → IsChoice net row zero one ip best (cond b one zero)
  chosen true bit inside = record {
    same = rw (inside, bit) refl;
    below = λ other j has. (each_of (IsBelow net true) one other j ones has).longer;
    has = λ other j has. inr (inr has);
    split = split;
  }
    where
      split : (other : Network) (j : ℕ) → HasRow other j (branch net row zero one) → IsInside other ip → ((net ≡ other) × (row ≡ Some j)) ⊎ HasRow other j one
      split other j (inl here) held = inl here
      split other j (inr (inl has)) held = absurd (apart (bit_at ip net.len) (bit_at ip net.len) refl bit (same_bit net other false ip (each_of (IsBelow net false) zero other j zeros has) held))
      split other j (inr (inr has)) held = inr has
  chosen false bit inside = record {
    same = rw (inside, bit) refl;
    below = λ other j has. (each_of (IsBelow net false) zero other j zeros has).longer;
    has = λ other j has. inr (inl has);
    split = split;
  }
    where
      split : (other : Network) (j : ℕ) → HasRow other j (branch net row zero one) → IsInside other ip → ((net ≡ other) × (row ≡ Some j)) ⊎ HasRow other j zero
      split other j (inl here) held = inl here
      split other j (inr (inl has)) held = inr has
      split other j (inr (inr has)) held = absurd (apart (bit_at ip net.len) (bit_at ip net.len) refl (same_bit net other true ip (each_of (IsBelow net true) one other j ones has) held) bit)

-- what is found in the one that the address goes on in is found in the whole
joined : (net : Network) (row : Option ℕ) (zero one near : Tree) (ip : Ip) (best : Option ℕ) → is_inside net ip ≡ true → IsChoice net row zero one ip best near → Finds near ip (option_or row best) → Finds (branch net row zero one) ip best
joined net row zero one near ip best inside choice (Finds.found m k e has held most) = Finds.found m k (choice.same ∙ e) (choice.has m k has) held
    (λ other j there holds. ⊎_elim
    (λ (here : (net ≡ other) × (row ≡ Some j)). let longer : net.len < m.len = choice.below m k has in let same : net.len ≡ other.len = ap (λ n. n.len) here.0 in omega arith)
    (λ (later : HasRow other j near). most other j later holds)
    (choice.split other j there holds))
joined net None zero one near ip best inside choice (nothing e none) = nothing (choice.same ∙ e)
    (λ other j there holds. ⊎_elim (λ (here : (net ≡ other) × (None ≡ Some j)). absurd (no_row j here.1)) (λ (later : HasRow other j near). none other j later holds) (choice.split other j there holds))
  where
    no_row : (j : ℕ) → None ≡ Some j → ⊥
    no_row j e = absurd (cc)
joined net (Some i) zero one near ip best inside choice (nothing e none) = Finds.found net i (choice.same ∙ e) (inl (refl, refl)) ((inside_decides net ip).0 inside)
    (λ other j there holds. ⊎_elim
    (λ (here : (net ≡ other) × (Some i ≡ Some j)). let same : net.len ≡ other.len = ap (λ n. n.len) here.0 in omega arith)
    (λ (later : HasRow other j near). absurd (none other j later holds))
    (choice.split other j there holds))

on_branch : (b c : Bool) (net : Network) (row : Option ℕ) (zero one : Tree) (ip : Ip) (best : Option ℕ) → is_inside net ip ≡ b → bit_at ip net.len ≡ c → Each (IsBelow net false) zero → Each (IsBelow net true) one
    → Finds zero ip (option_or row best) → Finds one ip (option_or row best) → Finds (branch net row zero one) ip best
on_branch false c net row zero one ip best inside bit zeros ones in_zero in_one = outside net row zero one ip best zeros ones inside
on_branch true true net row zero one ip best inside bit zeros ones in_zero in_one = joined net row zero one one ip best inside (chosen net row zero one ip best zeros ones true bit inside) in_one
on_branch true false net row zero one ip best inside bit zeros ones in_zero in_one = joined net row zero one zero ip best inside (chosen net row zero one ip best zeros ones false bit inside) in_zero

pub finds : (six : Bool) (tree : Tree) (ip : Ip) (best : Option ℕ) → IsOrderly six tree → Finds tree ip best
finds six leaf ip best orderly = nothing refl (λ net i has held. has)
finds six (branch net row zero one) ip best orderly =
    on_branch (is_inside net ip) (bit_at ip net.len) net row zero one ip best refl refl orderly.1 orderly.2
    (finds six zero ip (option_or row best) orderly.3) (finds six one ip (option_or row best) orderly.4)
