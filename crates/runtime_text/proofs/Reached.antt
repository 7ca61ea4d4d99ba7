-- What is reached through some bots, and the test for it.
use Rattle.std.proofs.Common.{◌≡◌, ◌⊎◌, inl, inr, List, [], ◌∷◌, Bool, true, false, ◌&&◌, ◌||◌, refl, sym, ap, ◌∙◌}
use Rattle.std.proofs.lemmas.Bool.{and_parts, and_from}
use Rattle.base_types.specs.Lists.{IsIn}
use Rattle.runtime_text.specs.Reaches.{reaches, sends, At-once, Reaches, Through}
use Rattle.runtime_text.specs.Runtime.{Entry}

either : (a b : Bool) → (a || b) ≡ true → (a ≡ true) ⊎ (b ≡ true)
either true b is = inl refl
either false b is = inr is

left_of : (a b : Bool) → a ≡ true → (a || b) ≡ true
left_of true b is = refl
left_of false b is = absurd (cc)

right_of : (a b : Bool) → b ≡ true → (a || b) ≡ true
right_of true b is = refl
right_of false b is = is

-- through more bots as much is reached
wider : (bots : List Entry) (more to from : Entry) → Reaches bots to from → Reaches (more ∷ bots) to from
wider bots more to from (At-once _ is) = At-once from is
wider bots more to from (Through _ next in-bots is later) = Through from next (inr in-bots) is (wider bots more to next later)

-- what is reached through a bot that is reached
pub joined : (bots : List Entry) (mid to from : Entry) → IsIn mid bots → Reaches bots mid from → Reaches bots to mid → Reaches bots to from
joined bots mid to from in-bots (At-once _ is) later = Through from mid in-bots is later
joined bots mid to from in-bots (Through _ next there is rest) later = Through from next there is (joined bots mid to next in-bots rest later)

pub reached : (bots : List Entry) (from to : Entry) → reaches bots from to ≡ true → Reaches bots to from
unfolding reaches
reached [] from to is = At-once from is
reached (next ∷ others) from to is =
    elim (either (reaches others from to) (reaches others from next && reaches others next to) is) [
      | inl here ↦ wider others next to from (reached others from to here)
      | inr both ↦ (let parts = and_parts (reaches others from next) (reaches others next to) both in
          joined (next ∷ others) next to from (inl refl) (wider others next next from (reached others from next parts.0)) (wider others next to next (reached others next to parts.1)))
    ]

at_once : (bots : List Entry) (from to : Entry) → sends from to ≡ true → reaches bots from to ≡ true
unfolding reaches
at_once [] from to is = is
at_once (next ∷ others) from to is = left_of (reaches others from to) (reaches others from next && reaches others next to) (at_once others from to is)

-- the first of the bots is sent to
to_first : (others : List Entry) (first from to : Entry) → sends from first ≡ true → reaches (first ∷ others) first to ≡ true → reaches (first ∷ others) from to ≡ true
unfolding reaches
to_first others first from to is later =
    let goes : reaches others from first ≡ true = at_once others from first is in
    let on : reaches others first to ≡ true =
    elim (either (reaches others first to) (reaches others first first && reaches others first to) later) [
      | inl here ↦ here
      | inr both ↦ (and_parts (reaches others first first) (reaches others first to) both).1
    ] in
    right_of (reaches others from to) (reaches others from first && reaches others first to) (and_from (reaches others from first) (reaches others first to) goes on)

abbrev Complete : List Entry → Type 0
Complete bots = (to from : Entry) → Reaches bots to from → reaches bots from to ≡ true

-- one of the others is sent to
to_other : (others : List Entry) (first next from to : Entry) → Complete others → IsIn next others → sends from next ≡ true → reaches (first ∷ others) next to ≡ true → reaches (first ∷ others) from to ≡ true
unfolding reaches
to_other others first next from to complete there is later =
    elim (either (reaches others next to) (reaches others next first && reaches others first to) later) [
      | inl here ↦ left_of (reaches others from to) (reaches others from first && reaches others first to)
          (complete to from (Through from next there is (reached others next to here)))
      | inr both ↦ (let parts = and_parts (reaches others next first) (reaches others first to) both in
          right_of (reaches others from to) (reaches others from first && reaches others first to)
          (and_from (reaches others from first) (reaches others first to) (complete first from (Through from next there is (reached others next first parts.0))) parts.1))
    ]

found_all : (others : List Entry) (first to from : Entry) → Complete others → Reaches (first ∷ others) to from → reaches (first ∷ others) from to ≡ true
found_all others first to from complete (At-once _ is) = at_once (first ∷ others) from to is
found_all others first to from complete (Through _ next (inl same) is later) =
    to_first others first from to (ap (sends from) (sym same) ∙ is)
    (ap (λ bot. reaches (first ∷ others) bot to) (sym same) ∙ found_all others first to next complete later)
found_all others first to from complete (Through _ next (inr there) is later) =
    to_other others first next from to complete there is (found_all others first to next complete later)

nothing : (to from : Entry) → Reaches [] to from → sends from to ≡ true
nothing to from (At-once _ is) = is
nothing to from (Through _ next there is later) = absurd there

pub all_reached : (bots : List Entry) → Complete bots
unfolding reaches
all_reached [] to from h = nothing to from h
all_reached (first ∷ others) to from h = found_all others first to from (all_reached others) h
