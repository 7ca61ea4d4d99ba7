-- The first item that passes a test.
use Rattle.std.proofs.Common.{◌≡◌, Bool, true, false, List, [], ◌∷◌, Some, refl, sym, ap, ◌∙◌}
use Rattle.std.specs.List.{find, list_all}
use Rattle.std.specs.Prelude.{if◌then◌else◌}
use Rattle.std.proofs.lemmas.Bool.{and_parts}

-- what is found passes each test that all pass, and its own
pub found_in_all : {A : Type 0} (p q : A → Bool) (ss : List A) (s : A) → list_all q ss ≡ true → find p ss ≡ Some s → q s ≡ true
found_in_all p q [] s all e = absurd (cc)
found_in_all p q (u ∷ us) s all e =
    let parts = and_parts (q u) (list_all q us) all in
    by (p u) refl e parts.0 (found_in_all p q us s parts.1)
  where
    by : (b : Bool) → p u ≡ b → (if b then Some u else find p us) ≡ Some s → q u ≡ true → (find p us ≡ Some s → q s ≡ true) → q s ≡ true
    by true is f here more = let same : u ≡ s = cc in ap q (sym same) ∙ here
    by false is f here more = more f

pub found_passes : {A : Type 0} (p : A → Bool) (ss : List A) (s : A) → find p ss ≡ Some s → p s ≡ true
found_passes p [] s e = absurd (cc)
found_passes p (u ∷ us) s e = by (p u) refl e (found_passes p us s)
  where
    by : (b : Bool) → p u ≡ b → (if b then Some u else find p us) ≡ Some s → (find p us ≡ Some s → p s ≡ true) → p s ≡ true
    by true is f more = let same : u ≡ s = cc in ap p (sym same) ∙ is
    by false is f more = more f
