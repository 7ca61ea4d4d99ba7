-- Entries of lists.
use Rattle.std.specs.Prelude.{◌≡◌, ◌<◌, ◌⊎◌, ℕ, Bool, List, [], ◌∷◌, get_or, if◌then◌else◌}

-- the first entry that passes is changed
abbrev pub changed : {A : Type 0} → (A → Bool) → (A → A) → List A → List A
changed is change [] = []
changed is change (x ∷ xs) = if is x then change x ∷ xs else x ∷ changed is change xs

-- the first entry that passes is changed, or a new one stands at the end
abbrev pub changed_or_added : {A : Type 0} → (A → Bool) → (A → A) → A → List A → List A
changed_or_added is change new [] = new ∷ []
changed_or_added is change new (x ∷ xs) = if is x then change x ∷ xs else x ∷ changed_or_added is change new xs

-- without the first entry that passes
abbrev pub without : {A : Type 0} → (A → Bool) → List A → List A
without is [] = []
without is (x ∷ xs) = if is x then xs else x ∷ without is xs

-- each of them is a byte
abbrev pub AreBytes : List ℕ → Type 0
AreBytes numbers = (i : ℕ) → get_or numbers i 0 < 256

-- the item stands in the list
abbrev pub IsIn : {A : Type 0} → A → List A → Type 0
IsIn x [] = ⊥
IsIn x (y ∷ ys) = (x ≡ y) ⊎ IsIn x ys
