-- What `==` decides of pairs and of notes.
use Rattle.std.proofs.Common.{◌≡◌, ◌&&◌, ◌==◌, ℕ, Bool, List, ap, ◌∙◌}
use Rattle.std.specs.Bool.{Decides}
use Rattle.std.specs.Str.{bytes_eq}
use Rattle.std.proofs.lemmas.Bool.Decides.{Decides-and, Decides-eqb, Decides-like}
use Rattle.std.proofs.lemmas.Slice.Eq.{bytes_eq-Decides}
use Rattle.base_types.specs.declared.message.FaultNote.{FaultNote}

-- where both decide `≡`, the pair does
pub pairs_decide : {A B : Type 0} {E : A → A → Bool} {F : B → B → Bool} → ((a b : A) → Decides (E a b) (a ≡ b)) → ((a b : B) → Decides (F a b) (a ≡ b)) → (p q : A × B) → Decides (E p.0 q.0 && F p.1 q.1) (p ≡ q)
pairs_decide {A} {B} {E} {F} first second (a, x) (b, y) =
    Decides-like (E a b && F x y) (λ both. cc (both.0, both.1)) (λ is. (ap (λ (p : A × B). p.0) is, ap (λ (p : A × B). p.1) is)) (Decides-and (E a b) (F x y) (first a b) (second x y))

same_note : (a b : FaultNote) → a.code ≡ b.code → a.text ≡ b.text → a ≡ b
same_note a b code text = ap (λ (n : ℕ). record { code = n; text = a.text }) code ∙ ap (λ (t : List ℕ). record { code = b.code; text = t }) text

pub notes_decide : (a b : FaultNote) → Decides (a.code == b.code && bytes_eq a.text b.text) (a ≡ b)
notes_decide a b =
    Decides-like (a.code == b.code && bytes_eq a.text b.text) (λ both. same_note a b both.0 both.1) (λ is. (ap (λ (n : FaultNote). n.code) is, ap (λ (n : FaultNote). n.text) is))
    (Decides-and (a.code == b.code) (bytes_eq a.text b.text) (Decides-eqb a.code b.code) (bytes_eq-Decides a.text b.text))
