-- Names in lines of control.
use Rattle.std.proofs.Common.{◌≡◌, ℕ, List, Bool, true, false, ◌&&◌, cond, sym, refl}
use Rattle.std.proofs.lemmas.Str.{IsUtf8-from_is_utf8, is_utf8-from_IsUtf8}
use Rattle.std.specs.Prelude.{IsUtf8}
use Rattle.std.specs.Str.{is_utf8}
use Rattle.command_words.specs.Values.{is_name}
use Rattle.live_reload.specs.Control.{name_in}
use Rattle.live_reload.specs.declared.control.Control.TheVariants as control

pub named : (name : List ℕ) → is_name name ≡ true → IsUtf8 name → control.Reload name ≡ name_in name
named name short utf8 = sym (λ i. cond (short i && is_utf8-from_IsUtf8 name utf8 i) (control.Reload name) control.Bad)

pub unnamed : (name : List ℕ) → is_name name ≡ true → (IsUtf8 name → ⊥) → control.Bad ≡ name_in name
unnamed name short none = go (is_utf8 name) refl
  where
    go : (b : Bool) → b ≡ is_utf8 name → control.Bad ≡ name_in name
    go true is = absurd (none (IsUtf8-from_is_utf8 name (sym is)))
    go false is = λ i. cond (sym short i && is i) (control.Reload name) control.Bad
