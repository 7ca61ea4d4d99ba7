-- A long line asks for nothing, and so do its first bytes.
use Rattle.std.proofs.Common.{◌≡◌, ℕ, Bool, true, false, cond, ◌&&◌, ◌≤◌, ◌<◌, ⊎_elim, List, length, take, drop, nat_le, refl, sym, ap, ◌∙◌, arith}
use Rattle.std.specs.Prelude.{codes}
use Rattle.std.specs.Str.{bytes_eq, is_utf8}
use Rattle.std.proofs.lemmas.Bool.{cases_lt, lt-leb}
use Rattle.std.proofs.lemmas.List.{length-drop, length-take, take_all}
use Rattle.std.proofs.lemmas.Slice.Eq.{bytes_eq-Decides}
use Rattle.live_reload.specs.Control.{control_in, name_in, reload_in}
use Rattle.live_reload.specs.Lines.{longest_line}
use Rattle.live_reload.specs.declared.control.Control.TheVariants as control

-- a line of another length is another line
other : (line word : List ℕ) (t : Bool) → bytes_eq line word ≡ t → length word < length line → t ≡ false
other line word false is longer = refl
other line word true is longer = absurd (omega (arith, longer, ap length ((bytes_eq-Decides line word).0 is)))

no_name : (name : List ℕ) → 255 < length name → name_in name ≡ control.Bad
no_name name long = ap (λ t. cond ((nat_le 1 (length name) && t) && is_utf8 name) (control.Reload name) control.Bad) (lt-leb (length name) 255 long) ∙ go (nat_le 1 (length name))
  where
    go : (t : Bool) → cond ((t && false) && is_utf8 name) (control.Reload name) control.Bad ≡ control.Bad
    go true = refl
    go false = refl

no_reload : (line : List ℕ) → 262 < length line → reload_in line ≡ control.Bad
no_reload line long = go (bytes_eq (take 7 line) (codes "reload "))
  where
    go : (t : Bool) → cond t (name_in (drop 7 line)) control.Bad ≡ control.Bad
    go true = no_name (drop 7 line) (omega (arith, long, length-drop 7 line))
    go false = refl

pub long_is_bad : (line : List ℕ) → 262 < length line → control_in line ≡ control.Bad
long_is_bad line long =
    ap (λ t. cond t control.Round (cond (bytes_eq line (codes "stop")) control.Stop (reload_in line))) (other line (codes "round") (bytes_eq line (codes "round")) refl (omega (arith, long)))
    ∙ ap (λ t. cond t control.Stop (reload_in line)) (other line (codes "stop") (bytes_eq line (codes "stop")) refl (omega (arith, long)))
    ∙ no_reload line long

pub held_asks : (line : List ℕ) → control_in (take longest_line line) ≡ control_in line
held_asks line = ⊎_elim long short (cases_lt longest_line (length line))
  where
    long : longest_line < length line → control_in (take longest_line line) ≡ control_in line
    long more = long_is_bad (take longest_line line) (omega (arith, more, length-take longest_line line)) ∙ sym (long_is_bad line (omega (arith, more)))

    short : length line ≤ longest_line → control_in (take longest_line line) ≡ control_in line
    short few = ap control_in (take_all longest_line line few)
