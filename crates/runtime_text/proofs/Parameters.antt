-- Parameters by their names.
use Rattle.std.proofs.Common.{◌≡◌, ℕ, List, [], ◌∷◌, ◌++◌, Bool, true, false, Option, Some, None, if◌then◌else◌, refl, sym, ap, ◌∙◌}
use Rattle.std.specs.Option.{option_or}
use Rattle.std.specs.Str.{bytes_eq}
use Rattle.module_settings.specs.Parameters.{Parameter}
use Rattle.runtime_text.specs.Runtime.{parameter_named}

named_after : (b : Bool) (q : Parameter) (xs ys : Option Parameter) → (if b then Some q else option_or xs ys) ≡ option_or (if b then Some q else xs) ys
named_after true q xs ys = refl
named_after false q xs ys = refl

pub named_append : (name : List ℕ) (qs rs : List Parameter) → parameter_named name (qs ++ rs) ≡ option_or (parameter_named name qs) (parameter_named name rs)
named_append name [] rs = refl
named_append name (q ∷ qs) rs =
    ap (λ o. if bytes_eq q.name name then Some q else o) (named_append name qs rs)
    ∙ named_after (bytes_eq q.name name) q (parameter_named name qs) (parameter_named name rs)

pub named_first : (name : List ℕ) (qs rs all : List Parameter) (x : Parameter) → Some x ≡ parameter_named name qs → qs ++ rs ≡ all → Some x ≡ parameter_named name all
named_first name qs rs all x is whole = ap (λ o. option_or o (parameter_named name rs)) is ∙ sym (named_append name qs rs) ∙ ap (parameter_named name) whole

pub named_second : (name : List ℕ) (qs rs all : List Parameter) (found : Option Parameter) → None ≡ parameter_named name qs → found ≡ parameter_named name rs → qs ++ rs ≡ all → found ≡ parameter_named name all
named_second name qs rs all found none is whole =
    is ∙ ap (λ o. option_or o (parameter_named name rs)) none ∙ sym (named_append name qs rs) ∙ ap (parameter_named name) whole
