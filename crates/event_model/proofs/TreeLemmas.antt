-- Trees as their data.
use Rattle.std.proofs.Common.{◌≡◌, List, [], ◌∷◌, length, Bool, true, false, String, Global, string_bytes, None, option_and_then, if◌then◌else◌, refl, sym, ap, ◌∙◌, arith, true≢false}
use Rattle.std.specs.Str.{bytes_eq}
use Rattle.std.proofs.lemmas.Slice.Eq.{bytes_eq-Decides}
use Rattle.serde_json.specs.Find.{as_str, get_member}
use Rattle.serde_json.specs.View.{view, members_view}
use Rattle.serde_json.specs.declared.value.Value.{Value}
use Rattle.serde_json.proofs.Views.{member_here, member_later}
use Rattle.event_model.specs.Trees.{dec_key, lexeme_in}

abbrev pub Entry : Type 0
Entry = String Global × Value

single : (e : Entry) (b : Bool) → bytes_eq (string_bytes e.0) dec_key ≡ b → option_and_then as_str (get_member dec_key (members_view (e ∷ []))) ≡ (if b then as_str (view e.1) else None)
single e true is = ap (option_and_then as_str) (member_here dec_key e [] (sym ((bytes_eq-Decides (string_bytes e.0) dec_key).0 is)))
single e false is =
    ap (option_and_then as_str) (member_later dec_key e [] (λ same. true≢false (sym ((bytes_eq-Decides (string_bytes e.0) dec_key).1 (sym same)) ∙ is)))

pub lexeme_of_one : (es : List Entry) → length es ≡ 1 → option_and_then as_str (get_member dec_key (members_view es)) ≡ lexeme_in (members_view es)
lexeme_of_one [] one = absurd (omega arith)
lexeme_of_one (e ∷ []) one = single e (bytes_eq (string_bytes e.0) dec_key) refl
lexeme_of_one (e ∷ f ∷ es) one = absurd (omega arith)

pub no_lexeme : (es : List Entry) → (length es ≡ 1 → ⊥) → None ≡ lexeme_in (members_view es)
no_lexeme [] other = refl
no_lexeme (e ∷ []) other = absurd (other refl)
no_lexeme (e ∷ f ∷ es) other = refl
