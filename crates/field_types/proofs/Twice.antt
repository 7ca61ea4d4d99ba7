-- What is kept of a value is canonical.
use Rattle.std.proofs.Common.{◌≡◌, ℕ, ◌==◌, not, ◌++◌, ℤ, List, [], ◌∷◌, length, map, reverse, Bool, true, false, Option, Some, None, option_map, is_some, if◌then◌else◌, refl, sym, ap, ◌∙◌, subst, arith}
use Rattle.std.specs.Option.{option_and_then}
use Rattle.std.specs.Char.{to_ascii_lowercase, to_ascii_uppercase}
use Rattle.std.proofs.lemmas.List.{reverse-append}
use Rattle.std.proofs.lemmas.Option.{none-some, same_Some}
use Rattle.std.proofs.lemmas.Str.Ascii.{lowercase-lowercase}
use Rattle.scalar_text.specs.Number.{decimal_in}
use Rattle.scalar_text.specs.Raw.{raw_of}
use Rattle.scalar_text.specs.Words.{spelled, tlp_words, tlp_of, registry_words, registry_name, registry_of, classes, class_in, taxonomy_word_in}
use Rattle.scalar_text.proofs.Spellings.{passes, class_is_spelled, taxonomy_is_spelled, tlp_stays, registry_stays, class_stays, taxonomy_stays}
use Rattle.scalar_text.specs.Strip.{is_blank, strip}
use Rattle.field_types.specs.Cleaning.{clean, of_text, text_in, printed, takes, is_accuracy, accuracy_of}
use Rattle.field_types.specs.declared.kind.FieldType.{FieldType}
use Rattle.field_types.specs.declared.kind.FieldType.TheVariants as kind
use Rattle.field_types.specs.declared.value.Value.{Value}
use Rattle.field_types.specs.declared.value.Value.TheVariants as value
use Rattle.field_types.proofs.KindByKind.{clean_text}
use Rattle.scalar_text.proofs.Stripped.{clear_ahead, strip-clear, strip-strip, strip-dark, are_dark, strip_first, strip_last}
use Rattle.field_types.proofs.Wholes.{own_accuracy_kept}

-- what is kept is kept of a stripped text
pub from_text : (type : FieldType) (b : Bool) (o : Option (List ℕ)) (v : Value) → (if b then option_and_then (λ text. of_text type (strip text)) o else None) ≡ Some v → (text : List ℕ) × (of_text type (strip text) ≡ Some v)
from_text type true (Some text) v h = (text, h)
from_text type true None v h = absurd (none-some v h)
from_text type false o v h = absurd (none-some v h)

-- a mapped option has a value where the option has
pub mapped : {A B : Type 0} (f : A → B) (o : Option A) (w : B) → option_map f o ≡ Some w → (v : A) × (o ≡ Some v) × (w ≡ f v)
mapped f None w h = absurd (none-some w h)
mapped f (Some v) w h = (v, refl, sym (same_Some (f v) w h))

-- ---- texts

pub text_of : (t : List ℕ) (v : Value) → text_in t ≡ Some v → v ≡ value.Text t
text_of [] v h = absurd (none-some v h)
text_of (b ∷ bs) v h = text_if (length (b ∷ bs) == 0) h
  where
    text_if : (e : Bool) → (if e then None else Some (value.Text (b ∷ bs))) ≡ Some v → v ≡ value.Text (b ∷ bs)
    text_if true h = absurd (none-some v h)
    text_if false h = sym (same_Some (value.Text (b ∷ bs)) v h)

-- a kind keeps a text that is stripped and that it keeps as it is
pub kept_again : (type : FieldType) (text : List ℕ) (v : Value) → v ≡ value.Text text → strip text ≡ text → of_text type text ≡ Some v → clean type v ≡ Some v
kept_again type text v is stripped kept =
    ap (clean type) is ∙ clean_text type text ∙ ap (of_text type) stripped ∙ kept

pub text_twice : (u v : Value) → clean kind.Text u ≡ Some v → clean kind.Text v ≡ Some v
unfolding clean
text_twice u v h =
    let (text, kept) = from_text kind.Text (takes kind.Text u) (printed u) v h in
    kept_again kind.Text (strip text) v (text_of (strip text) v kept) (strip-strip text) kept

-- ---- letters

lower_clear : (b : ℕ) → not (is_blank b) ≡ true → not (is_blank (to_ascii_lowercase b)) ≡ true
lower_clear b clear = grind (arith, clear)

pub upper_clear : (b : ℕ) → not (is_blank b) ≡ true → not (is_blank (to_ascii_uppercase b)) ≡ true
upper_clear b clear = grind (arith, clear)

mapped_clear : (f : ℕ → ℕ) → ((b : ℕ) → not (is_blank b) ≡ true → not (is_blank (f b)) ≡ true) → (text : List ℕ) → clear_ahead text ≡ true → clear_ahead (map f text) ≡ true
mapped_clear f keeps [] clear = refl
mapped_clear f keeps (b ∷ bs) clear = keeps b clear

map-append : (f : ℕ → ℕ) (xs ys : List ℕ) → map f (xs ++ ys) ≡ map f xs ++ map f ys
map-append f [] ys = refl
map-append f (x ∷ xs) ys = ap (λ t. f x ∷ t) (map-append f xs ys)

map-reverse : (f : ℕ → ℕ) (xs : List ℕ) → map f (reverse xs) ≡ reverse (map f xs)
map-reverse f [] = refl
map-reverse f (x ∷ xs) = ap (map f) (reverse-append (x ∷ []) xs) ∙ map-append f (reverse xs) (x ∷ []) ∙ ap (λ t. t ++ f x ∷ []) (map-reverse f xs) ∙ sym (reverse-append (f x ∷ []) (map f xs))

pub mapped_stripped : (f : ℕ → ℕ) → ((b : ℕ) → not (is_blank b) ≡ true → not (is_blank (f b)) ≡ true) → (text : List ℕ) → strip (map f (strip text)) ≡ map f (strip text)
mapped_stripped f keeps text =
    strip-clear (map f (strip text)) (mapped_clear f keeps (strip text) (strip_first text))
    (ap clear_ahead (sym (map-reverse f (strip text))) ∙ mapped_clear f keeps (reverse (strip text)) (strip_last text))

pub map_twice : (f : ℕ → ℕ) → ((b : ℕ) → f (f b) ≡ f b) → (text : List ℕ) → map f (map f text) ≡ map f text
map_twice f once [] = refl
map_twice f once (b ∷ bs) = rw (once b, map_twice f once bs)

pub upper_twice_byte : (b : ℕ) → to_ascii_uppercase (to_ascii_uppercase b) ≡ to_ascii_uppercase b
upper_twice_byte b = grind arith

pub lower_twice : (u v : Value) → clean kind.Lower u ≡ Some v → clean kind.Lower v ≡ Some v
unfolding clean
lower_twice u v h =
    let (text, kept) = from_text kind.Lower (takes kind.Lower u) (printed u) v h in
    let low = map to_ascii_lowercase (strip text) in
    kept_again kind.Lower low v (text_of low v kept) (mapped_stripped to_ascii_lowercase lower_clear text)
    (ap text_in (map_twice to_ascii_lowercase lowercase-lowercase (strip text)) ∙ kept)

pub upper_twice : (u v : Value) → clean kind.Upper u ≡ Some v → clean kind.Upper v ≡ Some v
unfolding clean
upper_twice u v h =
    let (text, kept) = from_text kind.Upper (takes kind.Upper u) (printed u) v h in
    let up = map to_ascii_uppercase (strip text) in
    kept_again kind.Upper up v (text_of up v kept) (mapped_stripped to_ascii_uppercase upper_clear text)
    (ap text_in (map_twice to_ascii_uppercase upper_twice_byte (strip text)) ∙ kept)

-- ---- words

pub again_word : (type : FieldType) (rule : List ℕ → Option (List ℕ)) → ((text : List ℕ) → of_text type text ≡ option_map value.Text (rule text))
    → ((text word : List ℕ) → rule text ≡ Some word → rule word ≡ Some word) → ((text word : List ℕ) → rule (strip text) ≡ Some word → strip word ≡ word)
    → (text : List ℕ) (v : Value) → of_text type (strip text) ≡ Some v → clean type v ≡ Some v
again_word type rule is stays stripped text v h =
    let (word, found, same) = mapped value.Text (rule (strip text)) v (sym (is (strip text)) ∙ h) in
    kept_again type word v same (stripped text word found) (is word ∙ ap (option_map value.Text) (stays (strip text) word found) ∙ ap Some (sym same))

tlp_dark : (text word : List ℕ) → tlp_of text ≡ Some word → strip word ≡ word
tlp_dark text word found = strip-dark word (passes are_dark tlp_words text word found refl)

registry_dark : (text word : List ℕ) → registry_of text ≡ Some word → strip word ≡ word
registry_dark text word found =
    let (spelling, spelt, same) = mapped registry_name (spelled registry_words text) word found in
    strip-dark word (ap are_dark same ∙ passes (λ w. are_dark (registry_name w)) registry_words text spelling spelt refl)

class_dark : (text word : List ℕ) → class_in classes text ≡ Some word → strip word ≡ word
class_dark text word found = strip-dark word (passes are_dark (map (λ row. row.0) classes) text word (sym (class_is_spelled classes text) ∙ found) refl)

taxonomy_dark : (text word : List ℕ) → taxonomy_word_in classes text ≡ Some word → strip word ≡ word
taxonomy_dark text word found = strip-dark word (passes are_dark (map (λ row. row.1) classes) text word (sym (taxonomy_is_spelled classes text) ∙ found) refl)

pub tlp_twice : (u v : Value) → clean kind.Tlp u ≡ Some v → clean kind.Tlp v ≡ Some v
unfolding clean
tlp_twice u v h =
    let (text, kept) = from_text kind.Tlp (takes kind.Tlp u) (printed u) v h in
    again_word kind.Tlp tlp_of (λ text. refl) tlp_stays (λ text. tlp_dark (strip text)) text v kept

pub registry_twice : (u v : Value) → clean kind.Registry u ≡ Some v → clean kind.Registry v ≡ Some v
unfolding clean
registry_twice u v h =
    let (text, kept) = from_text kind.Registry (takes kind.Registry u) (printed u) v h in
    again_word kind.Registry registry_of (λ text. refl) registry_stays (λ text. registry_dark (strip text)) text v kept

pub class_twice : (u v : Value) → clean kind.Class u ≡ Some v → clean kind.Class v ≡ Some v
unfolding clean
class_twice u v h =
    let (text, kept) = from_text kind.Class (takes kind.Class u) (printed u) v h in
    again_word kind.Class (class_in classes) (λ text. refl) class_stays (λ text. class_dark (strip text)) text v kept

pub taxonomy_twice : (u v : Value) → clean kind.Taxonomy u ≡ Some v → clean kind.Taxonomy v ≡ Some v
unfolding clean
taxonomy_twice u v h =
    let (text, kept) = from_text kind.Taxonomy (takes kind.Taxonomy u) (printed u) v h in
    again_word kind.Taxonomy (taxonomy_word_in classes) (λ text. refl) taxonomy_stays (λ text. taxonomy_dark (strip text)) text v kept

-- ---- bytes in base64

raw_if : (text : List ℕ) (b : Bool) (v : Value) → is_some (raw_of text) ≡ b → (if b then Some (value.Text text) else None) ≡ Some v → v ≡ value.Text text
raw_if text true v e h = sym (same_Some (value.Text text) v h)
raw_if text false v e h = absurd (none-some v h)

pub raw_twice : (u v : Value) → clean kind.Raw u ≡ Some v → clean kind.Raw v ≡ Some v
unfolding clean
raw_twice u v h =
    let (text, kept) = from_text kind.Raw (takes kind.Raw u) (printed u) v h in
    kept_again kind.Raw (strip text) v (raw_if (strip text) (is_some (raw_of (strip text))) v refl kept) (strip-strip text) kept

-- ---- accuracies and flags

accuracy_is : (n : ℤ) (b : Bool) (v : Value) → is_accuracy n ≡ b → (if b then Some (value.Decimal n) else None) ≡ Some v → (is_accuracy n ≡ true) × (v ≡ value.Decimal n)
accuracy_is n true v e h = (e, sym (same_Some (value.Decimal n) v h))
accuracy_is n false v e h = absurd (none-some v h)

pub accuracy_from : (o : Option ℤ) (v : Value) → option_and_then accuracy_of o ≡ Some v → (n : ℤ) × (is_accuracy n ≡ true) × (v ≡ value.Decimal n)
accuracy_from None v h = absurd (none-some v h)
accuracy_from (Some n) v h = let is = accuracy_is n (is_accuracy n) v refl h in (n, is.0, is.1)

pub accuracy_twice : (u v : Value) → clean kind.Accuracy u ≡ Some v → clean kind.Accuracy v ≡ Some v
unfolding clean
accuracy_twice u v h =
    let (text, kept) = from_text kind.Accuracy (takes kind.Accuracy u) (printed u) v h in
    let (n, is, same) = accuracy_from (decimal_in (strip text)) v kept in
    subst (λ w. clean kind.Accuracy w ≡ Some w) (sym same) (own_accuracy_kept n n refl is)
