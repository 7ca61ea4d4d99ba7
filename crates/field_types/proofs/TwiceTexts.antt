-- What is kept of a value is canonical: domain names, URLs and times.
use Rattle.std.proofs.Common.{◌≡◌, ℕ, ◌+◌, ◌/◌, ◌%◌, ◌==◌, ◌&&◌, not, ◌++◌, List, [], ◌∷◌, take, drop, reverse, codes, Bool, true, false, Option, Some, None, option_map, if◌then◌else◌, refl, sym, ap, ◌∙◌, subst, arith, append_assoc}
use Rattle.std.specs.List.{list_all, slice_split, join_with_byte}
use Rattle.std.proofs.lemmas.Bool.{false≢true, and_parts, and_from, le-leb}
use Rattle.std.proofs.lemmas.List.{reverse-append, take-append-drop}
use Rattle.std.proofs.lemmas.List.Splits.{join_with_byte-slice_split}
use Rattle.std.proofs.lemmas.Option.{none-some, same_Some}
use Rattle.scalar_text.specs.Time.{time_in, time_text, day_text, clock_text, year_of_day}
use Rattle.scalar_text.proofs.DayTexts.{printed_time}
use Rattle.scalar_text.proofs.PrintedTimes.{reads_back}
use Rattle.scalar_text.proofs.TimeForms.{time_form}
use Rattle.scalar_net.specs.Fqdn.{fqdn, is_label, is_label_byte, has_end_hyphen}
use Rattle.scalar_net.specs.Url.{is_defanged, refanged, url_text}
use Rattle.scalar_net.proofs.FqdnLaws.{fqdn_again, fqdn_labels}
use Rattle.scalar_net.proofs.Urls.{url_text_again}
use Rattle.scalar_text.specs.Strip.{strip}
use Rattle.field_types.specs.Cleaning.{clean, printed, takes}
use Rattle.field_types.specs.declared.kind.FieldType.TheVariants as kind
use Rattle.field_types.specs.declared.value.Value.{Value}
use Rattle.field_types.specs.declared.value.Value.TheVariants as value
use Rattle.scalar_text.proofs.Stripped.{clear_ahead, ahead_of_front, strip-clear, strip-dark, is_dark, are_dark, dark_byte, dark_append, strip_first, strip_last}
use Rattle.field_types.proofs.Twice.{from_text, mapped, kept_again, again_word}

-- ---- domain names

label_byte_dark : (b : ℕ) → is_label_byte b ≡ true → is_dark b ≡ true
label_byte_dark b h = grind (arith, h)

label_bytes_dark : (bs : List ℕ) → list_all is_label_byte bs ≡ true → are_dark bs ≡ true
label_bytes_dark [] all = refl
label_bytes_dark (b ∷ bs) all = let parts = and_parts (is_label_byte b) (list_all is_label_byte bs) all in and_from _ _ (label_byte_dark b parts.0) (label_bytes_dark bs parts.1)

middle : (a b c : Bool) → (a && b && c) ≡ true → b ≡ true
middle true true c h = refl
middle true false c h = absurd (false≢true h)
middle false b c h = absurd (false≢true h)

label_dark : (label : List ℕ) → is_label label ≡ true → are_dark label ≡ true
label_dark label h = label_bytes_dark label (middle _ (list_all is_label_byte label) (not (has_end_hyphen label)) h)

join_dark : (parts : List (List ℕ)) → list_all is_label parts ≡ true → are_dark (join_with_byte 46 parts) ≡ true
join_dark [] all = refl
join_dark (x ∷ []) all = label_dark x (and_parts (is_label x) true all).0
join_dark (x ∷ y ∷ xs) all =
    let parts = and_parts (is_label x) (list_all is_label (y ∷ xs)) all in
    dark_append x (46 ∷ join_with_byte 46 (y ∷ xs)) (label_dark x parts.0) (join_dark (y ∷ xs) parts.1)

name_dark : (text name : List ℕ) → fqdn text ≡ Some name → strip name ≡ name
name_dark text name found =
    strip-dark name (ap are_dark (sym (join_with_byte-slice_split 46 name)) ∙ join_dark (slice_split (λ b. b == 46) name) (fqdn_labels text name found))

pub fqdn_twice : (u v : Value) → clean kind.Fqdn u ≡ Some v → clean kind.Fqdn v ≡ Some v
unfolding clean
fqdn_twice u v h =
    let (text, kept) = from_text kind.Fqdn (takes kind.Fqdn u) (printed u) v h in
    again_word kind.Fqdn fqdn (λ text. refl) fqdn_again (λ text. name_dark (strip text)) text v kept

-- ---- URLs

clear_join : (xs ys : List ℕ) → clear_ahead xs ≡ true → clear_ahead ys ≡ true → clear_ahead (xs ++ ys) ≡ true
clear_join [] ys first second = second
clear_join (x ∷ xs) ys first second = first

back_clear : (text : List ℕ) → clear_ahead (reverse text) ≡ true → clear_ahead (reverse (drop 3 text)) ≡ true
back_clear text clear =
    let parts : reverse text ≡ reverse (drop 3 text) ++ reverse (take 3 text) = ap reverse (sym (take-append-drop 3 text)) ∙ reverse-append (take 3 text) (drop 3 text) in
    ahead_of_front (reverse (drop 3 text)) (reverse (take 3 text)) (subst (λ t. clear_ahead t ≡ true) parts clear)

changed_clear : (b : Bool) (text : List ℕ) → clear_ahead text ≡ true → clear_ahead (reverse text) ≡ true → strip (if b then codes "htt" ++ drop 3 text else text) ≡ (if b then codes "htt" ++ drop 3 text else text)
changed_clear true text front back =
    strip-clear (codes "htt" ++ drop 3 text) refl
    (ap clear_ahead (reverse-append (codes "htt") (drop 3 text)) ∙ clear_join (reverse (drop 3 text)) (reverse (codes "htt")) (back_clear text back) refl)
changed_clear false text front back = strip-clear text front back

refanged_clear : (text : List ℕ) → clear_ahead text ≡ true → clear_ahead (reverse text) ≡ true → strip (refanged text) ≡ refanged text
unfolding refanged
refanged_clear text front back = changed_clear (is_defanged text) text front back

same_if : {A : Type 0} (b : Bool) (x v : A) → ◌≡◌ {A = Option A} (if b then Some x else None) (Some v) → v ≡ x
same_if true x v h = sym (same_Some x v h)
same_if false x v h = absurd (none-some v h)

url_is : (text kept : List ℕ) → url_text text ≡ Some kept → kept ≡ refanged text
unfolding url_text
url_is text kept h = same_if _ (refanged text) kept h

url_clear : (text kept : List ℕ) → url_text (strip text) ≡ Some kept → strip kept ≡ kept
url_clear text kept found = subst (λ t. strip t ≡ t) (sym (url_is (strip text) kept found)) (refanged_clear (strip text) (strip_first text) (strip_last text))

pub url_twice : (u v : Value) → clean kind.Url u ≡ Some v → clean kind.Url v ≡ Some v
unfolding clean
url_twice u v h =
    let (text, kept) = from_text kind.Url (takes kind.Url u) (printed u) v h in
    again_word kind.Url url_text (λ text. refl) url_text_again url_clear text v kept

-- ---- times

pub time_front : (n : ℕ) → clear_ahead (time_text n) ≡ true
unfolding time_text
time_front n =
    let year = (year_of_day 9998 1 (n / 86400)).0 in
    dark_byte (48 + year / 100 / 10) (le-leb 33 (48 + year / 100 / 10) (omega arith))

pub time_back : (n : ℕ) → clear_ahead (reverse (time_text n)) ≡ true
unfolding time_text
time_back n =
    let front = day_text (n / 86400) in
    let clock = 84 ∷ clock_text (n % 86400) in
    ap (λ t. clear_ahead (reverse t)) (sym (append_assoc front clock (codes "+00:00")))
    ∙ ap clear_ahead (reverse-append (front ++ clock) (codes "+00:00"))

pub time_twice : (u v : Value) → clean kind.DateTime u ≡ Some v → clean kind.DateTime v ≡ Some v
unfolding clean
time_twice u v h =
    let (text, kept) = from_text kind.DateTime (takes kind.DateTime u) (printed u) v h in
    let (n, found, same) = mapped (λ n. value.Text (time_text n)) (time_in (strip text)) v kept in
    let last = ((time_form (strip text)).sound n found).last in
    let back : time_in (time_text n) ≡ Some n = (time_form (time_text n)).complete n (reads_back n (time_text n) last (printed_time n last)) in
    kept_again kind.DateTime (time_text n) v same (strip-clear (time_text n) (time_front n) (time_back n))
    (ap (option_map (λ n. value.Text (time_text n))) back ∙ ap Some (sym same))
