-- Words of lists, spelled once more.
use Rattle.std.proofs.Common.{◌≡◌, ℕ, zero, suc, List, [], ◌∷◌, Bool, true, false, ◌&&◌, map, Option, Some, None, option_map, option_and_then, slice_get, if◌then◌else◌, refl, sym, ◌∙◌, ap, subst}
use Rattle.std.specs.List.{list_all}
use Rattle.std.specs.Str.{bytes_eq, str_eq_ignore_ascii_case}
use Rattle.std.proofs.lemmas.Bool.{and_parts}
use Rattle.std.proofs.lemmas.Option.{cond_some, none-some, option_and_then_some, same_Some}
use Rattle.std.proofs.lemmas.Slice.Eq.{bytes_eq-Decides}
use Rattle.scalar_text.specs.Words.{spelled, tlp_words, tlp_of, registry_words, registry_name, registry_of, classes, class_in, if_word, taxonomy_word_in}

-- what passes for each word of a list passes for the one that a text spells
passes_at : (P : List ℕ → Bool) (word : List ℕ) (words : List (List ℕ)) (text w : List ℕ) (b : Bool) → (if b then Some word else spelled words text) ≡ Some w → (P word && list_all P words) ≡ true → (spelled words text ≡ Some w → list_all P words ≡ true → P w ≡ true) → P w ≡ true
passes_at P word words text w true found all later = subst (λ v. P v ≡ true) (cc) (and_parts (P word) (list_all P words) all).0
passes_at P word words text w false found all later = later found (and_parts (P word) (list_all P words) all).1

pub passes : (P : List ℕ → Bool) (words : List (List ℕ)) (text w : List ℕ) → spelled words text ≡ Some w → list_all P words ≡ true → P w ≡ true
passes P [] text w found all = cc
passes P (word ∷ words) text w found all = passes_at P word words text w (str_eq_ignore_ascii_case word text) found all (passes P words text w)

-- this is the word
abbrev is_word : List ℕ → Option (List ℕ) → Bool
is_word w None = false
is_word w (Some v) = bytes_eq v w

the_word : (w : List ℕ) (o : Option (List ℕ)) → is_word w o ≡ true → o ≡ Some w
the_word w None is = cc
the_word w (Some v) is = ap Some ((bytes_eq-Decides v w).0 is)

-- ---- the rules, which are checked once for each list

tlp_rule : list_all (λ w. is_word w (tlp_of w)) tlp_words ≡ true
tlp_rule = refl

registry_rule : list_all (λ w. is_word (registry_name w) (registry_of (registry_name w))) registry_words ≡ true
registry_rule = refl

class_rule : list_all (λ w. is_word w (class_in classes w)) (map (λ row. row.0) classes) ≡ true
class_rule = refl

taxonomy_rule : list_all (λ w. is_word w (taxonomy_word_in classes w)) (map (λ row. row.1) classes) ≡ true
taxonomy_rule = refl

-- ---- the laws

pub tlp_stays : (text w : List ℕ) → tlp_of text ≡ Some w → tlp_of w ≡ Some w
tlp_stays text w found = the_word w (tlp_of w) (passes (λ w. is_word w (tlp_of w)) tlp_words text w found tlp_rule)

registry_at : (text w : List ℕ) (o : Option (List ℕ)) → spelled registry_words text ≡ o → option_map registry_name o ≡ Some w → registry_of w ≡ Some w
registry_at text w None spelling found = cc
registry_at text w (Some v) spelling found =
    let name : registry_name v ≡ w = cc in
    subst (λ n. registry_of n ≡ Some n) name (the_word (registry_name v) (registry_of (registry_name v)) (passes (λ w. is_word (registry_name w) (registry_of (registry_name w))) registry_words text v spelling registry_rule))

pub registry_stays : (text w : List ℕ) → registry_of text ≡ Some w → registry_of w ≡ Some w
registry_stays text w found = registry_at text w (spelled registry_words text) refl found

pub class_is_spelled : (rows : List (List ℕ × List ℕ)) (text : List ℕ) → class_in rows text ≡ spelled (map (λ row. row.0) rows) text
class_is_spelled [] text = refl
class_is_spelled (row ∷ rows) text = ap (λ o. if str_eq_ignore_ascii_case row.0 text then Some row.0 else o) (class_is_spelled rows text)

pub class_stays : (text w : List ℕ) → class_in classes text ≡ Some w → class_in classes w ≡ Some w
class_stays text w found = the_word w (class_in classes w) (passes (λ w. is_word w (class_in classes w)) (map (λ row. row.0) classes) text w (sym (class_is_spelled classes text) ∙ found) class_rule)

row_passes : (P : List ℕ → Bool) (rows : List (List ℕ × List ℕ)) (n : ℕ) (row : List ℕ × List ℕ) → slice_get rows n ≡ Some row → list_all P (map (λ row. row.0) rows) ≡ true → P row.0 ≡ true
row_passes P [] n row at all = absurd (none-some row at)
row_passes P (first ∷ rows) zero row at all =
    subst (λ (r : List ℕ × List ℕ). P r.0 ≡ true) (same_Some first row at) (and_parts (P first.0) (list_all P (map (λ row. row.0) rows)) all).0
row_passes P (first ∷ rows) (suc n) row at all = row_passes P rows n row at (and_parts (P first.0) (list_all P (map (λ row. row.0) rows)) all).1

-- the word of a row is spelled by itself
pub class_as_it_stands : (text w : List ℕ) (n : ℕ) → option_and_then (if_word text) (slice_get classes n) ≡ Some w → class_in classes text ≡ Some w
class_as_it_stands text w n is =
    option_and_then_some (if_word text) (slice_get classes n) w is λ row at of.
    let found = cond_some (bytes_eq row.0 text) row.0 w of in
    let own = the_word row.0 (class_in classes row.0) (row_passes (λ w. is_word w (class_in classes w)) classes n row at class_rule) in
    subst (λ t. class_in classes t ≡ Some w) ((bytes_eq-Decides row.0 text).0 found.0) (own ∙ ap Some found.1)

pub taxonomy_is_spelled : (rows : List (List ℕ × List ℕ)) (text : List ℕ) → taxonomy_word_in rows text ≡ spelled (map (λ row. row.1) rows) text
taxonomy_is_spelled [] text = refl
taxonomy_is_spelled (row ∷ rows) text = ap (λ o. if str_eq_ignore_ascii_case row.1 text then Some row.1 else o) (taxonomy_is_spelled rows text)

pub taxonomy_stays : (text w : List ℕ) → taxonomy_word_in classes text ≡ Some w → taxonomy_word_in classes w ≡ Some w
taxonomy_stays text w found = the_word w (taxonomy_word_in classes w) (passes (λ w. is_word w (taxonomy_word_in classes w)) (map (λ row. row.1) classes) text w (sym (taxonomy_is_spelled classes text) ∙ found) taxonomy_rule)
