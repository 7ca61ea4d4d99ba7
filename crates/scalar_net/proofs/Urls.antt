-- When a text is a URL, and when it isn't.
use Rattle.std.proofs.Common.{◌≡◌, ℕ, Bool, true, false, ◌&&◌, List, ◌++◌, drop, codes, if◌then◌else◌, Some, None, Ok, Option, nat_eq, sym, ap, ap₂, ◌∙◌, subst, refl}
use Rattle.std.proofs.lemmas.Str.{IsUtf8-from_is_utf8, is_utf8-from_IsUtf8, IsUtf8-past_char, IsUtf8-append}
use Rattle.std.specs.Str.{IsUtf8, is_utf8}
use lib.Utf8.{encode}
use Rattle.std.proofs.lemmas.Bool.Decides.{Decides-eqb}
use Rattle.std.proofs.lemmas.Slice.Eq.{starts_is}
use Rattle.std.specs.List.{starts_with}
use Rattle.std.proofs.NetLemmas.Options.{cond_some}
use Rattle.url.specs.Parts.{Parts, has_host}
use Rattle.url.specs.Parser.{parse_url}
use Rattle.scalar_net.proofs.Booleans.{and_left_true, and_right_true, not_true}
use Rattle.scalar_net.specs.Url.{is_defanged, refanged, names_host, url_text}

pub no_url-not_utf8 : (text : List ℕ) → ¬ (IsUtf8 text) → url_text text ≡ None
unfolding url_text
no_url-not_utf8 text bad = rw (not_true (is_utf8 text) (λ h. bad (IsUtf8-from_is_utf8 text h)))

pub url_text_is : (text changed : List ℕ) (url : Parts) → IsUtf8 text → changed ≡ refanged text → parse_url None changed ≡ Ok url → has_host url ≡ true → url_text text ≡ Some changed
unfolding url_text
url_text_is text changed url utf8 change parsed host =
    let read : names_host (parse_url None (refanged text)) ≡ true = ap (λ t. names_host (parse_url None t)) (sym change) ∙ ap names_host parsed ∙ host in
    rw (is_utf8-from_IsUtf8 text utf8, read) (ap Some (sym change))

-- what is behind `hxx` in a text is a text
rest_is_utf8 : (text rest : List ℕ) → IsUtf8 text → text ≡ codes "hxx" ++ rest → IsUtf8 rest
unfolding encode
rest_is_utf8 text rest utf8 is =
    let one = IsUtf8-past_char text (codes "xx" ++ rest) 104 utf8 is in
    let two = IsUtf8-past_char (codes "xx" ++ rest) (codes "x" ++ rest) 120 one refl in
    IsUtf8-past_char (codes "x" ++ rest) rest 120 two refl

abbrev changed_if : Bool → List ℕ → List ℕ
changed_if defanged text = if defanged then codes "htt" ++ drop 3 text else text

utf8_if : (b : Bool) (text : List ℕ) → is_defanged text ≡ b → IsUtf8 text → IsUtf8 (changed_if b text)
unfolding encode
utf8_if false text defanged utf8 = utf8
utf8_if true text defanged utf8 =
    let http : IsUtf8 (codes "htt") = (codes "htt", (refl, refl)) in
    let begins = (starts_is Decides-eqb text (codes "hxx") (starts_with nat_eq text (codes "hxx")) refl).0 (and_left_true _ _ defanged) in
    IsUtf8-append (codes "htt") (drop 3 text) http (rest_is_utf8 text (drop 3 text) utf8 begins)

IsUtf8-refanged : (text : List ℕ) → IsUtf8 text → IsUtf8 (refanged text)
unfolding refanged
IsUtf8-refanged text utf8 = utf8_if (is_defanged text) text refl utf8

defanged_if : (b : Bool) (text : List ℕ) → is_defanged text ≡ b → is_defanged (changed_if b text) ≡ false
defanged_if false text defanged = defanged
defanged_if true text defanged = refl

refanged-refanged : (text : List ℕ) → refanged (refanged text) ≡ refanged text
unfolding refanged
refanged-refanged text = ap (λ b. changed_if b (refanged text)) (defanged_if (is_defanged text) text refl)

-- the text, where it is UTF-8 and a URL
abbrev kept_if : Bool → List ℕ → Option (List ℕ)
kept_if utf8 text = if utf8 && names_host (parse_url None text) then Some text else None

-- a canonical URL is its own canonical text
pub url_text_again : (text kept : List ℕ) → url_text text ≡ Some kept → url_text kept ≡ Some kept
unfolding url_text
url_text_again text kept e =
    let (read, same) = cond_some (is_utf8 text && names_host (parse_url None (refanged text))) (refanged text) kept e in
    let utf8 = is_utf8-from_IsUtf8 (refanged text) (IsUtf8-refanged text (IsUtf8-from_is_utf8 text (and_left_true _ _ read))) in
    let host : names_host (parse_url None (refanged text)) ≡ true = and_right_true (is_utf8 text) _ read in
    let again : kept_if (is_utf8 (refanged text)) (refanged (refanged text)) ≡ Some (refanged text) =
    ap₂ kept_if utf8 (refanged-refanged text) ∙ ap (λ b. if b then Some (refanged text) else None) host in
    subst (λ t. url_text t ≡ Some t) same again
