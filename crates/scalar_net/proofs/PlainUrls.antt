-- A URL of a web page at a host with a name in lower case is canonical as it stands: its parser looks at no more of it than its scheme and its host.
use Rattle.std.proofs.Common.{◌≡◌, ℕ, ◌-◌, ◌<◌, true, false, not, ◌&&◌, ◌||◌, ◌==◌, ◌⊎◌, List, [], ◌∷◌, ◌++◌, length, get_or, take, drop, codes, Option, Some, None, Ok, All, sym, refl, ap, ◌∙◌, subst, inl, inr, ⊎_elim, append_assoc, append-nil, arith, take_all, take_at, drop_at, take-append-drop}
use Rattle.std.specs.Prelude.{nat_lt, reverse}
use Rattle.std.specs.List.{list_all, prefix_len}
use Rattle.std.specs.Str.{is_utf8}
use Rattle.std.specs.Char.{is_ascii_digit, is_digit, to_ascii_lowercase}
use Rattle.std.proofs.lemmas.Bool.{cond-false, true≢false, lt-leb, ne_eqb}
use Rattle.std.proofs.lemmas.Bool.Decides.{nat_tests}
use Rattle.std.proofs.lemmas.List.{get_or-reverse, length-reverse}
use Rattle.std.proofs.lemmas.List.Elements.{All-head, All-tail, All-append, All-cons, All-weaker}
use Rattle.std.proofs.Math.Nat.{sub-zero}
use Rattle.url.specs.declared.sets.TheConstants.{FORBIDDEN_DOMAIN}
use Rattle.url.specs.declared.host.Host.TheVariants.{Domain}
use Rattle.url.specs.declared.scheme.SchemeType.TheVariants.{SpecialNotFile}
use Rattle.url.specs.Input.{is_c0_control_or_space, is_tab_or_new_line, trim_c0_control_and_space, strip_tabs_and_new_lines, split_once, rsplit_once, is_empty}
use Rattle.url.specs.Scheme.{IsScheme, scheme_type, is_slash, is_scheme_byte, default_port, scheme_len}
use Rattle.url.specs.Host.{IsDomain, IsHostOf}
use Rattle.url.specs.Ipv4.{last_label_of, ends_in_a_number, parse_number, is_number}
use Rattle.url.specs.Head.{with_authority}
use Rattle.url.specs.Path.{parse_path_start}
use Rattle.url.specs.Parser.{and_then, host_len, parse_port, parse_authority, with_path, skip_slashes, after_double_slash, parse_body, before_tail, with_tail, parse_by_scheme, parse_parts, split_scheme, parse_url}
use Rattle.url.proofs.InputLemmas.{IsNot, Passes, rsplit_once_none, prefix_len_at, filter_all, map_fixed, lowercase_other, All_from_list_all, All-take-prefix_len, list_all_from_All, is_empty_nonempty}
use Rattle.url.proofs.SetLemmas.{kept_from_passes}
use Rattle.url.proofs.SchemeLemmas.{scheme_bytes}
use Rattle.url.proofs.HostRoundTrip.{parse_special_host-host_text, host_len-host_text, host_text_plain, IsHostByte}
use Rattle.url.proofs.RoundTrip.{split_own_scheme, stops_at_path}
use Rattle.url.proofs.ParsedCanonical.{before_special}
use Rattle.scalar_net.specs.PlainUrl.{begins_with_letter, ends_host, is_host_byte}
use Rattle.scalar_net.specs.Url.{is_defanged, names_host, refanged, url_text}

-- ---- nothing is trimmed or taken out

abbrev IsVisible : ℕ → Type 0
IsVisible b = 32 < b

none_at_front : (xs : List ℕ) → (0 < length xs → 32 < get_or xs 0 0) → prefix_len is_c0_control_or_space xs ≡ 0
none_at_front [] first = refl
none_at_front (x ∷ xs) first = cond-false _ _ _ (lt-leb x 32 (first (omega arith)))

untouched : (xs : List ℕ) → All IsVisible xs → strip_tabs_and_new_lines (trim_c0_control_and_space xs) ≡ xs
unfolding trim_c0_control_and_space strip_tabs_and_new_lines
untouched xs visible =
    let start = none_at_front xs (λ inside. visible 0 0 inside) in
    let len = length-reverse xs in
    let end = none_at_front (reverse xs) (λ inside. rw (get_or-reverse xs 0 0 (omega arith), sub-zero) (visible (length xs - 1) 0 (omega arith))) in
    let trimmed : trim_c0_control_and_space xs ≡ xs = rw (start, end) (take_all _ xs (omega arith)) in
    ap strip_tabs_and_new_lines trimmed ∙ filter_all _ xs (All-weaker IsVisible (Passes (λ b. not (is_tab_or_new_line b))) (λ b above. grind (arith, nat_tests)) xs visible)

-- ---- the query and the fragment, behind a front that has no mark of one

split_behind : (mark : ℕ) (front xs : List ℕ) → All (IsNot mark) front → split_once mark (front ++ xs) ≡ (front ++ (split_once mark xs).0, (split_once mark xs).1)
unfolding split_once
split_behind mark [] xs none = refl
split_behind mark (b ∷ front) xs none =
    cond-false _ _ _ (ne_eqb b mark (All-head (IsNot mark) b front none)) ∙ ap (λ r. (b ∷ r.0, r.1)) (split_behind mark front xs (All-tail (IsNot mark) b front none))

-- the path at the front
abbrev path_of : List ℕ → List ℕ
path_of behind = (split_once 63 (split_once 35 behind).0).0

abbrev IsRooted : List ℕ → Type 0
IsRooted path = (path ≡ []) ⊎ (get_or path 0 0 ≡ 47)

rooted_at : (b : ℕ) (more : List ℕ) → (b ≡ 47) ⊎ ((b ≡ 63) ⊎ (b ≡ 35)) → IsRooted (path_of (b ∷ more))
unfolding split_once
rooted_at b more is =
    ⊎_elim (λ slash. inr (subst (λ x. get_or (path_of (x ∷ more)) 0 0 ≡ 47) (sym slash) refl))
    (λ mark. ⊎_elim (λ question. inl (subst (λ x. path_of (x ∷ more) ≡ []) (sym question) refl)) (λ hash. inl (subst (λ x. path_of (x ∷ more) ≡ []) (sym hash) refl)) mark) is

rooted : (behind : List ℕ) → ends_host behind ≡ true → IsRooted (path_of behind)
unfolding split_once
rooted [] ends = inl refl
rooted (b ∷ more) ends = rooted_at b more (grind (arith, nat_tests))

-- ---- the host

label_some : (label : List ℕ) → begins_with_letter label ≡ true → 0 < length label
label_some [] letter = absurd (true≢false (sym letter))
label_some (b ∷ label) letter = omega arith

no_number : (label : List ℕ) → begins_with_letter label ≡ true → ((not (is_empty label) && list_all is_ascii_digit label) || is_number (parse_number label)) ≡ false
unfolding parse_number
no_number [] letter = absurd (true≢false (sym letter))
no_number (b ∷ label) letter =
    let zero : (b == 48) ≡ false = grind (arith, nat_tests) in
    let digit : is_ascii_digit b ≡ false = grind (arith, nat_tests) in
    let ten : is_digit b 10 ≡ false = grind (arith, nat_tests) in
    rw (is_empty_nonempty (b ∷ label) (omega arith), zero, digit, ten) refl

last_is : (before : Option (List ℕ)) (label : List ℕ) → 0 < length label → last_label_of before label ≡ label
last_is None label some = refl
last_is (Some front) label some = cond-false _ _ _ (is_empty_nonempty label some)

is_no_number : (host : List ℕ) → begins_with_letter (rsplit_once 46 host).1 ≡ true → ends_in_a_number host ≡ false
unfolding ends_in_a_number
is_no_number host letter =
    let label = (rsplit_once 46 host).1 in
    ap (λ l. (not (is_empty l) && list_all is_ascii_digit l) || is_number (parse_number l)) (last_is (rsplit_once 46 host).0 label (label_some label letter)) ∙ no_number label letter

is_domain : (host : List ℕ) → list_all is_host_byte host ≡ true → begins_with_letter (rsplit_once 46 host).1 ≡ true → IsDomain host
is_domain host bytes letter =
    let all = All_from_list_all is_host_byte host bytes in
    record {
      allowed = All-weaker (Passes is_host_byte) _ (λ b passes. kept_from_passes is_host_byte FORBIDDEN_DOMAIN refl b (grind (arith, nat_tests)) passes) host all;
      lower = map_fixed to_ascii_lowercase host (All-weaker (Passes is_host_byte) (λ b. to_ascii_lowercase b ≡ b) (λ b passes. lowercase_other b (grind (arith, nat_tests))) host all);
      named = is_no_number host letter;
    }

host_some : (host : List ℕ) → begins_with_letter (rsplit_once 46 host).1 ≡ true → 0 < length host
unfolding rsplit_once
host_some [] letter = absurd (true≢false (sym letter))
host_some (b ∷ host) letter = omega arith

-- ---- the authority is a host alone

host_alone : (scheme host : List ℕ) → scheme_type scheme ≡ SpecialNotFile → IsDomain host → 0 < length host → parse_authority scheme host ≡ Ok (with_authority scheme [] [] (Domain host) None)
unfolding parse_authority parse_port split_once
host_alone scheme host kind domain some =
    let is_host : IsHostOf SpecialNotFile (Domain host) = (domain, some) in
    let at = rsplit_once_none 64 host (All-weaker IsHostByte (IsNot 64) (λ b is. is.no_at) host (host_text_plain SpecialNotFile (Domain host) is_host)) in
    let len : host_len false host ≡ length host = ap (host_len false) (sym (append-nil host)) ∙ host_len-host_text SpecialNotFile (Domain host) [] is_host (inl refl) in
    let none : nat_lt (length host) (length host) ≡ false = grind (arith, nat_tests) in
    let special = parse_special_host-host_text (Domain host) is_host in
    rw (at, len, none, take_all (length host) host (omega arith), is_empty_nonempty host some, kind, special) refl

behind_slashes : (host path : List ℕ) → All IsHostByte host → 0 < length host → skip_slashes (47 ∷ 47 ∷ (host ++ path)) ≡ host ++ path
behind_slashes [] path bytes some = absurd (omega arith)
behind_slashes (b ∷ host) path bytes some =
    let is = All-head IsHostByte b host bytes in
    let other : ((b == 47) || (b == 92)) ≡ false = grind (arith, nat_tests, is.no_slash, is.no_backslash) in
    rw other refl

body_read : (scheme host path : List ℕ) → scheme_type scheme ≡ SpecialNotFile → IsDomain host → 0 < length host → IsRooted path
    → parse_body scheme None (47 ∷ 47 ∷ (host ++ path)) ≡ Ok (with_path (with_authority scheme [] [] (Domain host) None) (parse_path_start SpecialNotFile [] path))
unfolding parse_body after_double_slash
body_read scheme host path kind domain some is_rooted =
    let bytes = host_text_plain SpecialNotFile (Domain host) (domain, some) in
    let test = λ (b : ℕ). not (is_slash SpecialNotFile b) in
    let whole = All-weaker IsHostByte (Passes test) (λ b is. grind (arith, nat_tests, is.no_slash, is.no_backslash)) host bytes in
    let len = prefix_len_at test host path whole (stops_at_path SpecialNotFile path is_rooted) in
    rw (kind, behind_slashes host path bytes some, len, take_at host path _ refl, drop_at host path _ refl, host_alone scheme host kind domain some) refl

-- ---- the whole

with_tail_host : (scheme host path : List ℕ) (query fragment : Option (List ℕ)) → scheme_type scheme ≡ SpecialNotFile → 0 < length host
    → names_host (Ok (with_tail (before_tail (with_path (with_authority scheme [] [] (Domain host) None) path) query fragment) query fragment)) ≡ true
with_tail_host scheme host path query fragment kind some =
    let url = with_path (with_authority scheme [] [] (Domain host) None) path in
    ap (λ u. names_host (Ok (with_tail u query fragment))) (before_special url query fragment (rw kind refl)) ∙ ap not (is_empty_nonempty host some)

-- a text of these parts is a URL with a host
pub names_plain_host : (scheme host behind : List ℕ) → IsScheme scheme → scheme_type scheme ≡ SpecialNotFile → IsDomain host → 0 < length host → ends_host behind ≡ true
    → All IsVisible (scheme ++ 58 ∷ 47 ∷ 47 ∷ (host ++ behind)) → names_host (parse_url None (scheme ++ 58 ∷ 47 ∷ 47 ∷ (host ++ behind))) ≡ true
unfolding parse_url parse_parts
names_plain_host scheme host behind valid kind domain some ends visible =
    let front = scheme ++ 58 ∷ 47 ∷ 47 ∷ host in
    let text = scheme ++ 58 ∷ 47 ∷ 47 ∷ (host ++ behind) in
    let is_front : text ≡ front ++ behind = sym (append_assoc scheme (58 ∷ 47 ∷ 47 ∷ host) behind) in
    let bytes = host_text_plain SpecialNotFile (Domain host) (domain, some) in
    let front_is : (P : ℕ → Type 0) → ((b : ℕ) → Passes is_scheme_byte b → P b) → ((b : ℕ) → IsHostByte b → P b) → P 58 → P 47 → All P front =
    λ P in_scheme in_host colon slash. All-append P scheme (58 ∷ 47 ∷ 47 ∷ host) (All-weaker (Passes is_scheme_byte) P in_scheme scheme (scheme_bytes scheme valid)) (All-cons P 58 (47 ∷ 47 ∷ host) colon (All-cons P 47 (47 ∷ host) slash (All-cons P 47 host slash (All-weaker IsHostByte P in_host host bytes)))) in
    let no_hash : All (IsNot 35) front = front_is (IsNot 35) (λ b passes e. grind (arith, nat_tests)) (λ b is. is.no_hash) (λ e. omega arith) (λ e. omega arith) in
    let no_question : All (IsNot 63) front = front_is (IsNot 63) (λ b passes e. grind (arith, nat_tests)) (λ b is. is.no_question) (λ e. omega arith) (λ e. omega arith) in
    let hash = ap (split_once 35) (untouched text visible ∙ is_front) ∙ split_behind 35 front behind no_hash in
    let question = ap (λ r. split_once 63 r.0) hash ∙ split_behind 63 front (split_once 35 behind).0 no_question in
    let path = path_of behind in
    let split = ap (λ r. split_scheme r.0) question ∙ ap split_scheme (append_assoc scheme (58 ∷ 47 ∷ 47 ∷ host) path) ∙ split_own_scheme scheme (47 ∷ 47 ∷ (host ++ path)) valid in
    let query = (split_once 63 (split_once 35 behind).0).1 in
    let fragment = (split_once 35 behind).1 in
    ap names_host ((λ i. parse_by_scheme (split i) None (question i).0 (question i).1 (hash i).1)
    ∙ ap (λ s. parse_parts s None (47 ∷ 47 ∷ (host ++ path)) query fragment) valid.lower
    ∙ ap (λ r. and_then r (λ url. Ok (with_tail (before_tail url query fragment) query fragment))) (body_read scheme host path kind domain some (rooted behind ends)))
    ∙ with_tail_host scheme host (parse_path_start SpecialNotFile [] path) query fragment kind some

is_http : IsScheme (codes "http")
unfolding scheme_len
is_http = record { nonempty = omega arith; whole = refl; lower = refl }

is_https : IsScheme (codes "https")
unfolding scheme_len
is_https = record { nonempty = omega arith; whole = refl; lower = refl }

http_kind : scheme_type (codes "http") ≡ SpecialNotFile
unfolding scheme_type default_port
http_kind = refl

https_kind : scheme_type (codes "https") ≡ SpecialNotFile
unfolding scheme_type default_port
https_kind = refl

-- ---- a text, its parts as the code finds them

visible_from : (text : List ℕ) → list_all (nat_lt 32) text ≡ true → All IsVisible text
visible_from text all = All-weaker (Passes (nat_lt 32)) IsVisible (λ b passes. grind (arith, nat_tests)) text (All_from_list_all (nat_lt 32) text all)

canonical_of : (scheme rest : List ℕ) (n : ℕ) → IsScheme scheme → scheme_type scheme ≡ SpecialNotFile → is_defanged (scheme ++ 58 ∷ 47 ∷ 47 ∷ rest) ≡ false → is_utf8 (scheme ++ 58 ∷ 47 ∷ 47 ∷ rest) ≡ true
    → n ≡ prefix_len is_host_byte rest → begins_with_letter (rsplit_once 46 (take n rest)).1 ≡ true → ends_host (drop n rest) ≡ true → list_all (nat_lt 32) (scheme ++ 58 ∷ 47 ∷ 47 ∷ rest) ≡ true
    → url_text (scheme ++ 58 ∷ 47 ∷ 47 ∷ rest) ≡ Some (scheme ++ 58 ∷ 47 ∷ 47 ∷ rest)
unfolding url_text refanged
canonical_of scheme rest n valid kind safe utf8 is letter ends visible =
    let host = take n rest in
    let behind = drop n rest in
    let text = scheme ++ 58 ∷ 47 ∷ 47 ∷ rest in
    let parts : rest ≡ host ++ behind = sym (take-append-drop n rest) in
    let all : All (Passes is_host_byte) host = subst (λ k. All (Passes is_host_byte) (take k rest)) (sym is) (All-take-prefix_len is_host_byte rest) in
    let domain = is_domain host (list_all_from_All is_host_byte host all) letter in
    let shown = subst (λ r. All IsVisible (scheme ++ 58 ∷ 47 ∷ 47 ∷ r)) parts (visible_from text visible) in
    let named : names_host (parse_url None text) ≡ true = ap (λ r. names_host (parse_url None (scheme ++ 58 ∷ 47 ∷ 47 ∷ r))) parts ∙ names_plain_host scheme host behind valid kind domain (host_some host letter) ends shown in
    rw (safe, utf8, named) refl

-- a text of these parts is a URL as it stands
pub is_canonical : (text rest : List ℕ) (n : ℕ) → (text ≡ codes "https://" ++ rest) ⊎ (text ≡ codes "http://" ++ rest) → is_utf8 text ≡ true
    → n ≡ prefix_len is_host_byte rest → begins_with_letter (rsplit_once 46 (take n rest)).1 ≡ true → ends_host (drop n rest) ≡ true → list_all (nat_lt 32) text ≡ true → url_text text ≡ Some text
is_canonical text rest n spelled utf8 is letter ends visible =
    ⊎_elim
    (λ https. subst (λ t. url_text t ≡ Some t) (sym https) (canonical_of (codes "https") rest n is_https https_kind refl (ap is_utf8 (sym https) ∙ utf8) is letter ends (ap (list_all (nat_lt 32)) (sym https) ∙ visible)))
    (λ http. subst (λ t. url_text t ≡ Some t) (sym http) (canonical_of (codes "http") rest n is_http http_kind refl (ap is_utf8 (sym http) ∙ utf8) is letter ends (ap (list_all (nat_lt 32)) (sym http) ∙ visible)))
    spelled
