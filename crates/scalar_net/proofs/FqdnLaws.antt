-- A canonical domain name is its own canonical name.
use Rattle.std.proofs.Common.{◌≡◌, ℕ, ◌+◌, ◌-◌, ◌<◌, ◌==◌, Bool, true, false, ◌&&◌, nat_le, List, [], ◌∷◌, ◌++◌, length, get_or, not, Some, None, is_some, option_and_then, if◌then◌else◌, refl, sym, ap, ◌∙◌, inl, inr, arith, eq-eqb, ne_eqb, take}
use Rattle.std.proofs.lemmas.Bool.{cases_eq}
use Rattle.std.proofs.Math.Seq.{take-length}
use Rattle.std.proofs.lemmas.List.{take_more}
use Rattle.std.proofs.lemmas.List.Folds.{list_all-append}
use Rattle.std.proofs.lemmas.List.Splits.{length-slice_split}
use Rattle.std.specs.List.{list_all, list_any, slice_split, onto_first}
use Rattle.std.specs.Net.Grammar.{IsIpv4Text}
use Rattle.std.specs.declared.net.ipv4_addr.Ipv4Addr.{Ipv4Addr}
use Rattle.std.proofs.NetLemmas.Options.{cond_some, and_then_some}
use Rattle.idna.specs.declared.deny_list.TheConstants.AsciiDenyList.{EMPTY}
use Rattle.idna.specs.declared.options.Hyphens.TheVariants.{Allow}
use Rattle.idna.specs.declared.options.DnsLength.TheVariants.{Ignore}
use Rattle.idna.specs.Uts46.{domain_to_ascii, if_passes}
use Rattle.idna.proofs.Uts46Lemmas.{to_ascii_idem}
use Rattle.scalar_net.proofs.WholeTexts.{read_ipv4-complete}
use Rattle.scalar_net.specs.Fqdn.{fqdn, is_domain_name, is_ipv4, is_label, without_final_dot}

abbrev is_dot : ℕ → Bool
is_dot b = b == 46

and_false : (b : Bool) → (b && false) ≡ false
and_false true = refl
and_false false = refl

onto_first-append : (x : ℕ) (parts more : List (List ℕ)) → 0 < length parts → onto_first x (parts ++ more) ≡ onto_first x parts ++ more
onto_first-append x [] more some = absurd (omega arith)
onto_first-append x (part ∷ parts) more some = refl

-- behind a final dot stands an empty label
split-final_dot : (xs : List ℕ) → slice_split is_dot (xs ++ 46 ∷ []) ≡ slice_split is_dot xs ++ [] ∷ []
split-final_dot [] = refl
split-final_dot (x ∷ xs) =
    let later = split-final_dot xs in
    let some : 0 < length (slice_split is_dot xs) = omega (arith, length-slice_split is_dot xs) in
    elim (cases_eq x 46) [
      | inl dot ↦ rw (eq-eqb x 46 dot) (ap (λ parts. [] ∷ parts) later)
      | inr other ↦ rw (ne_eqb x 46 other) (ap (onto_first x) later ∙ onto_first-append x (slice_split is_dot xs) ([] ∷ []) some)
    ]

-- a list with this last element ends in it
last_of : (xs : List ℕ) → 0 < length xs → get_or xs (length xs - 1) 0 ≡ 46 → xs ≡ take (length xs - 1) xs ++ 46 ∷ []
last_of xs some last =
    let all : length xs - 1 + 1 ≡ length xs = omega arith in
    let whole : take (length xs - 1 + 1) xs ≡ xs = ap (λ n. take n xs) all ∙ take-length xs in
    let within : length xs - 1 < length xs = omega arith in
    sym whole ∙ take_more xs (length xs - 1) 0 within ∙ ap (λ y. take (length xs - 1) xs ++ y ∷ []) last

no_labels : (front : List ℕ) → list_all is_label (slice_split is_dot (front ++ 46 ∷ [])) ≡ false
no_labels front =
    ap (list_all is_label) (split-final_dot front) ∙ list_all-append is_label (slice_split is_dot front) ([] ∷ []) ∙ and_false (list_all is_label (slice_split is_dot front))

first_is_zero : (xs : List ℕ) → get_or xs (length xs - 1) 0 ≡ 46 → 0 < length xs
first_is_zero [] last = absurd (omega arith)
first_is_zero (x ∷ xs) last = omega arith

no_final_dot : (name : List ℕ) → list_all is_label (slice_split is_dot name) ≡ true → get_or name (length name - 1) 0 ≡ 46 → ⊥
no_final_dot name labels last =
    let ends = last_of name (first_is_zero name last) last in
    let none : list_all is_label (slice_split is_dot name) ≡ false = ap (λ xs. list_all is_label (slice_split is_dot xs)) ends ∙ no_labels (take (length name - 1) name) in
    cc

third : (a b c d : Bool) → (a && b && c && d) ≡ true → c ≡ true
third a b true d h = refl
third a b false d h = absurd (let no : (a && b && false && d) ≡ false = rw (and_false (a && b)) in cc)

fourth : (a b c d : Bool) → (a && b && c && not d) ≡ true → d ≡ false
fourth a b c false h = refl
fourth a b c true h = absurd (let no : (a && b && c && false) ≡ false = and_false (a && b && c) in cc)

-- the labels of a domain name
name_labels : (name : List ℕ) → is_domain_name name ≡ true → list_all is_label (slice_split is_dot name) ≡ true
name_labels name h = third (nat_le (length name) 253) (list_any is_dot name) _ (not (is_ipv4 name)) h

pub fqdn_again : (text name : List ℕ) → fqdn text ≡ Some name → fqdn name ≡ Some name
unfolding fqdn
fqdn_again text name e =
    and_then_some (if_passes is_domain_name) (domain_to_ascii EMPTY (without_final_dot text)) name e (λ ascii read kept.
    let (passes, same) = cond_some (is_domain_name ascii) ascii name kept in
    let is_name : is_domain_name name ≡ true = ap is_domain_name (sym same) ∙ passes in
    let again : domain_to_ascii EMPTY name ≡ Some name = to_ascii_idem EMPTY Allow Ignore (without_final_dot text) name (read ∙ ap Some same) in
    let front : without_final_dot name ≡ name = rw (ne_eqb (get_or name (length name - 1) 0) 46 (no_final_dot name (name_labels name is_name))) in
    let passed : if_passes is_domain_name name ≡ Some name = ap (λ b. if b then Some name else None) is_name in
    ap (λ t. option_and_then (if_passes is_domain_name) (domain_to_ascii EMPTY t)) front ∙ ap (option_and_then (if_passes is_domain_name)) again ∙ passed)

pub fqdn-no_ipv4 : (text name : List ℕ) → fqdn text ≡ Some name → (a : Ipv4Addr) → ¬ (IsIpv4Text name a)
unfolding fqdn
fqdn-no_ipv4 text name e a h =
    and_then_some (if_passes is_domain_name) (domain_to_ascii EMPTY (without_final_dot text)) name e (λ ascii read kept.
    let (passes, same) = cond_some (is_domain_name ascii) ascii name kept in
    let is_name : is_domain_name name ≡ true = ap is_domain_name (sym same) ∙ passes in
    let none : is_ipv4 name ≡ false = fourth (nat_le (length name) 253) (list_any is_dot name) (list_all is_label (slice_split is_dot name)) _ is_name in
    let some : is_ipv4 name ≡ true = ap is_some (read_ipv4-complete name _ h) in
    cc)

pub fqdn_labels : (text name : List ℕ) → fqdn text ≡ Some name → list_all is_label (slice_split is_dot name) ≡ true
unfolding fqdn
fqdn_labels text name e =
    and_then_some (if_passes is_domain_name) (domain_to_ascii EMPTY (without_final_dot text)) name e (λ ascii read kept.
    let (passes, same) = cond_some (is_domain_name ascii) ascii name kept in
    name_labels name (ap is_domain_name (sym same) ∙ passes))
