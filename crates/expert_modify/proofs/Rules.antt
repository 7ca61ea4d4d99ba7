-- Rules, one after the other.
use Rattle.std.proofs.Common.{◌≡◌, ◌+◌, ◌<◌, ◌≤◌, ℕ, suc, List, [], ◌∷◌, ◌++◌, length, take, drop, get_or, Bool, true, false, cond, nat_lt, Some, None, Result, Ok, Err, add-one, length-append, append_assoc, refl, sym, ap, ◌∙◌, arith}
use Rattle.std.specs.Prelude.{count_by, sum_by}
use Rattle.std.proofs.Math.Seq.{drop-cons}
use Rattle.std.proofs.lemmas.Bool.{lt-ltb}
use Rattle.std.proofs.lemmas.List.{append-nil, drop_all}
use Rattle.std.proofs.lemmas.List.Sums.{sum_by_more, sum_by-take-le}
use Rattle.serde_json.specs.View.{view, items_view}
use Rattle.serde_json.specs.declared.value.Value.{Value as Tree}
use Rattle.expert_modify.specs.Meets.{Wanted}
use Rattle.expert_modify.specs.Reading.{and_rules, is_pattern, most_patterns, pattern_count, rule_in, rules_from, IsBad, IsFirstBad}
use Rattle.expert_modify.specs.declared.fault.RulesFault.{RulesFault}
use Rattle.expert_modify.specs.declared.fault.RulesFault.TheVariants as fault
use Rattle.expert_modify.specs.declared.rule.Rule.{Rule}

abbrev Read : Type 0
Read = Result (List Rule) ℕ

-- rules in front of others
abbrev pub ahead : List Rule → Read → Read
ahead done (Ok rules) = Ok (done ++ rules)
ahead done (Err n) = Err n

pub ahead_nil : (r : Read) → r ≡ ahead [] r
ahead_nil (Ok rules) = refl
ahead_nil (Err n) = refl

ahead_push : (done : List Rule) (rule : Rule) (n : ℕ) (r : Read) → ahead done (and_rules n (Some rule) r) ≡ ahead (done ++ rule ∷ []) r
ahead_push done rule n (Ok rules) = ap Ok (sym (append_assoc done (rule ∷ []) rules))
ahead_push done rule n (Err m) = refl

first_rule : (trees : List Tree) (i n : ℕ) (tree : Tree) → i < length trees → tree ≡ get_or trees i tree
    → rules_from n (items_view (drop i trees)) ≡ and_rules n (rule_in (view tree)) (rules_from (n + 1) (items_view (drop (i + 1) trees)))
first_rule trees i n tree within read =
    ap (λ ts. rules_from n (items_view ts)) (drop-cons trees i tree within)
    ∙ ap (λ (t : Tree). and_rules n (rule_in (view t)) (rules_from (n + 1) (items_view (drop (suc i) trees)))) (sym read)
    ∙ ap (λ k. and_rules n (rule_in (view tree)) (rules_from (n + 1) (items_view (drop k trees)))) (sym (add-one i))

pub rule_read : (all : Read) (trees : List Tree) (i : ℕ) (tree : Tree) (rule : Rule) (done new : List Rule) → all ≡ ahead done (rules_from (length done + 1) (items_view (drop i trees))) → i < length trees → tree ≡ get_or trees i tree
    → Some rule ≡ rule_in (view tree) → new ≡ done ++ rule ∷ [] → all ≡ ahead new (rules_from (length new + 1) (items_view (drop (i + 1) trees)))
rule_read all trees i tree rule done new so_far within read is pushed =
    let one : length new ≡ length done + 1 = ap length pushed ∙ length-append done (rule ∷ []) in
    so_far
    ∙ ap (ahead done) (first_rule trees i (length done + 1) tree within read
    ∙ ap (λ o. and_rules (length done + 1) o (rules_from (length done + 1 + 1) (items_view (drop (i + 1) trees)))) (sym is))
    ∙ ahead_push done rule (length done + 1) (rules_from (length done + 1 + 1) (items_view (drop (i + 1) trees)))
    ∙ ap (λ rs. ahead rs (rules_from (length done + 1 + 1) (items_view (drop (i + 1) trees)))) (sym pushed)
    ∙ ap (λ n. ahead new (rules_from (n + 1) (items_view (drop (i + 1) trees)))) (sym one)

bad_first : (all : Read) (n : ℕ) (e : RulesFault) → all ≡ Err n → IsBad n e → IsFirstBad all e
bad_first all n (fault.Rule rule) is bad = is ∙ ap Err (sym bad)
bad_first all n fault.Limit is bad = absurd bad
bad_first all n fault.OutOfMemory is bad = tt

pub rule_refused : (all : Read) (trees : List Tree) (i : ℕ) (tree : Tree) (done : List Rule) (e : RulesFault) → all ≡ ahead done (rules_from (length done + 1) (items_view (drop i trees))) → i < length trees → tree ≡ get_or trees i tree
    → None ≡ rule_in (view tree) → IsBad (length done + 1) e → IsFirstBad all e
rule_refused all trees i tree done e so_far within read is bad =
    bad_first all (length done + 1) e
    (so_far
    ∙ ap (ahead done) (first_rule trees i (length done + 1) tree within read
    ∙ ap (λ o. and_rules (length done + 1) o (rules_from (length done + 1 + 1) (items_view (drop (i + 1) trees)))) (sym is)))
    bad

pub all_read : (all : Read) (trees : List Tree) (i : ℕ) (done : List Rule) → all ≡ ahead done (rules_from (length done + 1) (items_view (drop i trees))) → length trees ≤ i → all ≡ Ok done
all_read all trees i done so_far end =
    so_far ∙ ap (λ ts. ahead done (rules_from (length done + 1) (items_view ts))) (drop_all i trees end) ∙ ap Ok (append-nil done)

-- ---- patterns

abbrev pub patterns_of : Rule → ℕ
patterns_of rule = count_by is_pattern rule.conditions

pub more_patterns : (rules : List Rule) (i : ℕ) (rule : Rule) (so_far : ℕ) → i < length rules → rule ≡ get_or rules i rule → so_far ≡ sum_by patterns_of (take i rules) → so_far + patterns_of rule ≡ sum_by patterns_of (take (i + 1) rules)
more_patterns rules i rule so_far within read is =
    ap (λ n. n + patterns_of rule) is ∙ ap (λ (r : Rule). sum_by patterns_of (take i rules) + patterns_of r) read ∙ sym (sum_by_more patterns_of rules i rule within)

pub too_many : (rules : List Rule) (i : ℕ) (rule : Rule) (so_far : ℕ) → i < length rules → rule ≡ get_or rules i rule → so_far ≡ sum_by patterns_of (take i rules) → 32 < so_far + patterns_of rule → true ≡ nat_lt most_patterns (pattern_count rules)
too_many rules i rule so_far within read is many =
    let part = more_patterns rules i rule so_far within read is in
    let whole = sum_by-take-le patterns_of rules (i + 1) in
    sym (lt-ltb 32 (pattern_count rules) (omega (arith, part, whole, many)))

-- one more condition, which is a pattern or isn't
one_more : (conditions : List (List ℕ × Wanted)) (i : ℕ) (c : List ℕ × Wanted) (so_far : ℕ) (b : Bool) → i < length conditions → c ≡ get_or conditions i c → so_far ≡ count_by is_pattern (take i conditions) → is_pattern c ≡ b
    → so_far + cond b 1 0 ≡ count_by is_pattern (take (i + 1) conditions)
one_more conditions i c so_far b within read is test =
    ap (λ n. n + cond b 1 0) is
    ∙ ap (λ t. count_by is_pattern (take i conditions) + cond t 1 0) (sym test)
    ∙ ap (λ (x : List ℕ × Wanted). count_by is_pattern (take i conditions) + cond (is_pattern x) 1 0) read
    ∙ sym (sum_by_more (λ x. cond (is_pattern x) 1 0) conditions i c within)

pub pattern_counted : (conditions : List (List ℕ × Wanted)) (i : ℕ) (c : List ℕ × Wanted) (so_far : ℕ) → i < length conditions → c ≡ get_or conditions i c → so_far ≡ count_by is_pattern (take i conditions) → is_pattern c ≡ true
    → so_far + 1 ≡ count_by is_pattern (take (i + 1) conditions)
pattern_counted conditions i c so_far within read is test = one_more conditions i c so_far true within read is test

pub other_passed : (conditions : List (List ℕ × Wanted)) (i : ℕ) (c : List ℕ × Wanted) (so_far : ℕ) → i < length conditions → c ≡ get_or conditions i c → so_far ≡ count_by is_pattern (take i conditions) → is_pattern c ≡ false
    → so_far ≡ count_by is_pattern (take (i + 1) conditions)
other_passed conditions i c so_far within read is test =
    let same = one_more conditions i c so_far false within read is test in
    let none : so_far ≡ so_far + cond false 1 0 = omega arith in none ∙ same
