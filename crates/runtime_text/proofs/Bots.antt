-- The bots of a runtime text, one after the other.
use Rattle.std.proofs.Common.{◌≡◌, ◌⊎◌, inl, inr, ℕ, List, [], ◌∷◌, Bool, true, false, Option, Some, None, Less, String, Global, string_bytes, string_cmp, MatchBool, option_map, is_some, if◌then◌else◌, refl, sym, ap, ◌∙◌}
use Rattle.std.specs.FinMap.{is_sorted}
use Rattle.std.specs.FinMap.Entries.{below_all}
use Rattle.std.specs.List.{AllByRecursion}
use Rattle.std.specs.List.Sorted.{IsStrictlySortedBy}
use Rattle.std.specs.Map.{keys_of}
use Rattle.std.specs.Ordering.{is_lt}
use Rattle.std.specs.Str.{bytes_eq}
use Rattle.std.proofs.lemmas.Bool.{and_from}
use Rattle.serde_json.specs.Data.{Data, Members, member}
use Rattle.serde_json.specs.View.{view, members_view}
use Rattle.base_types.specs.Name.{is_bot_name}
use Rattle.base_types.proofs.Places.{lt_of, order}
use Rattle.event_model.specs.Trees.{both}
use Rattle.event_model.proofs.TreeLemmas.{Entry as Member}
use Rattle.event_model.proofs.Written.{front_push, in_front}
use Rattle.runtime_text.specs.Read.{with_one, IsAdded}
use Rattle.runtime_text.specs.Runtime.{bot_of, bots_in, global_key, object_of, Entry}

Bots : Type 0
Bots = List Entry

-- ---- one more member

member_first : (left rest : List Member) (e : Member) (name : List ℕ) → left ≡ e ∷ rest → name ≡ string_bytes e.0
    → bots_in (members_view left) ≡ (if bytes_eq name global_key then (if is_some (object_of (view e.1)) then bots_in (members_view rest) else None) else both (bot_of name (view e.1)) (bots_in (members_view rest)))
member_first left rest e name step same =
    ap (λ es. bots_in (members_view es)) step
    ∙ ap (λ (n : List ℕ). if bytes_eq n global_key then (if is_some (object_of (view e.1)) then bots_in (members_view rest) else None) else both (bot_of n (view e.1)) (bots_in (members_view rest))) (sym same)

skipped : (b : Bool) (rest : Option (List Entry)) → b ≡ true → (if b then rest else None) ≡ rest
skipped true rest is = refl
skipped false rest is = absurd (cc)

one_added : (bot : Option Entry) (rest : Option (List Entry)) (old new : List Entry) → with_one bot old new → in_front old (both bot rest) ≡ in_front new rest
one_added None rest old new added = absurd added
one_added (Some x) rest old new added = front_push old x rest ∙ ap (λ xs. in_front xs rest) (sym added)

added_by : (b there : Bool) (bot : Option Entry) (rest : Option (List Entry)) (old new : List Entry) → MatchBool b ((there ≡ true) × (new ≡ old)) (with_one bot old new)
    → in_front old (if b then (if there then rest else None) else both bot rest) ≡ in_front new rest
added_by true there bot rest old new (is, same) = ap (in_front old) (skipped there rest is) ∙ ap (λ xs. in_front xs rest) (sym same)
added_by false there bot rest old new added = one_added bot rest old new added

-- a member that is one of a runtime text is taken in
pub member_added : (all : Option (List Entry)) (left rest : List Member) (e : Member) (name : List ℕ) (old new : List Entry) → all ≡ in_front old (bots_in (members_view left)) → left ≡ e ∷ rest → name ≡ string_bytes e.0
    → IsAdded name (view e.1) true old new → all ≡ in_front new (bots_in (members_view rest))
member_added all left rest e name old new so_far step same added =
    so_far ∙ ap (in_front old) (member_first left rest e name step same)
    ∙ added_by (bytes_eq name global_key) (is_some (object_of (view e.1))) (bot_of name (view e.1)) (bots_in (members_view rest)) old new added

not_both : (bot : Option Entry) (rest : Option (List Entry)) → is_some bot ≡ false → both bot rest ≡ None
not_both None rest is = refl
not_both (Some x) rest is = absurd (cc)

not_there : (b : Bool) (rest : Option (List Entry)) → b ≡ false → (if b then rest else None) ≡ None
not_there true rest is = absurd (cc)
not_there false rest is = refl

refused_by : (b there : Bool) (bot : Option Entry) (rest : Option (List Entry)) → (if b then there else is_some bot) ≡ false → (if b then (if there then rest else None) else both bot rest) ≡ None
refused_by true there bot rest is = not_there there rest is
refused_by false there bot rest is = not_both bot rest is

-- a member that isn't one
pub member_refused : (all : Option (List Entry)) (left rest : List Member) (e : Member) (name : List ℕ) (old new : List Entry) → all ≡ in_front old (bots_in (members_view left)) → left ≡ e ∷ rest → name ≡ string_bytes e.0
    → IsAdded name (view e.1) false old new → None ≡ all
member_refused all left rest e name old new so_far step same refused =
    sym (so_far ∙ ap (in_front old) (member_first left rest e name step same
    ∙ refused_by (bytes_eq name global_key) (is_some (object_of (view e.1))) (bot_of name (view e.1)) (bots_in (members_view rest)) refused))

-- ---- their order

-- the first bot has the name of the first member, and the others are those of the other members
pub record Begins (name : List ℕ) (rest : Option (List Entry)) (bots : List Entry) : Type 0 where
  pub first : Entry
  pub others : List Entry
  pub named : first.0 ≡ name
  pub later : rest ≡ Some others
  pub is : bots ≡ first ∷ others

named_as : (b : Bool) (name : List ℕ) (d : Option Members) (x : Entry) → (if b then option_map (λ members. (name, members)) d else None) ≡ Some x → x.0 ≡ name
named_as true name None x is = absurd (cc)
named_as true name (Some ms) x is = sym (ap (λ (e : Entry). e.0) (same (name, ms) x is))
  where
    same : (a b : Entry) → Some a ≡ Some b → a ≡ b
    same a b e = cc
named_as false name d x is = absurd (cc)

of_both : (name : List ℕ) (bot : Option Entry) (rest : Option (List Entry)) (bots : List Entry) → ((x : Entry) → bot ≡ Some x → x.0 ≡ name) → both bot rest ≡ Some bots → Begins name rest bots
of_both name None rest bots names is = absurd (cc)
of_both name (Some x) None bots names is = absurd (cc)
of_both name (Some x) (Some xs) bots names is = record { first = x; others = xs; named = names x refl; later = refl; is = same (x ∷ xs) bots is }
  where
    same : (a b : List Entry) → Some a ≡ Some b → b ≡ a
    same a b e = cc

of_there : (b : Bool) (rest : Option (List Entry)) (bots : List Entry) → (if b then rest else None) ≡ Some bots → rest ≡ Some bots
of_there true rest bots is = is
of_there false rest bots is = absurd (cc)

begins_by : (b there : Bool) (name : List ℕ) (bot : Option Entry) (rest : Option (List Entry)) (bots : List Entry) → ((x : Entry) → bot ≡ Some x → x.0 ≡ name)
    → (if b then (if there then rest else None) else both bot rest) ≡ Some bots → (rest ≡ Some bots) ⊎ Begins name rest bots
begins_by true there name bot rest bots names is = inl (of_there there rest bots is)
begins_by false there name bot rest bots names is = inr (of_both name bot rest bots names is)

begins : (name : List ℕ) (d : Data) (ms : Members) (bots : List Entry) → bots_in (member name d ms) ≡ Some bots → (bots_in ms ≡ Some bots) ⊎ Begins name (bots_in ms) bots
begins name d ms bots is =
    begins_by (bytes_eq name global_key) (is_some (object_of d)) name (bot_of name d) (bots_in ms) bots
    (λ x. named_as (is_bot_name name) name (object_of d) x) is

above : (key : List ℕ) (es : List Member) (bots : List Entry) → AllByRecursion (λ (y : String Global). order key (string_bytes y) ≡ Less) (keys_of es) → bots_in (members_view es) ≡ Some bots → below_all order key bots ≡ true
above key [] bots below is = ap (below_all order key) (sym (same [] bots is))
  where
    same : (a b : List Entry) → Some a ≡ Some b → a ≡ b
    same a b e = cc
above key (e ∷ es) bots below is =
    elim (begins (string_bytes e.0) (view e.1) (members_view es) bots is) [
      | inl later ↦ above key es bots below.1 later
      | inr begun ↦ ap (below_all order key) begun.is
          ∙ and_from (is_lt (order key begun.first.0)) (below_all order key begun.others)
          (lt_of (order key begun.first.0) (ap (order key) begun.named ∙ below.0)) (above key es begun.others below.1 begun.later)
    ]

-- the names of the bots rise
pub bots_rise : (es : List Member) (bots : List Entry) → IsStrictlySortedBy string_cmp (keys_of es) → bots_in (members_view es) ≡ Some bots → is_sorted order bots ≡ true
unfolding IsStrictlySortedBy
bots_rise [] bots rise is = ap (is_sorted order) (sym (same [] bots is))
  where
    same : (a b : List Entry) → Some a ≡ Some b → a ≡ b
    same a b e = cc
bots_rise (e ∷ es) bots rise is =
    elim (begins (string_bytes e.0) (view e.1) (members_view es) bots is) [
      | inl later ↦ bots_rise es bots rise.1 later
      | inr begun ↦ ap (is_sorted order) begun.is
          ∙ and_from (below_all order begun.first.0 begun.others) (is_sorted order begun.others)
          (ap (λ (k : List ℕ). below_all order k begun.others) begun.named ∙ above (string_bytes e.0) es begun.others rise.0 begun.later)
          (bots_rise es begun.others rise.1 begun.later)
    ]
