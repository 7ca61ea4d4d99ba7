-- The names of a plan's bots are in byte order.
use Rattle.std.proofs.Common.{◌≡◌, ℕ, List, [], ◌∷◌, Bool, true, false, map, Option, Some, None, Ok, Ordering, Less, Equal, Greater, nat_cmp, refl, sym, ap, subst, ◌∙◌}
use Rattle.std.specs.Prelude.{is_some, nat_lt, length, option_and_then, option_map, if◌then◌else◌}
use Rattle.std.specs.List.{AllByRecursion}
use Rattle.std.specs.List.Sorted.{IsStrictlySortedBy}
use Rattle.std.specs.Ordering.{match_ordering, ordering_reverse}
use Rattle.std.specs.Cmp.Lexicographic.{slice_cmp}
use Rattle.std.specs.Str.{bytes_eq, is_utf8}
use Rattle.std.proofs.lemmas.Cmp.{nat_list_cmp_total}
use Rattle.std.proofs.lemmas.Option.{none-some, option_and_then_some, same_Some}
use Rattle.json.specs.Json as json
use Rattle.json.specs.Lex.{tokens}
use Rattle.serde_json.specs.Data.{Data, null, boolean, number, string, array, object, Members, no_members, member, put}
use Rattle.serde_json.specs.Find.{as_object}
use Rattle.serde_json.specs.Read.{max_depth, of_json, of_members, read}
use Rattle.scalar_text.specs.Quote.{quote}
use Rattle.base_types.specs.Name.{is_bot_name}
use Rattle.event_model.specs.Trees.{both, json_of, lexeme_in, tree_in}
use Rattle.field_types.proofs.Twice.{mapped}
use Rattle.config_bundle.specs.declared.bundle.Bundle.{Bundle}
use Rattle.runtime_config.specs.Faults.{first_fault}
use Rattle.runtime_config.specs.Load.{load, of_runtime, planned, runtime_of, unless}
use Rattle.config_bundle.specs.Limits.{longest_runtime}
use Rattle.runtime_text.specs.Runtime.{bot_of, bots_in, global_key, object_of, runtime_in, Entry, Runtime}
use Rattle.runtime_config.specs.Within.{AreWithin}
use Rattle.runtime_config.specs.declared.fault.LoadFault.{LoadFault}
use Rattle.runtime_config.specs.declared.plan.Plan.{Plan}
use Rattle.runtime_config.specs.declared.plan.Planned.{Planned}
use Rattle.runtime_config.proofs.Within.{all_within}

abbrev Name : Type 0
Name = List ℕ

abbrev order : Name → Name → Ordering
order = slice_cmp nat_cmp

-- ---- members in order

-- the name is below those of the members
abbrev IsBelow : Name → Members → Type 0
IsBelow key no_members = Unit {0}
IsBelow key (member name d ms) = (order key name ≡ Less) × IsBelow key ms

abbrev AreRising : Members → Type 0
AreRising no_members = Unit {0}
AreRising (member name d ms) = IsBelow name ms × AreRising ms

below_more : (a b : Name) (ms : Members) → order a b ≡ Less → IsBelow b ms → IsBelow a ms
below_more a b no_members less below = tt
below_more a b (member name d ms) less below = (nat_list_cmp_total.trans a b name less below.0, below_more a b ms less below.1)

abbrev put_by : Ordering → Name → Data → Name → Data → Members → Members
put_by r key d name e ms = match_ordering r (member key d (member name e ms)) (member name d ms) (member name e (put key d ms))

below_by : (a key name : Name) (d e : Data) (ms : Members) (r : Ordering) → order a key ≡ Less → IsBelow a (member name e ms) → IsBelow a (put key d ms) → IsBelow a (put_by r key d name e ms)
below_by a key name d e ms Less less below later = (less, below)
below_by a key name d e ms Equal less below later = below
below_by a key name d e ms Greater less below later = (below.0, later)

-- a name below another's, and below the members, is below them with that other
below_put : (a key : Name) (d : Data) (ms : Members) → order a key ≡ Less → IsBelow a ms → IsBelow a (put key d ms)
below_put a key d no_members less below = (less, tt)
below_put a key d (member name e ms) less below = below_by a key name d e ms (order key name) less below (below_put a key d ms less below.1)

turned : (a b : Name) → order a b ≡ Greater → order b a ≡ Less
turned a b is = nat_list_cmp_total.antisymm b a ∙ ap ordering_reverse is

rises_by : (key name : Name) (d e : Data) (ms : Members) (r : Ordering) → order key name ≡ r → AreRising (member name e ms) → AreRising (put key d ms) → AreRising (put_by r key d name e ms)
rises_by key name d e ms Less is rise later = ((is, below_more key name ms is rise.0), rise)
rises_by key name d e ms Equal is rise later = rise
rises_by key name d e ms Greater is rise later = (below_put name key d ms (turned key name is) rise.0, later)

put_rises : (key : Name) (d : Data) (ms : Members) → AreRising ms → AreRising (put key d ms)
put_rises key d no_members rise = (tt, tt)
put_rises key d (member name e ms) rise = rises_by key name d e ms (order key name) refl rise (put_rises key d ms rise.1)

members_rise : (js : json.Members) (found ms : Members) → AreRising found → of_members js found ≡ Some ms → AreRising ms
members_rise json.no_members found ms rise is = subst AreRising (same_Some found ms is) rise
members_rise (json.member key j js) found ms rise is =
    option_and_then_some (λ d. of_members js (put key d found)) (of_json j) ms is λ d read of.
    members_rise js (put key d found) ms (put_rises key d found rise) of

-- ---- the tree of a text

some_object : (js : json.Members) (ms : Members) → option_map object (of_members js no_members) ≡ Some (object ms) → AreRising ms
some_object js ms is =
    let (found, read, same) = mapped object (of_members js no_members) (object ms) is in
    subst AreRising (object_is ms found same) (members_rise js no_members found tt read)
  where
    object_is : (a b : Members) → object a ≡ object b → b ≡ a
    object_is a b e = cc (e)

json_rises : (j : json.Json) (ms : Members) → of_json j ≡ Some (object ms) → AreRising ms
json_rises json.null ms is = absurd (cc (is))
json_rises (json.boolean b) ms is = absurd (cc (is))
json_rises (json.number s) ms is =
    let (n, read, same) = mapped number _ (object ms) is in absurd (cc (same))
json_rises (json.string s) ms is = absurd (cc (is))
json_rises (json.array js) ms is =
    let (items, read, same) = mapped array _ (object ms) is in absurd (cc (same))
json_rises (json.object js) ms is = some_object js ms is

read_rises : (text : Name) (ms : Members) → read text ≡ Some (object ms) → AreRising ms
read_rises text ms is =
    option_and_then_some of_json (option_and_then (λ p. json.if_last p.0 p.1) (json.value max_depth (tokens text))) (object ms) is λ j parsed of. json_rises j ms of

json_of_rises : (b : Bool) (text : Name) (ms : Members) → (if b then read text else None) ≡ Some (object ms) → AreRising ms
json_of_rises true text ms is = read_rises text ms is
json_of_rises false text ms is = absurd (none-some (object ms) is)

tree_rises : (text : Name) (ms : Members) → tree_in text ≡ Some (object ms) → AreRising ms
unfolding tree_in json_of
tree_rises text ms is = json_of_rises (is_utf8 (quote text)) (quote text) ms is

members_of_object : (d : Data) (ms : Members) → as_object d ≡ Some ms → d ≡ object ms
members_of_object null ms is = absurd (cc (is))
members_of_object (boolean b) ms is = absurd (cc (is))
members_of_object (number n) ms is = absurd (cc (is))
members_of_object (string s) ms is = absurd (cc (is))
members_of_object (array ds) ms is = absurd (cc (is))
members_of_object (object found) ms is = ap object (same_Some found ms is)

unless_lexeme : (b : Bool) (found ms : Members) → (if b then None else Some found) ≡ Some ms → found ≡ ms
unless_lexeme true found ms is = absurd (none-some ms is)
unless_lexeme false found ms is = same_Some found ms is

object_is : (d : Data) (ms : Members) → object_of d ≡ Some ms → d ≡ object ms
object_is d ms is =
    option_and_then_some (λ found. if is_some (lexeme_in found) then None else Some found) (as_object d) ms is λ found read of.
    members_of_object d found read ∙ ap object (unless_lexeme (is_some (lexeme_in found)) found ms of)

-- ---- the bots

-- the name is below those of the bots
abbrev IsBelowAll : Name → List Entry → Type 0
IsBelowAll key bots = AllByRecursion (λ name. order key name ≡ Less) (map (λ (bot : Entry). bot.0) bots)

abbrev AreInOrder : List Entry → Type 0
AreInOrder bots = IsStrictlySortedBy order (map (λ (bot : Entry). bot.0) bots)

-- a first bot, and the others
record HasFirst (name : Name) (later : Option (List Entry)) (bots : List Entry) : Type 0 where
  pub first : Entry
  pub others : List Entry
  pub named : first.0 ≡ name
  pub read : later ≡ Some others
  pub are : bots ≡ first ∷ others

of_both : (o : Option Entry) (later : Option (List Entry)) (name : Name) (bots : List Entry) → ((e : Entry) → o ≡ Some e → e.0 ≡ name) → both o later ≡ Some bots → HasFirst name later bots
of_both None later name bots named is = absurd (none-some bots is)
of_both (Some e) None name bots named is = absurd (none-some bots is)
of_both (Some e) (Some es) name bots named is = record { first = e; others = es; named = named e refl; read = refl; are = sym (same_Some (e ∷ es) bots is) }

bot_named : (name : Name) (d : Data) (e : Entry) → bot_of name d ≡ Some e → e.0 ≡ name
bot_named name d e is = by_test (is_bot_name name) is
  where
    by_test : (b : Bool) → (if b then option_map (λ members. (name, members)) (object_of d) else None) ≡ Some e → e.0 ≡ name
    by_test true is = let (members, read, same) = mapped (λ (members : Members). (name, members)) (object_of d) e is in ap (λ (x : Entry). x.0) same
    by_test false is = absurd (none-some e is)

-- what holds of the bots behind a member: it is of all parameters, or a bot
by_member : (P : List Entry → Type 0) (name : Name) (d : Data) (ms : Members) (bots : List Entry) (t u : Bool)
    → (if t then (if u then bots_in ms else None) else both (bot_of name d) (bots_in ms)) ≡ Some bots
    → (bots_in ms ≡ Some bots → P bots) → (HasFirst name (bots_in ms) bots → P bots) → P bots
by_member P name d ms bots true true is global bot = global is
by_member P name d ms bots true false is global bot = absurd (none-some bots is)
by_member P name d ms bots false u is global bot = bot (of_both (bot_of name d) (bots_in ms) name bots (bot_named name d) is)

below_bots : (key : Name) (ms : Members) (bots : List Entry) → IsBelow key ms → bots_in ms ≡ Some bots → IsBelowAll key bots
below_bots key no_members bots below is = subst (IsBelowAll key) (same_Some [] bots is) tt
below_bots key (member name d ms) bots below is =
    by_member (IsBelowAll key) name d ms bots (bytes_eq name global_key) (is_some (object_of d)) is
    (λ of. below_bots key ms bots below.1 of)
    (λ first. subst (IsBelowAll key) (sym first.are) (ap (order key) first.named ∙ below.0, below_bots key ms first.others below.1 first.read))

bots_rise : (ms : Members) (bots : List Entry) → AreRising ms → bots_in ms ≡ Some bots → AreInOrder bots
unfolding IsStrictlySortedBy
bots_rise no_members bots rise is = subst AreInOrder (same_Some [] bots is) tt
bots_rise (member name d ms) bots rise is =
    by_member AreInOrder name d ms bots (bytes_eq name global_key) (is_some (object_of d)) is
    (λ of. bots_rise ms bots rise.1 of)
    (λ first. subst AreInOrder (sym first.are)
    (subst (λ key. IsBelowAll key first.others) (sym first.named) (below_bots name ms first.others rise.0 first.read), bots_rise ms first.others rise.1 first.read))

runtime_rises : (ms : Members) (rt : Runtime) → AreRising ms → runtime_in ms ≡ Some rt → AreInOrder rt.bots
runtime_rises ms rt rise is =
    let (bots, read, same) = mapped _ (bots_in ms) rt is in
    subst (λ (r : Runtime). AreInOrder r.bots) (sym same) (bots_rise ms bots rise read)

short_rises : (b : Bool) (text : Name) (rt : Runtime) → (if b then None else option_and_then runtime_in (option_and_then object_of (tree_in text))) ≡ Some rt → AreInOrder rt.bots
short_rises true text rt is = absurd (none-some rt is)
short_rises false text rt is =
    option_and_then_some runtime_in (option_and_then object_of (tree_in text)) rt is λ ms found of.
    option_and_then_some object_of (tree_in text) ms found λ d read of_tree.
    runtime_rises ms rt (tree_rises text ms (read ∙ ap Some (object_is d ms of_tree))) of

bots_in_order : (bundle : Bundle) (rt : Runtime) → runtime_of bundle ≡ Some rt → AreInOrder rt.bots
unfolding runtime_of
bots_in_order bundle rt is = short_rises (nat_lt longest_runtime (length bundle.runtime)) bundle.runtime rt is

-- ---- the plan

-- a bot is planned under its name
names_stay : (bundle : Bundle) (rt : Runtime) (bots : List Entry) → map (λ (bot : Entry). bot.0) bots ≡ map (λ (p : Planned). p.bot) (map (planned bundle rt.global) bots)
unfolding planned
names_stay bundle rt [] = refl
names_stay bundle rt (bot ∷ bots) = ap (λ (names : List Name). bot.0 ∷ names) (names_stay bundle rt bots)

-- nothing is wrong, and the plan is this
of_unless : (o : Option LoadFault) (made plan : Plan) → unless o made ≡ Ok plan → (o ≡ None) × (made ≡ plan)
of_unless None made plan is = (refl, cc (is))
of_unless (Some e) made plan is = absurd (cc (is))

of_loaded : (bundle : Bundle) (o : Option Runtime) (plan : Plan) → runtime_of bundle ≡ o → of_runtime bundle o ≡ Ok plan → AreWithin plan.bots
unfolding first_fault
of_loaded bundle None plan read is = absurd (cc (is))
of_loaded bundle (Some rt) plan read is =
    let parts = of_unless (first_fault bundle rt) (record { bots = map (planned bundle rt.global) rt.bots }) plan is in
    subst (λ (p : Plan). AreWithin p.bots) parts.1 (record {
      order = subst (IsStrictlySortedBy order) (names_stay bundle rt rt.bots) (bots_in_order bundle rt read);
      each = all_within bundle rt [] rt.bots parts.0;
    })

pub plans_are_within : (bundle : Bundle) (plan : Plan) → load bundle ≡ Ok plan → AreWithin plan.bots
unfolding load
plans_are_within bundle plan is = of_loaded bundle (runtime_of bundle) plan refl is
