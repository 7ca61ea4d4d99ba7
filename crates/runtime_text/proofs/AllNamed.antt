-- Each file that a bot is given is named.
use Rattle.std.proofs.Common.{◌≡◌, inl, inr, ⊎_elim, ℕ, List, [], ◌∷◌, Bool, true, false, Option, Some, None, Ordering, Less, Equal, Greater, is_some, option_map, option_and_then, unwrap_or, if◌then◌else◌, refl, sym, ap, subst, ◌∙◌}
use Rattle.std.proofs.lemmas.Bool.{and_from}
use Rattle.std.specs.Str.{bytes_eq}
use Rattle.serde_json.specs.Data.{Data, Members, member, no_members}
use Rattle.base_types.specs.Lists.{IsIn}
use Rattle.base_types.specs.Name.{is_bot_name}
use Rattle.base_types.proofs.Places.{order, same_key}
use Rattle.event_model.specs.Trees.{both, tree_in}
use Rattle.runtime_text.specs.Named.{are_objects, file_given, file_of, named_files, named_from, named_in, placed, with_file, with_name}
use Rattle.runtime_text.specs.Runtime.{bot_of, bots_in, global_key, object_of, object_under, runtime_in, Entry, Runtime}
use Rattle.runtime_text.proofs.Naming.{Names}

-- ---- names that are put among others

in_placed : (r : Ordering) (f n : List ℕ) (ns rest : Names) → order n f ≡ r → IsIn f rest → IsIn f (placed r f n ns rest)
in_placed Less f n ns rest is later = inr later
in_placed Equal f n ns rest is later = inl (sym (same_key n f is))
in_placed Greater f n ns rest is later = inl refl

put_is_in : (f : List ℕ) (names : Names) → IsIn f (with_name f names)
put_is_in f [] = inl refl
put_is_in f (n ∷ ns) = in_placed (order n f) f n ns (with_name f ns) refl (put_is_in f ns)

stays_placed : (r : Ordering) (f name n : List ℕ) (ns rest : Names) → IsIn f (n ∷ ns) → (IsIn f ns → IsIn f rest) → IsIn f (placed r name n ns rest)
stays_placed Less f name n ns rest there goes = ⊎_elim (λ here. inl here) (λ later. inr (goes later)) there
stays_placed Equal f name n ns rest there goes = there
stays_placed Greater f name n ns rest there goes = inr there

stays_in : (f name : List ℕ) (names : Names) → IsIn f names → IsIn f (with_name name names)
stays_in f name [] there = absurd there
stays_in f name (n ∷ ns) there = stays_placed (order n name) f name n ns (with_name name ns) there (stays_in f name ns)

stays_with : (f : List ℕ) (o : Option (List ℕ)) (names : Names) → IsIn f names → IsIn f (with_file o names)
stays_with f None names there = there
stays_with f (Some name) names there = stays_in f name names there

stays_from : (f : List ℕ) (global : Members) (ms : Members) (names : Names) → IsIn f names → IsIn f (named_from global names ms)
stays_from f global no_members names there = there
stays_from f global (member name d ms) names there = stays_from f global ms _ (stays_with f _ names there)

-- ---- members that are bots

when_some : {A : Type 0} (b : Bool) (o : Option A) (x : A) → (if b then o else None) ≡ Some x → (b ≡ true) × (o ≡ Some x)
when_some true o x is = (refl, is)
when_some false o x is = absurd (cc)

record IsBoth {A : Type 0} (o : Option A) (os : Option (List A)) (all : List A) : Type 0 where
  pub first : A
  pub others : List A
  pub first_is : o ≡ Some first
  pub others_are : os ≡ Some others
  pub all_are : all ≡ first ∷ others

both_parts : {A : Type 0} (o : Option A) (os : Option (List A)) (all : List A) → both o os ≡ Some all → IsBoth o os all
both_parts None os all is = absurd (cc)
both_parts (Some x) None all is = absurd (cc)
both_parts (Some x) (Some xs) all is = record { first = x; others = xs; first_is = refl; others_are = refl; all_are = same (x ∷ xs) all is }
  where
    same : {A : Type 0} (xs ys : List A) → Some xs ≡ Some ys → ys ≡ xs
    same xs ys e = cc

-- a bot's members are those of the object
bot_is : (b : Bool) (o : Option Members) (name : List ℕ) (bot : Entry) → (if b then option_map (λ members. (name, members)) o else None) ≡ Some bot → (is_some o ≡ true) × ((name, unwrap_or o no_members) ≡ bot)
bot_is true None name bot is = absurd (cc)
bot_is true (Some ms) name bot is = (refl, same (name, ms) bot is)
  where
    same : (a b : Entry) → Some a ≡ Some b → a ≡ b
    same a b e = cc
bot_is false o name bot is = absurd (cc)

module _ (global : Members) (bot : Entry) (f : List ℕ) (given : file_of global bot ≡ Some f) where
  -- in front of other members, in whose files that of the bot is where it is one of theirs
  one_named : (b : Bool) (name : List ℕ) (d : Data) (ms : Members) (names : Names) (bots : List Entry)
      → ((ns : Names) (later : List Entry) → bots_in ms ≡ Some later → IsIn bot later → IsIn f (named_from global ns ms))
      → (if b then (if is_some (object_of d) then bots_in ms else None) else both (bot_of name d) (bots_in ms)) ≡ Some bots → IsIn bot bots
      → IsIn f (named_from global (with_file (if b then None else file_given global (unwrap_or (object_of d) no_members)) names) ms)
  one_named true name d ms names bots later is there = later names bots (when_some (is_some (object_of d)) (bots_in ms) bots is).1 there
  one_named false name d ms names bots later is there =
      let parts = both_parts (bot_of name d) (bots_in ms) bots is in
      let entry : Entry = (name, unwrap_or (object_of d) no_members) in
      let same : entry ≡ parts.first = (bot_is (is_bot_name name) (object_of d) name parts.first parts.first_is).1 in
      ⊎_elim
      (λ here.
      let file : file_of global entry ≡ Some f = ap (file_of global) (same ∙ sym here) ∙ given in
      subst (λ (o : Option (List ℕ)). IsIn f (named_from global (with_file o names) ms)) (sym file) (stays_from f global ms (with_name f names) (put_is_in f names)))
      (λ behind. later (with_file (file_of global entry) names) parts.others parts.others_are behind)
      (subst (IsIn bot) parts.all_are there)

  bots_named : (ms : Members) (names : Names) (bots : List Entry) → bots_in ms ≡ Some bots → IsIn bot bots → IsIn f (named_from global names ms)
  bots_named no_members names bots is there = absurd (subst (IsIn bot) (same bots is) there)
    where
      same : (bots : List Entry) → Some [] ≡ Some bots → bots ≡ []
      same bots e = cc
  bots_named (member name d ms) names bots is there = one_named (bytes_eq name global_key) name d ms names bots (λ ns later are in_it. bots_named ms ns later are in_it) is there

-- each member of a text with bots is an object
one_object : (b : Bool) (name : List ℕ) (d : Data) (rest : Option (List Entry)) (bots : List Entry) → (if b then (if is_some (object_of d) then rest else None) else both (bot_of name d) rest) ≡ Some bots
    → (is_some (object_of d) ≡ true) × ((later : List Entry) × (rest ≡ Some later))
one_object true name d rest bots is = let parts = when_some (is_some (object_of d)) rest bots is in (parts.0, (bots, parts.1))
one_object false name d rest bots is =
    let parts = both_parts (bot_of name d) rest bots is in
    ((bot_is (is_bot_name name) (object_of d) name parts.first parts.first_is).0, (parts.others, parts.others_are))

all_objects : (ms : Members) (bots : List Entry) → bots_in ms ≡ Some bots → are_objects ms ≡ true
all_objects no_members bots is = refl
all_objects (member name d ms) bots is =
    let parts = one_object (bytes_eq name global_key) name d (bots_in ms) bots is in
    and_from _ _ parts.0 (all_objects ms parts.1.0 parts.1.1)

-- ---- the files of a runtime text

record IsRuntimeOf (ms : Members) (rt : Runtime) : Type 0 where
  pub bots_are : bots_in ms ≡ Some rt.bots
  pub global_is : rt.global ≡ object_under global_key ms

abbrev runtime_with : Members → List Entry → Runtime
runtime_with ms bots = record { global = object_under global_key ms; bots = bots }

runtime_parts : (ms : Members) (o : Option (List Entry)) (rt : Runtime) → bots_in ms ≡ o → option_map (runtime_with ms) o ≡ Some rt → IsRuntimeOf ms rt
runtime_parts ms None rt are is = absurd (cc)
runtime_parts ms (Some bots) rt are is =
    let same : rt ≡ runtime_with ms bots = of (runtime_with ms bots) rt is in
    record { bots_are = are ∙ ap (λ (r : Runtime). Some r.bots) (sym same); global_is = ap (λ (r : Runtime). r.global) same }
  where
    of : (a b : Runtime) → Some a ≡ Some b → b ≡ a
    of a b e = cc

pub files_are_named : (runtime : List ℕ) (rt : Runtime) → option_and_then runtime_in (option_and_then object_of (tree_in runtime)) ≡ Some rt → (bot : Entry) → IsIn bot rt.bots → (f : List ℕ) → file_of rt.global bot ≡ Some f → IsIn f (named_files runtime)
unfolding named_files
files_are_named runtime rt is bot there f given = go (option_and_then object_of (tree_in runtime)) is
  where
    go : (o : Option Members) → option_and_then runtime_in o ≡ Some rt → IsIn f (named_in o)
    go None none = absurd (cc)
    go (Some ms) some =
        let parts = runtime_parts ms (bots_in ms) rt refl some in
        let global = object_under global_key ms in
        let file : file_of global bot ≡ Some f = ap (λ (g : Members). file_of g bot) (sym parts.global_is) ∙ given in
        subst (λ (b : Bool). IsIn f (if b then named_from global [] ms else [])) (sym (all_objects ms rt.bots parts.bots_are)) (bots_named global bot f file ms [] rt.bots parts.bots_are there)
