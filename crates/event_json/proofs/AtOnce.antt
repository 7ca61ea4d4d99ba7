-- Members that are put in order at once: all of those given, in byte order of their names.
use Rattle.std.proofs.Common.{◌≡◌, ℕ, suc, ◌+◌, List, [], ◌∷◌, ◌++◌, length, length-append, append-nil, true, Option, Some, None, option_and_then, option_map, Less, Equal, Greater, refl, sym, ap, subst, ◌∙◌, arith, Bor}
use Rattle.std.specs.declared.alloc.Global.{Global}
use Rattle.std.specs.declared.cmp.Ordering.{Ordering}
use Rattle.std.specs.Ordering.{is_lt, match_ordering, ordering_reverse}
use Rattle.std.specs.FinMap.{is_sorted}
use Rattle.std.specs.FinMap.Entries.{below_all}
use Rattle.std.proofs.lemmas.Bool.{and_parts, and_from}
use Rattle.std.proofs.lemmas.Cmp.{nat_list_cmp_total}
use Rattle.json.specs.declared.value.Value.{Value as Tree}
use Rattle.serde_json.specs.Data.{Data, Members, no_members, member, put}
use Rattle.serde_json.specs.Read.{of_json, of_members}
use Rattle.base_types.specs.Place.{is_above_all}
use Rattle.base_types.proofs.Places.{Key, order, less_of}
use Rattle.event_json.specs.Quoted.{quoted_view, quoted_members_view}
use Rattle.event_json.specs.Direct.{Named, AreAmong, IsAmong, given_values, named_values, data_of, data_members, IsData, AreData, ReadsInOrder}
use Rattle.event_json.proofs.Placing.{Held, below_between, named_split, sorted_between}

-- ---- options

then_same : {A B : Type 0} (o : Option A) (f g : A → Option B) → ((a : A) → f a ≡ g a) → option_and_then f o ≡ option_and_then g o
then_same None f g same = refl
then_same (Some a) f g same = same a

then_then : {A B C : Type 0} (o : Option A) (f : A → Option B) (g : B → Option C) → option_and_then (λ a. option_and_then g (f a)) o ≡ option_and_then g (option_and_then f o)
then_then None f g = refl
then_then (Some a) f g = refl

map_then : {A B C : Type 0} (o : Option A) (f : A → Option B) (g : B → C) → option_and_then (λ a. option_map g (f a)) o ≡ option_map g (option_and_then f o)
map_then None f g = refl
map_then (Some a) f g = refl

some_then : {A B : Type 0} (o : Option A) (f : A → Option B) (b : B) → option_and_then f o ≡ Some b → (a : A) × (o ≡ Some a) × (f a ≡ Some b)
some_then None f b is = absurd (cc)
some_then (Some a) f b is = (a, refl, is)

-- ---- what is read of members, one by one

abbrev reads : List Named → Members → Option Members
reads [] found = Some found
reads (m ∷ ms) found = option_and_then (λ d. reads ms (put m.0 d found)) (of_json m.1)

reads_given : (ms : List (Bor (List ℕ) × Tree Global)) (found : Members) → of_members (quoted_members_view ms) found ≡ reads (given_values ms) found
reads_given [] found = refl
reads_given (m ∷ ms) found = then_same (of_json (quoted_view m.1)) _ _ (λ d. reads_given ms (put m.0.now d found))

reads-append : (front back : List Named) (found : Members) → reads (front ++ back) found ≡ option_and_then (reads back) (reads front found)
reads-append [] back found = refl
reads-append (m ∷ front) back found =
    then_same (of_json m.1) _ _ (λ d. reads-append front back (put m.0 d found))
    ∙ then_then (of_json m.1) (λ d. reads front (put m.0 d found)) (reads back)

-- the name is below the first of these
abbrev IsBelowFirst : Key → Members → Type 0
IsBelowFirst name no_members = Unit {0}
IsBelowFirst name (member k d ms) = order name k ≡ Less

put_first : (name : Key) (d : Data) (ms : Members) → IsBelowFirst name ms → put name d ms ≡ member name d ms
put_first name d no_members below = refl
put_first name d (member k e ms) below = rw below refl

still_below : (name k l : Key) (d e : Data) (ms : Members) (r : Ordering) → order name k ≡ Less → order name l ≡ Less
    → IsBelowFirst name (match_ordering r (member k d (member l e ms)) (member l d ms) (member l e (put k d ms)))
still_below name k l d e ms Less under below = under
still_below name k l d e ms Equal under below = below
still_below name k l d e ms Greater under below = below

put_below : (name k : Key) (d : Data) (ms : Members) → order name k ≡ Less → IsBelowFirst name ms → IsBelowFirst name (put k d ms)
put_below name k d no_members under below = under
put_below name k d (member l e ms) under below = still_below name k l d e ms (order k l) under below

reads_below : (name : Key) (ms : List Named) (found all : Members) → below_all order name ms ≡ true → IsBelowFirst name found → reads ms found ≡ Some all → IsBelowFirst name all
reads_below name [] found all below first is = let same : found ≡ all = cc in subst (IsBelowFirst name) same first
reads_below name (e ∷ ms) found all below first is =
    let parts = and_parts (is_lt (order name e.0)) (below_all order name ms) below in
    let (d, _, later) = some_then (of_json e.1) (λ d. reads ms (put e.0 d found)) all is in
    reads_below name ms (put e.0 d found) all parts.1 (put_below name e.0 d found (less_of _ parts.0) first) later

-- a member whose name is below all later ones stays the first
reads_behind : (name : Key) (d : Data) (ms : List Named) (found : Members) → below_all order name ms ≡ true → reads ms (member name d found) ≡ option_map (member name d) (reads ms found)
reads_behind name d [] found below = refl
reads_behind name d (e ∷ ms) found below =
    let parts = and_parts (is_lt (order name e.0)) (below_all order name ms) below in
    let greater : order e.0 name ≡ Greater = nat_list_cmp_total.antisymm e.0 name ∙ ap ordering_reverse (less_of _ parts.0) in
    then_same (of_json e.1) _ _ (λ x. ap (reads ms) (put_behind x greater) ∙ reads_behind name d ms (put e.0 x found) parts.1)
    ∙ map_then (of_json e.1) (λ x. reads ms (put e.0 x found)) (member name d)
  where
    put_behind : (x : Data) → order e.0 name ≡ Greater → put e.0 x (member name d found) ≡ member name d (put e.0 x found)
    put_behind x greater = rw greater refl

reads_first : (x : Named) (front back : List Named) (ds : Members) → below_all order x.0 front ≡ true → below_all order x.0 back ≡ true → IsData x.1 → reads (front ++ back) no_members ≡ Some ds
    → reads (front ++ x ∷ back) no_members ≡ Some (member x.0 (data_of x.1) ds)
reads_first x front back ds under over in_range is =
    let (m, there, later) = some_then (reads front no_members) (reads back) ds (sym (reads-append front back no_members) ∙ is) in
    let first : IsBelowFirst x.0 m = reads_below x.0 front no_members m under tt there in
    reads-append front (x ∷ back) no_members
    ∙ ap (option_and_then (reads (x ∷ back))) there
    ∙ ap (option_and_then (λ d. reads back (put x.0 d m))) in_range
    ∙ ap (reads back) (put_first x.0 (data_of x.1) m first)
    ∙ reads_behind x.0 (data_of x.1) back m over
    ∙ ap (option_map (member x.0 (data_of x.1))) later

-- ---- all of those given

head_is : (x y : Named) → order x.0 y.0 ≡ Less → ¬ (x ≡ y)
head_is x y less same =
    let itself : order x.0 x.0 ≡ Less = ap (λ (z : Named). order x.0 z.0) same ∙ less in
    let turned : order x.0 x.0 ≡ Greater = nat_list_cmp_total.antisymm x.0 x.0 ∙ ap ordering_reverse itself in
    absurd (cc)

still_among : (x y : Named) (front back : List Named) → order x.0 y.0 ≡ Less → IsAmong (front ++ x ∷ back) y → IsAmong (front ++ back) y
still_among x y [] back less ([], after, is) = let same : x ≡ y = cc in absurd (head_is x y less same)
still_among x y [] back less (e ∷ before, after, is) = let tail : back ≡ before ++ y ∷ after = cc in (before, after, tail)
still_among x y (e ∷ front) back less ([], after, is) = let same : e ≡ y = cc in ([], front ++ back, ap (λ z. z ∷ (front ++ back)) same)
still_among x y (e ∷ front) back less (z ∷ before, after, is) =
    let tail : front ++ x ∷ back ≡ before ++ y ∷ after = cc in
    let (earlier, later, split) = still_among x y front back less (before, after, tail) in
    (e ∷ earlier, later, ap (λ (t : List Named). e ∷ t) split)

rest_among : (x : Named) (ordered front back : List Named) → below_all order x.0 ordered ≡ true → AreAmong (front ++ x ∷ back) ordered → AreAmong (front ++ back) ordered
rest_among x [] front back below among = tt
rest_among x (y ∷ ordered) front back below among =
    let parts = and_parts (is_lt (order x.0 y.0)) (below_all order x.0 ordered) below in
    (still_among x y front back (less_of _ parts.0) among.0, rest_among x ordered front back parts.1 among.1)

below_parts : (name : Key) (front back : List Named) → below_all order name (front ++ back) ≡ true → (below_all order name front ≡ true) × (below_all order name back ≡ true)
below_parts name [] back below = (refl, below)
below_parts name (e ∷ front) back below =
    let parts = and_parts (is_lt (order name e.0)) (below_all order name (front ++ back)) below in
    let more = below_parts name front back parts.1 in
    (and_from _ _ parts.0 more.0, more.1)

record IsRead (ordered given : List Named) : Type 0 where
  read : AreData ordered → reads given no_members ≡ Some (data_members ordered)
  below : (k : Key) → below_all order k ordered ≡ true → below_all order k given ≡ true

placed : (x : Named) (ordered given front back : List Named) → given ≡ front ++ x ∷ back → below_all order x.0 ordered ≡ true → IsRead ordered (front ++ back) → IsRead (x ∷ ordered) given
placed x ordered given front back is least later =
    let parts = below_parts x.0 front back (later.below x.0 least) in
    record {
      read = λ all_in_range. ap (λ g. reads g no_members) is ∙ reads_first x front back (data_members ordered) parts.0 parts.1 all_in_range.0 (later.read all_in_range.1);
      below = λ k all.
          let both = and_parts (is_lt (order k x.0)) (below_all order k ordered) all in
          ap (below_all order k) is ∙ below_between k x.0 x.1 front back (later.below k both.1) both.0;
    }

-- as many as are given, each of them one of those, with rising names
read_in_order : (ordered given : List Named) → is_sorted order ordered ≡ true → AreAmong given ordered → length ordered ≡ length given → IsRead ordered given
read_in_order [] [] sorted among size = record { read = λ _. refl; below = λ _ _. refl }
read_in_order [] (e ∷ given) sorted among size = absurd (omega (arith, size))
read_in_order (x ∷ ordered) given sorted among size =
    let (front, back, is) = among.0 in
    let parts = and_parts (below_all order x.0 ordered) (is_sorted order ordered) sorted in
    let rest = rest_among x ordered front back parts.0 (subst (λ g. AreAmong g ordered) is among.1) in
    let whole : length given ≡ length front + suc (length back) = ap length is ∙ length-append front (x ∷ back) in
    let long : length ordered ≡ length (front ++ back) = omega (arith, size, whole, length-append front back) in
    placed x ordered given front back is parts.0 (read_in_order ordered (front ++ back) parts.1 rest long)

pub reads_at_once : (members : List (Bor (List ℕ) × Tree Global)) (ordered : List Named) → is_sorted order ordered ≡ true → AreAmong (given_values members) ordered → length ordered ≡ length (given_values members)
    → ReadsInOrder members ordered
reads_at_once members ordered sorted among size = λ all_in_range. reads_given members no_members ∙ (read_in_order ordered (given_values members) sorted among size).read all_in_range

-- ---- one more of them

among_behind : (all ms : List Named) (m : Named) → AreAmong all ms → IsAmong all m → AreAmong all (ms ++ m ∷ [])
among_behind all [] m among is = (is, tt)
among_behind all (e ∷ ms) m among is = (among.0, among_behind all ms m among.1 is)

-- members in order, of those given
abbrev pub AreTaken : List Named → List Held → Type 0
AreTaken all found = (is_sorted order (named_values found) ≡ true) × AreAmong all (named_values found)

named_among : (all : List Held) (m : Held) (front back : List Held) → all ≡ front ++ m ∷ back → IsAmong (named_values all) (m.0, quoted_view m.1.now)
named_among all m front back is = (named_values front, named_values back, named_split all front (m ∷ back) is)

pub one_taken : (all found new front back : List Held) (m : Held) → new ≡ found ++ m ∷ [] → is_above_all m.0 (named_values found) ≡ true → all ≡ front ++ m ∷ back → AreTaken (named_values all) found → AreTaken (named_values all) new
one_taken all found new front back m is above at so_far =
    let named : named_values new ≡ named_values found ++ (m.0, quoted_view m.1.now) ∷ [] = named_split new found (m ∷ []) is in (
      ap (is_sorted order) named ∙ sorted_between m.0 (quoted_view m.1.now) (named_values found) [] (ap (is_sorted order) (append-nil (named_values found)) ∙ so_far.0) above refl,
      subst (AreAmong (named_values all)) (sym named) (among_behind (named_values all) (named_values found) (m.0, quoted_view m.1.now) so_far.1 (named_among all m front back at)),
    )

pub given-length : (ms : List (Bor (List ℕ) × Tree Global)) → length ms ≡ length (given_values ms)
given-length [] = refl
given-length (m ∷ ms) = ap suc (given-length ms)
