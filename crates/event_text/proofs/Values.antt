-- Items, lists and values: what is found is written there, and what is written is found.
use Rattle.std.proofs.Common.{◌≡◌, ℕ, zero, suc, ◌-◌, ◌≤◌, ◌<◌, ◌==◌, ◌++◌, ◌&&◌, not, Bool, true, false, List, [], ◌∷◌, length, get_or, take, drop, Bor, map, flat_map, Option, Some, None, option_map, if◌then◌else◌, refl, sym, ap, ◌∙◌, subst, arith, append_assoc, length-append}
use Rattle.std.specs.Option.{option_and_then}
use Rattle.std.specs.List.{list_all, join_with_byte, AllByRecursion}
use Rattle.std.specs.Fmt.{signed_decimal}
use Rattle.std.specs.Str.{is_utf8}
use Rattle.scalar_text.specs.Number.{decimal_text}
use Rattle.std.proofs.lemmas.Bool.{false≢true, and_parts, and_from, not-true, eqb-true}
use Rattle.std.proofs.lemmas.List.{take_all}
use Rattle.std.proofs.lemmas.Option.{none-some, option_and_then_some, same_Some}
use Rattle.base_types.specs.JsonText.{escaped, flag_word, quoted}
use Rattle.field_types.specs.Writing.{is_utf8_item, is_utf8_value, item_text, value_text}
use Rattle.field_types.specs.declared.value.Item.{Item}
use Rattle.field_types.specs.declared.value.Item.TheVariants as item
use Rattle.field_types.specs.declared.value.Value.{Value}
use Rattle.field_types.specs.declared.value.Value.TheVariants as value
use Rattle.field_types.proofs.Joined.{joined}
use Rattle.field_types.proofs.Twice.{mapped}
use Rattle.event_text.specs.Decode.{begins_with_stop, item_at, item_onto, items_onto, item_value, items_at, items_behind, list_at, list_value, scalar_at, text_at, text_item, value_at, value_of_item, IsReadable, IsReadableItem}
use Rattle.event_text.proofs.Runs.{begins_with, is_bare, scalar_at-only, scalar_at-reads, flag_text, whole_text, decimal_text_read, IsScalarText}
use Rattle.event_text.proofs.Strings.{text_at-reads, text_at-only}

head_same : (a b : ℕ) (xs ys : List ℕ) → a ∷ xs ≡ b ∷ ys → a ≡ b
head_same a b xs ys e = cc

tail_same : (a b : ℕ) (xs ys : List ℕ) → a ∷ xs ≡ b ∷ ys → xs ≡ ys
tail_same a b xs ys e = cc

no_comma : (xs ys : List ℕ) → 44 ∷ xs ≡ 93 ∷ ys → ⊥
no_comma xs ys e = let same = head_same 44 93 xs ys e in absurd (omega (arith, same))

-- ---- items

-- the text of the item stands at the front
abbrev IsItemAt : List ℕ → Item → List ℕ → Type 0
IsItemAt rest it behind = (rest ≡ item_text it ++ behind) × (is_utf8_item it ≡ true)

quoted_behind : (inside text behind : List ℕ) → inside ≡ flat_map escaped text ++ 34 ∷ behind → 34 ∷ inside ≡ quoted text ++ behind
unfolding quoted
quoted_behind inside text behind is = ap (λ t. 34 ∷ t) (is ∙ sym (append_assoc (flat_map escaped text) (34 ∷ []) behind))

text_found : (inside : List ℕ) (it : Item) (behind : List ℕ) → option_map text_item (text_at inside) ≡ Some (it, behind) → IsItemAt (34 ∷ inside) it behind
text_found inside it behind found =
    let (at, is, same) = mapped text_item (text_at inside) (it, behind) found in
    let parts = text_at-only inside at.0 at.1 is in
    subst (λ p. IsItemAt (34 ∷ inside) p.0 p.1) (sym same) (quoted_behind inside at.0 at.1 parts.0, parts.1)

item_by : (b : ℕ) (bs : List ℕ) (quote : Bool) (it : Item) (behind : List ℕ) → (b == 34) ≡ quote → (if quote then option_map text_item (text_at bs) else scalar_at (b ∷ bs)) ≡ Some (it, behind) → IsItemAt (b ∷ bs) it behind
item_by b bs true it behind e found = subst (λ c. IsItemAt (c ∷ bs) it behind) (sym (eqb-true b 34 e)) (text_found bs it behind found)
item_by b bs false it behind e found = scalar_at-only (b ∷ bs) it behind found

item_at-only : (rest : List ℕ) (it : Item) (behind : List ℕ) → item_at rest ≡ Some (it, behind) → IsItemAt rest it behind
unfolding item_at
item_at-only [] it behind found = absurd (none-some (it, behind) found)
item_at-only (b ∷ bs) it behind found = item_by b bs (b == 34) it behind refl found

begins_longer : (p : ℕ → Bool) (text behind : List ℕ) → begins_with p text ≡ true → begins_with p (text ++ behind) ≡ true
begins_longer p [] behind is = absurd (false≢true is)
begins_longer p (b ∷ bs) behind is = is

unquoted : (rest : List ℕ) → begins_with is_bare rest ≡ true → item_at rest ≡ scalar_at rest
unfolding item_at
unquoted [] bare = absurd (false≢true bare)
unquoted (b ∷ bs) bare =
    rw (not-true (b == 34) (and_parts (not (b == 34)) (not (b == 91)) (and_parts (not (b == 34) && not (b == 91)) (not (b == 93)) bare).0).0) refl

scalar_read : (run behind : List ℕ) (it : Item) → IsScalarText run it → begins_with_stop behind ≡ true → item_at (run ++ behind) ≡ Some (it, behind)
scalar_read run behind it is stop = unquoted (run ++ behind) (begins_longer is_bare run behind is.front) ∙ scalar_at-reads run behind it is stop

quoted_read : (text behind : List ℕ) → is_utf8 text ≡ true → item_at (quoted text ++ behind) ≡ Some (item.Text text, behind)
unfolding item_at quoted
quoted_read text behind is =
    ap (λ t. option_map text_item (text_at t)) (append_assoc (flat_map escaped text) (34 ∷ []) behind) ∙ ap (option_map text_item) (text_at-reads text behind is)

item_at-reads : (it : Item) (behind : List ℕ) → IsReadableItem it → begins_with_stop behind ≡ true → item_at (item_text it ++ behind) ≡ Some (it, behind)
item_at-reads (item.Text text) behind is stop = quoted_read text behind is
item_at-reads (item.Whole n) behind is stop = scalar_read (signed_decimal n) behind (item.Whole n) (whole_text n is) stop
item_at-reads (item.Flag b) behind is stop = scalar_read (flag_word b) behind (item.Flag b) (flag_text b) stop
item_at-reads (item.Decimal n) behind is stop = scalar_read (decimal_text n) behind (item.Decimal n) (decimal_text_read n is) stop

-- an item begins with no bracket
abbrev is_inner : ℕ → Bool
is_inner b = not (b == 91) && not (b == 93)

bare_inner : (text : List ℕ) → begins_with is_bare text ≡ true → begins_with is_inner text ≡ true
bare_inner [] bare = absurd (false≢true bare)
bare_inner (b ∷ bs) bare =
    let parts = and_parts (not (b == 34) && not (b == 91)) (not (b == 93)) bare in
    and_from _ _ (and_parts (not (b == 34)) (not (b == 91)) parts.0).1 parts.1

item_front : (it : Item) → IsReadableItem it → begins_with is_inner (item_text it) ≡ true
unfolding quoted
item_front (item.Text text) is = refl
item_front (item.Whole n) is = bare_inner (signed_decimal n) (whole_text n is).front
item_front (item.Flag b) is = bare_inner (flag_word b) (flag_text b).front
item_front (item.Decimal n) is = bare_inner (decimal_text n) (decimal_text_read n is).front

-- ---- lists

-- the items, each behind a comma
abbrev item_texts : List Item → List ℕ
item_texts items = flat_map (λ it. 44 ∷ item_text it) items

-- behind a comma, these items and the end of their list stand at the front
abbrev AreItemsAt : List ℕ → List Item → List ℕ → Type 0
AreItemsAt rest items behind = (44 ∷ rest ≡ item_texts items ++ 93 ∷ behind) × (list_all is_utf8_item items ≡ true)

more_items : (first : Item) (rest after : List ℕ) (items : List Item) (behind : List ℕ) → IsItemAt rest first (44 ∷ after) → AreItemsAt after items behind → AreItemsAt rest (first ∷ items) behind
more_items first rest after items behind one more = (
  ap (λ t. 44 ∷ t) one.0 ∙ ap (λ t. 44 ∷ item_text first ++ t) more.0 ∙ sym (append_assoc (44 ∷ item_text first) (item_texts items) (93 ∷ behind)),
  and_from _ _ one.1 more.1,
)

last_item : (first : Item) (rest behind : List ℕ) → IsItemAt rest first (93 ∷ behind) → AreItemsAt rest (first ∷ []) behind
last_item first rest behind one = (
  ap (λ t. 44 ∷ t) one.0 ∙ sym (append_assoc (44 ∷ item_text first) [] (93 ∷ behind)),
  and_from _ _ one.1 refl,
)

-- what this search finds stands there
abbrev FindsItems : (List ℕ → Option (List Item × List ℕ)) → Type 0
FindsItems more = (rest : List ℕ) (items : List Item) (behind : List ℕ) → more rest ≡ Some (items, behind) → AreItemsAt rest items behind

behind_by : (more : List ℕ → Option (List Item × List ℕ)) (first : Item) (rest : List ℕ) (b : ℕ) (bs : List ℕ) (comma end : Bool) (items : List Item) (behind : List ℕ)
    → FindsItems more → (b == 44) ≡ comma → (b == 93) ≡ end → IsItemAt rest first (b ∷ bs)
    → (if comma then option_map (item_onto first) (more bs) else (if end then Some (first ∷ [], bs) else None)) ≡ Some (items, behind) → AreItemsAt rest items behind
behind_by more first rest b bs true end items behind finds e f one found =
    let (at, is, same) = mapped (item_onto first) (more bs) (items, behind) found in
    let here = subst (λ c. IsItemAt rest first (c ∷ bs)) (eqb-true b 44 e) one in
    subst (λ p. AreItemsAt rest p.0 p.1) (sym same) (more_items first rest bs at.0 at.1 here (finds bs at.0 at.1 is))
behind_by more first rest b bs false true items behind finds e f one found =
    let here = subst (λ c. IsItemAt rest first (c ∷ bs)) (eqb-true b 93 f) one in
    subst (λ p. AreItemsAt rest p.0 p.1) (same_Some (first ∷ [], bs) (items, behind) found) (last_item first rest bs here)
behind_by more first rest b bs false false items behind finds e f one found = absurd (none-some (items, behind) found)

items_behind-only : (more : List ℕ → Option (List Item × List ℕ)) (first : Item) (rest after : List ℕ) (items : List Item) (behind : List ℕ) → FindsItems more → IsItemAt rest first after → items_behind more first after ≡ Some (items, behind) → AreItemsAt rest items behind
items_behind-only more first rest [] items behind finds one found = absurd (none-some (items, behind) found)
items_behind-only more first rest (b ∷ bs) items behind finds one found =
    behind_by more first rest b bs (b == 44) (b == 93) items behind finds refl refl one found

items_at-only : (most : ℕ) → FindsItems (items_at most)
items_at-only zero rest items behind found = absurd (none-some (items, behind) found)
items_at-only (suc most) rest items behind found =
    option_and_then_some (λ at. items_behind (items_at most) at.0 at.1) (item_at rest) (items, behind) found
    (λ at is more. items_behind-only (items_at most) at.0 rest at.1 items behind (items_at-only most) (item_at-only rest at.0 at.1 is) more)

-- the items with commas between them
joined_texts : (rest : List ℕ) (items : List Item) (behind : List ℕ) → 44 ∷ rest ≡ item_texts items ++ 93 ∷ behind → rest ≡ join_with_byte 44 (map item_text items) ++ 93 ∷ behind
joined_texts rest [] behind is = absurd (no_comma rest behind is)
joined_texts rest (first ∷ items) behind is =
    tail_same 44 44 rest ((item_text first ++ item_texts items) ++ 93 ∷ behind) is ∙ ap (λ t. t ++ 93 ∷ behind) (sym (joined item_text first items))

-- the text of the list stands behind its opening bracket
abbrev IsListAt : List ℕ → List Item → List ℕ → Type 0
IsListAt inside items behind = (inside ≡ join_with_byte 44 (map item_text items) ++ 93 ∷ behind) × (list_all is_utf8_item items ≡ true)

list_by : (b : ℕ) (bs : List ℕ) (end : Bool) (items : List Item) (behind : List ℕ) → (b == 93) ≡ end → (if end then Some ([], bs) else items_at (suc (length (b ∷ bs))) (b ∷ bs)) ≡ Some (items, behind) → IsListAt (b ∷ bs) items behind
list_by b bs true items behind e found =
    subst (λ p. IsListAt (b ∷ bs) p.0 p.1) (same_Some ([], bs) (items, behind) found) (ap (λ c. c ∷ bs) (eqb-true b 93 e), refl)
list_by b bs false items behind e found =
    let are = items_at-only (suc (length (b ∷ bs))) (b ∷ bs) items behind found in
    (joined_texts (b ∷ bs) items behind are.0, are.1)

list_at-only : (inside : List ℕ) (items : List Item) (behind : List ℕ) → list_at inside ≡ Some (items, behind) → IsListAt inside items behind
unfolding list_at
list_at-only [] items behind found = absurd (none-some (items, behind) found)
list_at-only (b ∷ bs) items behind found = list_by b bs (b == 93) items behind refl found

-- what follows an item
after_item : (items : List Item) (behind : List ℕ) → begins_with_stop (item_texts items ++ 93 ∷ behind) ≡ true
after_item [] behind = refl
after_item (it ∷ items) behind = refl

item_then : (first : Item) (rest : List ℕ) (items : List Item) (behind : List ℕ) → IsReadableItem first → 44 ∷ rest ≡ item_texts (first ∷ items) ++ 93 ∷ behind → item_at rest ≡ Some (first, item_texts items ++ 93 ∷ behind)
item_then first rest items behind readable is =
    ap item_at (tail_same 44 44 rest (item_text first ++ (item_texts items ++ 93 ∷ behind)) (is ∙ append_assoc (44 ∷ item_text first) (item_texts items) (93 ∷ behind)))
    ∙ item_at-reads first (item_texts items ++ 93 ∷ behind) readable (after_item items behind)

items_at-reads : (items : List Item) (most : ℕ) (rest behind : List ℕ) → AllByRecursion IsReadableItem items → length items ≤ most → 44 ∷ rest ≡ item_texts items ++ 93 ∷ behind → items_at most rest ≡ Some (items, behind)
items_at-reads [] most rest behind readable few is = absurd (no_comma rest behind is)
items_at-reads (first ∷ items) zero rest behind readable few is = absurd (omega (arith, few))
items_at-reads (first ∷ []) (suc most) rest behind readable few is =
    ap (option_and_then (λ at. items_behind (items_at most) at.0 at.1)) (item_then first rest [] behind readable.0 is)
items_at-reads (first ∷ (second ∷ items)) (suc most) rest behind readable few is =
    ap (option_and_then (λ at. items_behind (items_at most) at.0 at.1)) (item_then first rest (second ∷ items) behind readable.0 is)
    ∙ ap (option_map (item_onto first))
    (items_at-reads (second ∷ items) most ((item_text second ++ item_texts items) ++ 93 ∷ behind) behind readable.1 (omega (arith, few)) refl)

-- there are no more items than commas before them
few_items : (items : List Item) → length items ≤ length (item_texts items)
few_items [] = omega arith
few_items (it ∷ items) = omega (arith, few_items items, length-append (item_text it) (item_texts items))

inner_list : (inside : List ℕ) → begins_with is_inner inside ≡ true → list_at inside ≡ items_at (suc (length inside)) inside
unfolding list_at
inner_list [] inner = absurd (false≢true inner)
inner_list (b ∷ bs) inner = rw (not-true (b == 93) (and_parts (not (b == 91)) (not (b == 93)) inner).1) refl

list_at-reads : (items : List Item) (behind : List ℕ) → AllByRecursion IsReadableItem items → list_at (join_with_byte 44 (map item_text items) ++ 93 ∷ behind) ≡ Some (items, behind)
unfolding list_at
list_at-reads [] behind readable = refl
list_at-reads (first ∷ items) behind readable =
    let inside = (item_text first ++ item_texts items) ++ 93 ∷ behind in
    let inner = begins_longer is_inner (item_text first ++ item_texts items) (93 ∷ behind) (begins_longer is_inner (item_text first) (item_texts items) (item_front first readable.0)) in
    let few : length (first ∷ items) ≤ suc (length inside) = omega (arith, few_items (first ∷ items), length-append (item_text first ++ item_texts items) (93 ∷ behind)) in
    ap (λ t. list_at (t ++ 93 ∷ behind)) (joined item_text first items)
    ∙ inner_list inside inner
    ∙ items_at-reads (first ∷ items) (suc (length inside)) inside behind readable few refl

-- ---- the loop over the items of a list

behind_stop : (behind : List ℕ) (stop : ℕ) → get_or behind 0 0 ≡ stop → 1 ≤ length behind → behind ≡ stop ∷ take (length behind - 1) (drop 1 behind)
behind_stop [] stop is some = absurd (omega (arith, some))
behind_stop (b ∷ bs) stop is some = ap (λ c. c ∷ bs) is ∙ ap (λ t. stop ∷ t) (sym (take_all (length (b ∷ bs) - 1) bs (omega arith)))

-- an item is found, and this byte behind it
pub found_before : (rest : List ℕ) (found : Option (Item × Bor (List ℕ))) (it : Item) (behind : Bor (List ℕ)) (stop : ℕ) → option_map (λ at. (at.0, at.1.now)) found ≡ item_at rest → found ≡ Some (it, behind) → get_or behind.now 0 0 ≡ stop → 1 ≤ length behind.now
    → item_at rest ≡ Some (it, stop ∷ take (length behind.now - 1) (drop 1 behind.now))
found_before rest found it behind stop same is first some =
    sym same ∙ ap (option_map (λ at. (at.0, at.1.now))) is ∙ ap (λ t. Some (it, t)) (behind_stop behind.now stop first some)

-- what is behind an item and the byte behind that is shorter
pub shorter : (rest : List ℕ) (it : Item) (stop : ℕ) (more : List ℕ) → item_at rest ≡ Some (it, stop ∷ more) → length more < length rest
shorter rest it stop more found =
    let is = (item_at-only rest it (stop ∷ more) found).0 in
    omega (arith, ap length is, length-append (item_text it) (stop ∷ more))

-- the items in front, and those that are found from here on
abbrev pub AreLeft : Option (List Item × List ℕ) → List Item → List ℕ → Type 0
AreLeft whole items rest = (most : ℕ) × (length rest ≤ most) × (whole ≡ option_map (items_onto items) (items_at (suc most) rest))

onto_each : (items : List Item) (it : Item) (found : Option (List Item × List ℕ)) → option_map (items_onto items) (option_map (item_onto it) found) ≡ option_map (items_onto (items ++ it ∷ [])) found
onto_each items it None = refl
onto_each items it (Some at) = ap (λ t. Some (t, at.1)) (sym (append_assoc items (it ∷ []) at.0))

pub left_behind : (whole : Option (List Item × List ℕ)) (items new : List Item) (it : Item) (rest more : List ℕ) → item_at rest ≡ Some (it, 44 ∷ more) → new ≡ items ++ it ∷ [] → AreLeft whole items rest → AreLeft whole new more
left_behind whole items new it rest more found put (zero, few, is) = let less = shorter rest it 44 more found in absurd (omega (arith, few, less))
left_behind whole items new it rest more found put (suc most, few, is) =
    let less = shorter rest it 44 more found in (
      most,
      omega (arith, few, less),
      is ∙ ap (λ o. option_map (items_onto items) (option_and_then (λ at. items_behind (items_at (suc most)) at.0 at.1) o)) found
          ∙ onto_each items it (items_at (suc most) more) ∙ ap (λ xs. option_map (items_onto xs) (items_at (suc most) more)) (sym put),
    )

-- ---- values

-- the text of the value stands at the front
abbrev pub IsValueAt : List ℕ → Value → List ℕ → Type 0
IsValueAt rest v behind = (rest ≡ value_text v ++ behind) × (is_utf8_value v ≡ true)

list_written : (inside : List ℕ) (items : List Item) (behind : List ℕ) → IsListAt inside items behind → IsValueAt (91 ∷ inside) (value.List items) behind
unfolding value_text
list_written inside items behind is =
    (ap (λ t. 91 ∷ t) (is.0 ∙ sym (append_assoc (join_with_byte 44 (map item_text items)) (93 ∷ []) behind)), is.1)

item_written : (rest : List ℕ) (it : Item) (behind : List ℕ) → IsItemAt rest it behind → IsValueAt rest (value_of_item it) behind
unfolding value_text
item_written rest (item.Text text) behind is = is
item_written rest (item.Whole n) behind is = is
item_written rest (item.Flag b) behind is = is
item_written rest (item.Decimal n) behind is = is

value_by : (b : ℕ) (bs : List ℕ) (list : Bool) (v : Value) (behind : List ℕ) → (b == 91) ≡ list → (if list then option_map list_value (list_at bs) else option_map item_value (item_at (b ∷ bs))) ≡ Some (v, behind) → IsValueAt (b ∷ bs) v behind
value_by b bs true v behind e found =
    let (at, is, same) = mapped list_value (list_at bs) (v, behind) found in
    let here = list_written bs at.0 at.1 (list_at-only bs at.0 at.1 is) in
    subst (λ p. IsValueAt (b ∷ bs) p.0 p.1) (sym same) (ap (λ c. c ∷ bs) (eqb-true b 91 e) ∙ here.0, here.1)
value_by b bs false v behind e found =
    let (at, is, same) = mapped item_value (item_at (b ∷ bs)) (v, behind) found in
    subst (λ p. IsValueAt (b ∷ bs) p.0 p.1) (sym same) (item_written (b ∷ bs) at.0 at.1 (item_at-only (b ∷ bs) at.0 at.1 is))

pub value_at-only : (rest : List ℕ) (v : Value) (behind : List ℕ) → value_at rest ≡ Some (v, behind) → IsValueAt rest v behind
unfolding value_at
value_at-only [] v behind found = absurd (none-some (v, behind) found)
value_at-only (b ∷ bs) v behind found = value_by b bs (b == 91) v behind refl found

inner_value : (rest : List ℕ) → begins_with is_inner rest ≡ true → value_at rest ≡ option_map item_value (item_at rest)
unfolding value_at
inner_value [] inner = absurd (false≢true inner)
inner_value (b ∷ bs) inner = rw (not-true (b == 91) (and_parts (not (b == 91)) (not (b == 93)) inner).0) refl

item_value-reads : (it : Item) (behind : List ℕ) → IsReadableItem it → begins_with_stop behind ≡ true → value_at (item_text it ++ behind) ≡ Some (value_of_item it, behind)
item_value-reads it behind readable stop =
    inner_value (item_text it ++ behind) (begins_longer is_inner (item_text it) behind (item_front it readable))
    ∙ ap (option_map item_value) (item_at-reads it behind readable stop)

list_value-reads : (items : List Item) (behind : List ℕ) → AllByRecursion IsReadableItem items → value_at (value_text (value.List items) ++ behind) ≡ Some (value.List items, behind)
unfolding value_at value_text
list_value-reads items behind readable =
    ap (λ t. option_map list_value (list_at t)) (append_assoc (join_with_byte 44 (map item_text items)) (93 ∷ []) behind)
    ∙ ap (option_map list_value) (list_at-reads items behind readable)

pub value_at-reads : (v : Value) (behind : List ℕ) → IsReadable v → begins_with_stop behind ≡ true → value_at (value_text v ++ behind) ≡ Some (v, behind)
unfolding value_text
value_at-reads (value.Text text) behind readable stop = item_value-reads (item.Text text) behind readable stop
value_at-reads (value.Whole n) behind readable stop = item_value-reads (item.Whole n) behind readable stop
value_at-reads (value.Flag b) behind readable stop = item_value-reads (item.Flag b) behind readable stop
value_at-reads (value.Decimal n) behind readable stop = item_value-reads (item.Decimal n) behind readable stop
value_at-reads (value.List items) behind readable stop = list_value-reads items behind readable
