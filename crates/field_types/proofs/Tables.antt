-- Looking up a kind in the table of fields: by the definition, row by row, and by a hash of the name.
use Rattle.std.proofs.Common.{◌≡◌, ℕ, zero, suc, ◌<◌, List, [], ◌∷◌, flat_map, fold, ◌||◌, not, map, length, get_or, slice_get, option_map, is_some, Bool, true, false, Option, Some, None, option_and_then, if◌then◌else◌, refl, sym, ap, subst, ◌∙◌}
use Rattle.std.specs.Option.{option_or}
use Rattle.std.specs.Str.{bytes_eq}
use Rattle.std.specs.Borrow.{Bor}
use Rattle.std.proofs.lemmas.List.{length-map}
use Rattle.std.proofs.lemmas.Option.{none-some, get_or_from_slice_get, slice_get-get_or, slice_get-map, slice_get_within}
use Rattle.std.proofs.lemmas.Slice.Eq.{bytes_eq-Decides}
use Rattle.base_types.proofs.Places.{Key}
use Rattle.field_types.specs.Field.{kind_in, field_table, is_extra_name, type_of}
use Rattle.field_types.specs.Hash.{hash, if_named}
use Rattle.field_types.specs.Names.{bytes_in_row, row_name, rows}
use Rattle.base_types.specs.JsonText.{escaped, is_plain}
use Rattle.field_types.specs.declared.field.TheConstants as table
use Rattle.field_types.specs.declared.kind.FieldType.{FieldType}
use Rattle.field_types.specs.declared.kind.FieldType.TheVariants as type
use Rattle.base_types.proofs.Plain.{content-plain}

abbrev Table : Type 0
Table = List (Key × FieldType)

-- for the name of each row, the answer is its kind
abbrev AreAnswered : (Key → Option FieldType) → Table → Type 0
AreAnswered answer all = map (λ row. answer row.0) all ≡ map (λ row. Some row.1) all

found_at : (answer : Key → Option FieldType) (row : Key × FieldType) (all : Table) (key : Key) (kind : FieldType) (t : Bool) → bytes_eq row.0 key ≡ t → (if t then Some row.1 else kind_in all key) ≡ Some kind → answer row.0 ≡ Some row.1
    → (kind_in all key ≡ Some kind → answer key ≡ Some kind) → answer key ≡ Some kind
found_at answer row all key kind true e found here later = ap answer (sym ((bytes_eq-Decides row.0 key).0 e)) ∙ here ∙ found
found_at answer row all key kind false e found here later = later found

-- what is found in the rows is answered
found_in : (answer : Key → Option FieldType) (all : Table) (key : Key) (kind : FieldType) → AreAnswered answer all → kind_in all key ≡ Some kind → answer key ≡ Some kind
found_in answer [] key kind are found = absurd (none-some kind found)
found_in answer (row ∷ all) key kind are found =
    let here : answer row.0 ≡ Some row.1 = cc in
    let rest : AreAnswered answer all = cc in
    found_at answer row all key kind (bytes_eq row.0 key) refl found here (found_in answer all key kind rest)

-- ---- by the hash

abbrev Row : Type 0
Row = Key × FieldType

-- the kind in the row at the place of the hash
abbrev pub hashed : Key → Option FieldType
hashed key = option_and_then (if_named key) (slice_get rows (get_or table.ROWS (hash key) 0))

rows_hashed : AreAnswered hashed field_table
unfolding field_table hash rows
rows_hashed = refl

-- each row of the code stands in the definition's table
rows_defined : AreAnswered (kind_in field_table) rows
unfolding field_table rows
rows_defined = refl

row_at : (f g : Row → Option FieldType) (all : Table) (n : ℕ) (row : Row) → map f all ≡ map g all → slice_get all n ≡ Some row → f row ≡ g row
row_at f g [] n row same at = absurd (none-some row at)
row_at f g (first ∷ all) zero row same at =
    let here : f first ≡ g first = cc in
    let is : first ≡ row = cc in
    ap f (sym is) ∙ here ∙ ap g is
row_at f g (first ∷ all) (suc n) row same at = let rest : map f all ≡ map g all = cc in row_at f g all n row rest at

named_at : (key : Key) (kind : FieldType) (row : Row) (b : Bool) → bytes_eq row.0 key ≡ b → (if b then Some row.1 else None) ≡ Some kind → row ≡ (key, kind)
named_at key kind row true e is =
    let name : row.0 ≡ key = (bytes_eq-Decides row.0 key).0 e in
    let of_kind : row.1 ≡ kind = cc in
    ap (λ n. (n, row.1)) name ∙ ap (λ k. (key, k)) of_kind
named_at key kind row false e is = absurd (none-some kind is)

-- what answers a kind is the row of the name
named_row : (key : Key) (kind : FieldType) (o : Option Row) → option_and_then (if_named key) o ≡ Some kind → o ≡ Some (key, kind)
named_row key kind None is = absurd (none-some kind is)
named_row key kind (Some row) is = ap (λ r. Some r) (named_at key kind row (bytes_eq row.0 key) refl is)

-- a row of the code has the kind of its name
row_kind : (key : Key) (kind : FieldType) (n : ℕ) → slice_get rows n ≡ Some (key, kind) → kind_in field_table key ≡ Some kind
row_kind key kind n at = row_at (λ r. kind_in field_table r.0) (λ r. Some r.1) rows n (key, kind) rows_defined at

same_answer : (key : Key) (a b : Option FieldType) → hashed key ≡ a → kind_in field_table key ≡ b → a ≡ b
same_answer key (Some kind) b e f = sym (row_kind key kind (get_or table.ROWS (hash key) 0) (named_row key kind (slice_get rows (get_or table.ROWS (hash key) 0)) e)) ∙ f
same_answer key None None e f = refl
same_answer key None (Some kind) e f = sym e ∙ found_in hashed field_table key kind rows_hashed f

hash_finds : (key : Key) → hashed key ≡ kind_in field_table key
hash_finds key = same_answer key (hashed key) (kind_in field_table key) refl refl

-- ---- by the number of a row

-- a name of the table has the kind of its row
known_kind : (key : Key) (kind : FieldType) → kind_in field_table key ≡ Some kind → Some kind ≡ type_of key
unfolding type_of
known_kind key kind found = sym (ap (λ o. option_or o (if is_extra_name key then Some type.Extra else None)) found)

-- the row there has the name of that number
row_named : (n : ℕ) (row : Row) → slice_get rows n ≡ Some row → bytes_in_row n ≡ row.0
row_named n row at = get_or_from_slice_get (map row_name rows) n row.0 [] (slice_get-map row_name rows n ∙ ap (option_map row_name) at)

-- a number below the count of rows has its row
pub row_there : (n : ℕ) → n < length rows → (kind : FieldType) × (slice_get rows n ≡ Some (bytes_in_row n, kind))
row_there n within =
    let row = get_or rows n ([], type.Text) in
    let at : slice_get rows n ≡ Some row = slice_get-get_or rows n ([], type.Text) within in
    (row.1, at ∙ ap (λ name. Some (name, row.1)) (sym (row_named n row at)))

abbrev Held : Type 0
Held = Bor (List ℕ) × FieldType

abbrev held : Held → Row
held row = (row.0.now, row.1)

-- a row of the code as it stands in memory
row_read : (fields : List Held) (n : ℕ) (d : Held) → map held fields ≡ rows → n < length rows → slice_get rows n ≡ Some (held (get_or fields n d))
row_read fields n d are within =
    let there : slice_get fields n ≡ Some (get_or fields n d) = slice_get-get_or fields n d (subst (λ count. n < count) (ap length (sym are) ∙ length-map fields held) within) in
    ap (λ all. slice_get all n) (sym are) ∙ slice_get-map held fields n ∙ ap (option_map held) there

pub name_read : (fields : List Held) (i n : ℕ) (d : Held) → map held fields ≡ rows → i ≡ n → n < length rows → (get_or fields i d).0.now ≡ bytes_in_row n
name_read fields i n d are is within = ap (λ k. (get_or fields k d).0.now) is ∙ sym (row_named n (held (get_or fields n d)) (row_read fields n d are within))

pub kind_read : (fields : List Held) (i n : ℕ) (d : Held) → map held fields ≡ rows → i ≡ n → n < length rows → Some (get_or fields i d).1 ≡ type_of (bytes_in_row n)
kind_read fields i n d are is within =
    let row = held (get_or fields n d) in
    let at = row_read fields n d are within in
    ap (λ k. Some (get_or fields k d).1) is ∙ known_kind row.0 row.1 (row_kind row.0 row.1 n at) ∙ ap type_of (sym (row_named n row at))

-- what is_named says of the row of a number
named : (key : Key) (row : Row) (b : Bool) → bytes_eq row.0 key ≡ b → is_some (if b then Some row.1 else None) ≡ true → row.0 ≡ key
named key row true e is = (bytes_eq-Decides row.0 key).0 e
named key row false e is = absurd (cc)

there_named : (key : Key) (n : ℕ) (o : Option Row) → slice_get rows n ≡ o → is_some (option_and_then (if_named key) o) ≡ true → (n < length rows) × (bytes_in_row n ≡ key)
there_named key n None at is = absurd (cc)
there_named key n (Some row) at is = (slice_get_within rows n row at, row_named n row at ∙ named key row (bytes_eq row.0 key) refl is)

pub is_in_row : (key : Key) (n : ℕ) → is_some (option_and_then (if_named key) (slice_get rows n)) ≡ true → (n < length rows) × (bytes_in_row n ≡ key)
is_in_row key n is = there_named key n (slice_get rows n) refl is

is_none_of : (o : Option FieldType) → is_some o ≡ false → o ≡ None
is_none_of None is = refl
is_none_of (Some kind) is = absurd (cc)

-- a name that isn't in the row of its hash is in none
pub in_no_row : (key : Key) (n : ℕ) → n ≡ get_or table.ROWS (hash key) 0 → is_some (option_and_then (if_named key) (slice_get rows n)) ≡ false → kind_in field_table key ≡ None
in_no_row key n hashed is = sym (hash_finds key) ∙ ap (λ n. option_and_then (if_named key) (slice_get rows n)) (sym hashed) ∙ is_none_of _ is

-- ---- the names of the table stand in JSON strings as they are

abbrev has_escapes : Key → Bool
has_escapes key = fold (λ found b. found || not (is_plain b)) false key

abbrev plain_kind : Key → Option FieldType
plain_kind key = if has_escapes key then None else kind_in field_table key

rows_plain : AreAnswered plain_kind field_table
unfolding field_table
rows_plain = refl

no_escapes : (b : Bool) (o : Option FieldType) (kind : FieldType) → (if b then None else o) ≡ Some kind → b ≡ false
no_escapes true o kind is = absurd (none-some kind is)
no_escapes false o kind is = refl

pub plain_name : (key : Key) (kind : FieldType) → kind_in field_table key ≡ Some kind → flat_map escaped key ≡ key
plain_name key kind found =
    content-plain key (no_escapes (has_escapes key) (kind_in field_table key) kind (found_in plain_kind field_table key kind rows_plain found))

-- the name in a row of the code stands in JSON strings as it is
pub plain_row : (n : ℕ) → n < length rows → flat_map escaped (bytes_in_row n) ≡ bytes_in_row n
plain_row n within =
    let there = row_there n within in
    plain_name (bytes_in_row n) there.0 (row_kind (bytes_in_row n) there.0 n there.1)
