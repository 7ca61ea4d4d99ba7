-- The base64 of bytes is canonical for the field that has the content of a report.
use Rattle.std.proofs.Common.{◌≡◌, ℕ, zero, suc, ◌<◌, ◌+◌, ◌*◌, ◌/◌, ◌%◌, List, [], ◌∷◌, true, Option, Some, None, Result, Ok, Err, IfOk, is_some, cond, option_and_then, replicate, slice_index, if◌then◌else◌, refl, sym, ap, ◌∙◌, arith, length}
use Rattle.std.proofs.lemmas.Bool.{and_from}
use Rattle.std.proofs.lemmas.Option.{none-some}
use Rattle.base64.specs.Engines.{standard}
use Rattle.base64.specs.Rfc4648.{encode_symbols, padding_len}
use Rattle.std.specs.FinMap.{get, insert, get-insert}
use Rattle.std.specs.Ordering.{is_eq}
use Rattle.std.specs.Result.{result_ok}
use Rattle.std.proofs.lemmas.Cmp.{nat_list_cmp_total, tied_itself}
use Rattle.base_types.specs.Lists.{AreBytes}
use Rattle.base64.proofs.EngineFacts.{decode_of-encode_of}
use Rattle.base64.proofs.Tables.{all_below_at}
use Rattle.base_types.specs.declared.memory.OutOfMemory.{OutOfMemory}
use Rattle.scalar_text.specs.Raw.{raw_of, raw_text}
use Rattle.field_types.specs.Cleaning.{clean, of_text}
use Rattle.field_types.specs.Field.{type_of, field_table}
use Rattle.scalar_text.specs.Strip.{strip}
use Rattle.field_types.specs.declared.kind.FieldType.TheVariants as kind
use Rattle.field_types.specs.declared.value.Value.{Value}
use Rattle.field_types.specs.declared.value.Value.TheVariants.{Text, Whole, Flag, Decimal, List as ItemsOf}
use Rattle.field_types.proofs.KindByKind.{clean_text}
use Rattle.scalar_text.proofs.Stripped.{are_dark, is_dark, strip-dark, dark_append}
use Rattle.event_model.specs.Fields.{FieldMap, IsField, value_for}
use Rattle.feed_rows.specs.Reports.{content_in, raw_bytes, raw_key, with_raw}

-- ---- base64 has no blanks

symbol_dark : (k : ℕ) → k < 64 → is_dark (slice_index standard.encode_table k) ≡ true
symbol_dark k below = all_below_at (λ i. is_dark (slice_index standard.encode_table i)) 64 k refl below

symbols_dark : (m : List ℕ) → ((i : ℕ) → slice_index m i < 256) → are_dark (encode_symbols standard.encode_table m) ≡ true
unfolding encode_symbols
symbols_dark [] bytes = refl
symbols_dark (a ∷ []) bytes =
    let first : a < 256 = bytes 0 in
    let p : a / 4 < 64 = omega arith in
    let q : a % 4 * 16 < 64 = omega arith in
    and_from _ _ (symbol_dark (a / 4) p) (and_from _ _ (symbol_dark (a % 4 * 16) q) refl)
symbols_dark (a ∷ b ∷ []) bytes =
    let first : a < 256 = bytes 0 in
    let second : b < 256 = bytes 1 in
    let p : a / 4 < 64 = omega arith in
    let q : a % 4 * 16 + b / 16 < 64 = omega arith in
    let r : b % 16 * 4 < 64 = omega arith in
    and_from _ _ (symbol_dark (a / 4) p) (and_from _ _ (symbol_dark (a % 4 * 16 + b / 16) q) (and_from _ _ (symbol_dark (b % 16 * 4) r) refl))
symbols_dark (a ∷ b ∷ c ∷ rest) bytes =
    let first : a < 256 = bytes 0 in
    let second : b < 256 = bytes 1 in
    let third : c < 256 = bytes 2 in
    let p : a / 4 < 64 = omega arith in
    let q : a % 4 * 16 + b / 16 < 64 = omega arith in
    let r : b % 16 * 4 + c / 64 < 64 = omega arith in
    let s : c % 64 < 64 = omega arith in
    and_from _ _ (symbol_dark (a / 4) p) (and_from _ _ (symbol_dark (a % 4 * 16 + b / 16) q) (and_from _ _ (symbol_dark (b % 16 * 4 + c / 64) r) (and_from _ _ (symbol_dark (c % 64) s)
    (symbols_dark rest (λ i. bytes (suc (suc (suc i))))))))

padding_dark : (n : ℕ) → are_dark (replicate n 61) ≡ true
padding_dark zero = refl
padding_dark (suc n) = padding_dark n

raw_text-dark : (content : List ℕ) → ((i : ℕ) → slice_index content i < 256) → are_dark (raw_text content) ≡ true
raw_text-dark content bytes = dark_append (encode_symbols standard.encode_table content) (replicate (padding_len (length content)) 61) (symbols_dark content bytes) (padding_dark (padding_len (length content)))

-- ---- the field

raw_kind : type_of raw_key ≡ Some kind.Raw
unfolding type_of field_table
raw_kind = refl

kept : (text : List ℕ) (content : List ℕ) → raw_of text ≡ Some content → of_text kind.Raw text ≡ Some (Text text)
kept text content reads = rw reads refl

-- the base64 of bytes is a value of the field
pub raw_field : (content text : List ℕ) → ((i : ℕ) → slice_index content i < 256) → text ≡ raw_text content → raw_of text ≡ Some content → IsField raw_key (Text text)
unfolding value_for
raw_field content text bytes is reads =
    let dark : are_dark text ≡ true = ap are_dark is ∙ raw_text-dark content bytes in
    rw raw_kind (clean_text kind.Raw text ∙ ap (of_text kind.Raw) (strip-dark text dark) ∙ kept text content reads)

text_same : (t u : List ℕ) → Some (Text t) ≡ Some (Text u) → t ≡ u
text_same t u e = cc

read_kept : (text stripped : List ℕ) (o : Option (List ℕ)) → raw_of stripped ≡ o → (if is_some o then Some (Text stripped) else None) ≡ Some (Text text) → raw_of text ≡ None → ⊥
read_kept text stripped (Some content) reads is none =
    let same = text_same stripped text is in
    none-some content (sym none ∙ ap raw_of (sym same) ∙ reads)
read_kept text stripped None reads is none = none-some (Text text) is

canonical_read : (v : Value) → clean kind.Raw v ≡ Some v → raw_bytes v ≡ None → ⊥
unfolding clean
canonical_read (Text text) is none = read_kept text (strip text) (raw_of (strip text)) refl is none
canonical_read (Whole n) is none = none-some (Whole n) is
canonical_read (Flag b) is none = none-some (Flag b) is
canonical_read (Decimal n) is none = none-some (Decimal n) is
canonical_read (ItemsOf items) is none = none-some (ItemsOf items) is

-- a value of the field writes bytes
pub raw_reads : (v : Value) → IsField raw_key v → raw_bytes v ≡ None → ⊥
unfolding value_for
raw_reads v field none = canonical_read v (rw raw_kind at field) none

-- so a report with the field has a content
pub never_absent : (P : Type 0) (r : Result (Option (List ℕ)) OutOfMemory) (v : Value) → IsField raw_key v → IfOk r (λ bytes. bytes ≡ raw_bytes v) → IfOk r (λ content. content ≡ None → P)
never_absent P (Ok o) v field is = λ none. absurd (raw_reads v field (sym is ∙ none))
never_absent P (Err e) v field is = tt

got : (fields : FieldMap) (v : Value) → get (insert fields raw_key v) raw_key ≡ Some v
got fields v =
    get-insert nat_list_cmp_total fields raw_key v raw_key ∙ ap (λ r. cond (is_eq r) (Some v) (get fields raw_key)) (tied_itself nat_list_cmp_total raw_key)

-- the content that is given is the content that is there
pub content_back : (fields : FieldMap) (content : List ℕ) → AreBytes content → content_in (with_raw fields content) ≡ Some content
unfolding content_in with_raw
content_back fields content bytes =
    ap (option_and_then raw_bytes) (got fields (Text (raw_text content))) ∙ ap result_ok (decode_of-encode_of standard content refl bytes)
