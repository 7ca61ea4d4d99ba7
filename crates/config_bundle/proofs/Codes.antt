-- A bundle that is read is the bundle that was written, and what was written is read again.
use Rattle.std.proofs.Common.{◌≡◌, ◌^◌, ◌==◌, ◌++◌, ℕ, List, [], ◌∷◌, Option, Some, None, Bool, true, false, length, refl, sym, ◌∙◌, ap, arith}
use Rattle.std.specs.Prelude.{option_and_then, if◌then◌else◌, Err}
use Rattle.std.specs.Int.{w16, w32}
use Rattle.std.specs.Str.{is_utf8}
use Rattle.std.proofs.lemmas.Bool.{eqb-true}
use Rattle.std.proofs.lemmas.List.{append-nil}
use Rattle.std.proofs.lemmas.Str.{IsUtf8-from_is_utf8, is_utf8-from_IsUtf8}
use Rattle.base_types.specs.Lists.{AreBytes}
use Rattle.stored_types.specs.Code.{framed_at, list_at, name, IsBlob, IsList}
use Rattle.stored_types.specs.Coded.{both, made, Fails}
use Rattle.stored_types.specs.declared.code_fault.CodeFault.{CodeFault}
use Rattle.stored_types.specs.declared.code_fault.CodeFault.TheVariants as code
use Rattle.config_bundle.specs.Reading.{of_code, IsReadAs}
use Rattle.stored_types.proofs.Readers.{Law, both_law, guard_some, made_law, tested_law}
use Rattle.stored_types.proofs.FieldLaws.{blob_law, framed_law, list_law, wide16}
use Rattle.config_bundle.specs.declared.bundle.Bundle.{Bundle}
use Rattle.config_bundle.specs.Bundle.{bundle_at, bundle_code, bundle_in, file_at, file_code, file_name_at, names_rise, whole, IsBundle, IsFile, IsFileName}

pub file_name_law : Law file_name_at name IsFileName
unfolding file_name_at
file_name_law = tested_law is_utf8 (framed_law w16 (2 ^ 16) wide16) (λ t p. (p.0, is_utf8-from_IsUtf8 t p.1)) (λ t short test. (short, IsUtf8-from_is_utf8 t test))

pub file_law : Law file_at file_code IsFile
file_law = both_law file_name_law blob_law

-- the parts of a bundle, in any order of the names
record ArePartsOf (b : Bundle) : Type 0 where
  runtime : IsBlob b.runtime
  files : IsList IsFile b.files

parts_law : Law (made (λ (runtime, files). record { runtime = runtime; files = files }) (both (framed_at w32) (list_at file_at))) bundle_code ArePartsOf
parts_law = made_law (λ (runtime, files). record { runtime = runtime; files = files }) (both_law blob_law (list_law file_law)) bundle_code ArePartsOf (λ a. refl)
    (λ a fit. record { runtime = fit.0; files = fit.1 }) (λ b fit. ((b.runtime, b.files), refl, (fit.runtime, fit.files)))

pub bundle_law : Law bundle_at bundle_code IsBundle
unfolding bundle_at
bundle_law = tested_law (λ b. names_rise b.files) parts_law (λ b is. (record { runtime = is.runtime; files = is.files }, is.order))
    (λ b fit rise. record { runtime = fit.runtime; files = fit.files; order = rise })

-- ---- bytes with nothing behind the code

pub reads_back : (b : Bundle) → IsBundle b → bundle_in (bundle_code b) ≡ Some b
unfolding bundle_in
reads_back b is =
    let again : bundle_at (bundle_code b ++ []) ≡ Some (b, []) = bundle_law.again b [] is in
    let read : bundle_at (bundle_code b) ≡ Some (b, []) = ap bundle_at (sym (append-nil (bundle_code b))) ∙ again in
    ap (option_and_then whole) read

none_left : (es : List ℕ) → length es ≡ 0 → es ≡ []
none_left [] h = refl
none_left (e ∷ es) h = absurd (omega arith)

-- the bundle and the bytes behind it, of which there are none
opened : (o : Option (Bundle × List ℕ)) (b : Bundle) → option_and_then whole o ≡ Some b → o ≡ Some (b, [])
opened None b is = absurd (cc)
opened (Some read) b is =
    let test = guard_some (length read.1 == 0) read.0 b is in
    let rest : read.1 ≡ [] = none_left read.1 (eqb-true (length read.1) 0 test.0) in
    ap (λ (x : Bundle). Some (x, read.1)) test.1 ∙ ap (λ (x : List ℕ). Some (b, x)) rest

pub was_read : (bytes : List ℕ) (b : Bundle) → AreBytes bytes → bundle_in bytes ≡ Some b → (bundle_code b ≡ bytes) × IsBundle b
unfolding bundle_in
was_read bytes b are is =
    let took = bundle_law.takes bytes (b, []) are (opened (bundle_at bytes) b is) in
    (sym (took.0.parts ∙ append-nil (bundle_code b)), took.1)

-- ---- what the parts that were read are together

abbrev pub Parts : Type 0
Parts = (List ℕ × List (List ℕ × List ℕ)) × List ℕ

abbrev pub parts_at : List ℕ → Option Parts
parts_at bytes = both (framed_at w32) (list_at file_at) bytes

abbrev joined : List ℕ → List (List ℕ × List ℕ) → Bundle
joined runtime files = record { runtime = runtime; files = files }

abbrev found : Parts → Option (Bundle × List ℕ)
found parts = Some (joined parts.0.0 parts.0.1, parts.1)

abbrev risen : Bundle × List ℕ → Option (Bundle × List ℕ)
risen read = if names_rise read.0.files then Some read else None

parts_of : Option Parts → Option Bundle
parts_of o = option_and_then whole (option_and_then risen (option_and_then found o))

of_parts : (bytes : List ℕ) → bundle_in bytes ≡ parts_of (parts_at bytes)
unfolding bundle_in bundle_at parts_of
of_parts bytes = refl

pub bundle_of_parts : (bytes rest runtime : List ℕ) (files : List (List ℕ × List ℕ)) → parts_at bytes ≡ Some ((runtime, files), rest) → (length rest == 0) ≡ true → names_rise files ≡ true → bundle_in bytes ≡ Some (joined runtime files)
unfolding parts_of
bundle_of_parts bytes rest runtime files read none rise =
    of_parts bytes ∙ ap parts_of read ∙ ap (λ t. option_and_then whole (if t then Some (joined runtime files, rest) else None)) rise ∙ ap (λ t. if t then Some (joined runtime files) else None) none

whole_of_none : (b : Bool) (x : Bundle × List ℕ) → (length x.1 == 0) ≡ false → option_and_then whole (if b then Some x else None) ≡ None
whole_of_none true x left = ap (λ t. if t then Some x.0 else None) left
whole_of_none false x left = refl

pub no_bundle_left : (bytes rest runtime : List ℕ) (files : List (List ℕ × List ℕ)) → parts_at bytes ≡ Some ((runtime, files), rest) → (length rest == 0) ≡ false → bundle_in bytes ≡ None
unfolding parts_of
no_bundle_left bytes rest runtime files read left =
    of_parts bytes ∙ ap parts_of read ∙ whole_of_none (names_rise files) (joined runtime files, rest) left

pub no_bundle_falls : (bytes rest runtime : List ℕ) (files : List (List ℕ × List ℕ)) → parts_at bytes ≡ Some ((runtime, files), rest) → names_rise files ≡ false → bundle_in bytes ≡ None
unfolding parts_of
no_bundle_falls bytes rest runtime files read falls =
    of_parts bytes ∙ ap parts_of read ∙ ap (λ t. option_and_then whole (if t then Some (joined runtime files, rest) else None)) falls

pub no_parts : (bytes : List ℕ) (e : CodeFault) → Fails e (parts_at bytes) → IsReadAs (bundle_in bytes) (Err (of_code e))
unfolding parts_of
no_parts bytes code.Bad none = of_parts bytes ∙ ap parts_of none
no_parts bytes code.OutOfMemory none = tt
