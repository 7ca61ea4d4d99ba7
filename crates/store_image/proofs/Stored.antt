-- What is stored is one.
use Rattle.std.proofs.Common.{◌≡◌, ◌≤◌, ◌<◌, ◌^◌, codes, ℕ, List, [], ◌∷◌, ◌++◌, length, map, refl, sym, ap, subst, ◌∙◌, arith, length-append}
use Rattle.std.specs.Int.{from_be_bytes, to_be_bytes, w32, w64}
use Rattle.std.specs.List.{AllByRecursion}
use Rattle.std.proofs.lemmas.List.{append-nil}
use Rattle.std.proofs.lemmas.Nat.{from_be_bytes-to_be_bytes_4}
use Rattle.edge_traits.specs.Disk.{Image}
use Rattle.disk_journal.specs.GateFile.{header, open_records, HasBodies}
use Rattle.disk_journal.proofs.GateFiles.{bodies_are_one, file_split, parted, word_is_one}
use Rattle.stored_types.specs.Code.{number}
use Rattle.stored_types.proofs.Readers.{one_code}
use Rattle.step_code.specs.declared.base.Base.{Base}
use Rattle.step_code.specs.declared.step.Step.{Step}
use Rattle.step_code.specs.Code.{code_of_base, code_of_step, first_format, IsWritable, IsWritableBase}
use Rattle.step_code.specs.Spent.{last_given}
use Rattle.step_code.proofs.StateLaws.{base_law}
use Rattle.step_code.proofs.StepLaws.{step_law}
use Rattle.store_image.specs.Files.{root_file, generation_file, heading_of, root_heading}
use Rattle.store_image.specs.Stored.{codes_of, AreRecords, NamesLast, HoldsSteps, IsStored}

-- a step's code isn't empty
pub step_is_long : (step : Step) → 9 ≤ length (code_of_step step)
step_is_long step = omega arith

-- the same codes are those of the same steps
pub codes_are_one : (a b : List Step) → AllByRecursion IsWritable a → AllByRecursion IsWritable b → codes_of a ≡ codes_of b → a ≡ b
codes_are_one [] [] all_a all_b same = refl
codes_are_one [] (b ∷ bs) all_a all_b same = absurd (omega (arith, ap length same, length-append (code_of_step b) (codes_of bs), step_is_long b))
codes_are_one (a ∷ more) [] all_a all_b same = absurd (omega (arith, ap length same, length-append (code_of_step a) (codes_of more), step_is_long a))
codes_are_one (a ∷ more) (b ∷ bs) all_a all_b same =
    let apart = one_code step_law a b (codes_of more) (codes_of bs) all_a.0 all_b.0 same in
    let rest = codes_are_one more bs all_a.1 all_b.1 apart.1 in
    (λ i. apart.0 i ∷ rest i)

-- records hold one list of steps
pub records_are_one : (bodies : List (List ℕ)) (s t : List Step) → AreRecords bodies s → AreRecords bodies t → s ≡ t
records_are_one [] s t a b = a ∙ sym b
records_are_one (body ∷ bodies) s t a b =
    let fronts = codes_are_one a.0 b.0 a.3.writable b.3.writable (sym a.3.code ∙ b.3.code) in
    let rests = records_are_one bodies a.1 b.1 a.4 b.4 in
    a.2 ∙ (λ i. fronts i ++ rests i) ∙ sym b.2

-- the last of numbers in codes is one
numbers_last : (before other : List ℕ) (g h : ℕ) → AllByRecursion (λ n. n ≤ last_given) (before ++ g ∷ []) → AllByRecursion (λ n. n ≤ last_given) (other ++ h ∷ [])
    → map number (before ++ g ∷ []) ≡ map number (other ++ h ∷ []) → g ≡ h
numbers_last [] [] g h small_g small_h same = word_is_one g h (omega (arith, small_g.0)) (omega (arith, small_h.0)) (cc)
numbers_last [] (o ∷ []) g h small_g small_h same = absurd (cc)
numbers_last [] (o ∷ p ∷ ps) g h small_g small_h same = absurd (cc)
numbers_last (n ∷ []) [] g h small_g small_h same = absurd (cc)
numbers_last (n ∷ m ∷ ms) [] g h small_g small_h same = absurd (cc)
numbers_last (n ∷ ns) (o ∷ os) g h small_g small_h same = numbers_last ns os g h small_g.1 small_h.1 (cc)

pub named_is_one : (root : List ℕ) (g h : ℕ) → NamesLast root g → NamesLast root h → g ≡ h
named_is_one root g h a b = numbers_last a.before b.before g h a.given b.given (bodies_are_one root_heading _ _ root a.bodies b.bodies)

-- what a file of steps holds, in the only format that is known
pub known_bodies : (g : ℕ) (file : List ℕ) (base : Base) (steps : List Step) (is : HoldsSteps g file base steps) → HasBodies (heading_of first_format g) (code_of_base first_format base ∷ is.records) file
known_bodies g file base steps is = subst (λ (f : ℕ). HasBodies (heading_of f g) (code_of_base f base ∷ is.records) file) is.known is.bodies

pub known_writable : (g : ℕ) (file : List ℕ) (base : Base) (steps : List Step) → HoldsSteps g file base steps → IsWritableBase first_format base
known_writable g file base steps is = subst (λ (f : ℕ). IsWritableBase f base) is.known is.writable

pub held_is_one : (g : ℕ) (file : List ℕ) (a b : Base) (s t : List Step) → HoldsSteps g file a s → HoldsSteps g file b t → (a ≡ b) × (s ≡ t)
held_is_one g file a b s t one other =
    let bodies : code_of_base first_format a ∷ one.records ≡ code_of_base first_format b ∷ other.records =
    bodies_are_one (heading_of first_format g) _ _ file (known_bodies g file a s one) (known_bodies g file b t other) in
    let codes : code_of_base first_format a ≡ code_of_base first_format b = cc in
    let records : one.records ≡ other.records = cc in
    let base = one_code base_law a b [] [] (known_writable g file a s one) (known_writable g file b t other) (append-nil (code_of_base first_format a) ∙ codes ∙ sym (append-nil (code_of_base first_format b))) in
    (base.0, records_are_one other.records s t (subst (λ (rs : List (List ℕ)). AreRecords rs s) records one.content) other.content)

-- so is the format, which the header says
formats_are_one : (f g x y : ℕ) (bodies others : List (List ℕ)) (file : List ℕ) → f < 2 ^ 32 → g < 2 ^ 32 → HasBodies (heading_of f x) bodies file → HasBodies (heading_of g y) others file → f ≡ g
formats_are_one f g x y bodies others file small_f small_g one other =
    let one_front : file ≡ header (heading_of f x) ++ (open_records bodies ++ one.gate ∷ one.behind) = one.content ∙ file_split (heading_of f x) bodies one.gate one.behind in
    let other_front : file ≡ header (heading_of g y) ++ (open_records others ++ other.gate ∷ other.behind) = other.content ∙ file_split (heading_of g y) others other.gate other.behind in
    let headers = parted (header (heading_of f x)) (header (heading_of g y)) _ _ refl (sym one_front ∙ other_front) in
    let fronts = parted (codes "IMQJ" ++ to_be_bytes w32 f) (codes "IMQJ" ++ to_be_bytes w32 g) (to_be_bytes w64 x) (to_be_bytes w64 y) refl headers.0 in
    let words = parted (codes "IMQJ") (codes "IMQJ") (to_be_bytes w32 f) (to_be_bytes w32 g) refl fronts.0 in
    sym (from_be_bytes-to_be_bytes_4 f small_f) ∙ ap (from_be_bytes w32) words.1 ∙ from_be_bytes-to_be_bytes_4 g small_g

pub stored_is_one : (image : Image) (g h : ℕ) (a b : Base) (s t : List Step) (one : IsStored image g a s) (other : IsStored image h b t) → (g ≡ h) × (a ≡ b) × (s ≡ t) × (one.holds.format ≡ other.holds.format)
stored_is_one image g h a b s t one other =
    let same = named_is_one (image root_file) g h one.named other.named in
    let held = held_is_one h (image (generation_file h)) a b s t (subst (λ (n : ℕ). HoldsSteps n (image (generation_file n)) a s) same one.holds) other.holds in
    let bodies = code_of_base other.holds.format b ∷ other.holds.records in
    let there : HasBodies (heading_of other.holds.format g) bodies (image (generation_file g)) =
    subst (λ (n : ℕ). HasBodies (heading_of other.holds.format n) bodies (image (generation_file n))) (sym same) other.holds.bodies in
    let small : one.holds.format < 2 ^ 32 = omega (arith, one.holds.known) in
    let other_small : other.holds.format < 2 ^ 32 = omega (arith, other.holds.known) in
    let formats = formats_are_one one.holds.format other.holds.format g g (code_of_base one.holds.format a ∷ one.holds.records) bodies (image (generation_file g)) small other_small one.holds.bodies there in
    (same, held.0, held.1, formats)
