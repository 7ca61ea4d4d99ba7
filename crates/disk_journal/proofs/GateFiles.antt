-- A gate file can be read in one way.
use Rattle.std.proofs.Common.{◌≡◌, ◌≢◌, ◌<◌, ◌^◌, inl, inr, ℕ, List, [], ◌∷◌, ◌++◌, length, take, Option, Some, None, refl, sym, ◌∙◌, ap, arith, append_assoc, length-append}
use Rattle.std.specs.Int.{to_be_bytes, from_be_bytes, w64}
use Rattle.std.proofs.lemmas.Nat.{from_be_bytes-to_be_bytes_8}
use Rattle.std.proofs.lemmas.List.{append_cancel_left, take_at}
use Rattle.disk_journal.specs.declared.header.Heading.{Heading}
use Rattle.disk_journal.specs.GateFile.{header, open_record, open_records, gate_file, HaveLengths, HasBodies, HasRecords, BeginsWithRecord, IsCutAt, IsDamagedAt, IsHeadless}

pub length_header : (heading : Heading) → length (header heading) ≡ 16
length_header heading = refl

pub word_is_one : (m n : ℕ) → m < 2 ^ 64 → n < 2 ^ 64 → to_be_bytes w64 m ≡ to_be_bytes w64 n → m ≡ n
word_is_one m n short_m short_n same = sym (from_be_bytes-to_be_bytes_8 m short_m) ∙ ap (from_be_bytes w64) same ∙ from_be_bytes-to_be_bytes_8 n short_n

-- equal lists come apart at equal lengths
pub parted : (a b x y : List ℕ) → length a ≡ length b → a ++ x ≡ b ++ y → (a ≡ b) × (x ≡ y)
parted [] [] x y size same = (refl, same)
parted [] (b ∷ bs) x y size same = absurd (omega (arith, size))
parted (a ∷ front) [] x y size same = absurd (omega (arith, size))
parted (a ∷ front) (b ∷ bs) x y size same =
    let head : a ≡ b = cc in
    let rest : front ++ x ≡ bs ++ y = cc in
    let more = parted front bs x y (omega (arith, size)) rest in
    ((λ i. head i ∷ more.0 i), more.1)

record_split : (body x : List ℕ) → open_record body ++ x ≡ 1 ∷ (to_be_bytes w64 (length body) ++ (body ++ x))
record_split body x = ap (λ l. 1 ∷ l) (append_assoc (to_be_bytes w64 (length body)) body x)

pub record_is_one : (a b x y : List ℕ) → length a < 2 ^ 64 → length b < 2 ^ 64 → open_record a ++ x ≡ open_record b ++ y → (a ≡ b) × (x ≡ y)
record_is_one a b x y short_a short_b same =
    let words : to_be_bytes w64 (length a) ++ (a ++ x) ≡ to_be_bytes w64 (length b) ++ (b ++ y) = (let e = sym (record_split a x) ∙ same ∙ record_split b y in cc) in
    let parts = parted (to_be_bytes w64 (length a)) (to_be_bytes w64 (length b)) (a ++ x) (b ++ y) refl words in
    parted a b x y (word_is_one (length a) (length b) short_a short_b parts.0) parts.1

-- some gate stands behind whole records
pub record GateBehind (bodies : List (List ℕ)) (gate : ℕ) (behind : List ℕ) : Type 0 where
  pub first : ℕ
  pub rest : List ℕ
  pub is : open_records bodies ++ gate ∷ behind ≡ first ∷ rest

gate_behind : (bodies : List (List ℕ)) (gate : ℕ) (behind : List ℕ) → GateBehind bodies gate behind
gate_behind [] gate behind = record { first = gate; rest = behind; is = refl }
gate_behind (body ∷ bodies) gate behind = record { first = 1; rest = _; is = refl }

begins : (body : List ℕ) (bodies : List (List ℕ)) (gate : ℕ) (behind bytes : List ℕ) → length body < 2 ^ 64 → bytes ≡ open_records (body ∷ bodies) ++ gate ∷ behind → BeginsWithRecord bytes
begins body bodies gate behind bytes short is =
    let next = gate_behind bodies gate behind in
    record { body = body; gate = next.first; behind = next.rest; lengths = short; content = is ∙ append_assoc (open_record body) (open_records bodies) (gate ∷ behind) ∙ ap (λ l. open_record body ++ l) next.is }

-- records up to where no whole record begins are read in one way
pub records_are_one : (front bs : List (List ℕ)) (g h : ℕ) (x y : List ℕ) → HaveLengths front → HaveLengths bs → (BeginsWithRecord (g ∷ x) → ⊥) → (BeginsWithRecord (h ∷ y) → ⊥)
    → open_records front ++ g ∷ x ≡ open_records bs ++ h ∷ y → (front ≡ bs) × (g ∷ x ≡ h ∷ y)
records_are_one [] [] g h x y short_a short_b end_a end_b same = (refl, same)
records_are_one [] (b ∷ bs) g h x y short_a short_b end_a end_b same = absurd (end_a (begins b bs h y (g ∷ x) short_b.0 same))
records_are_one (a ∷ front) [] g h x y short_a short_b end_a end_b same = absurd (end_b (begins a front g x (h ∷ y) short_a.0 (sym same)))
records_are_one (a ∷ front) (b ∷ bs) g h x y short_a short_b end_a end_b same =
    let apart = sym (append_assoc (open_record a) (open_records front) (g ∷ x)) ∙ same ∙ append_assoc (open_record b) (open_records bs) (h ∷ y) in
    let here = record_is_one a b _ _ short_a.0 short_b.0 apart in
    let rest = records_are_one front bs g h x y short_a.1 short_b.1 end_a end_b here.1 in
    ((λ i. here.0 i ∷ rest.0 i), rest.1)

pub closed_ends : (gate : ℕ) (behind : List ℕ) → gate ≢ 1 → BeginsWithRecord (gate ∷ behind) → ⊥
closed_ends gate behind closed begun = let same : gate ≡ 1 = (let e = begun.content in cc) in closed same

pub file_split : (heading : Heading) (bodies : List (List ℕ)) (gate : ℕ) (behind : List ℕ) → gate_file heading bodies gate ++ behind ≡ header heading ++ (open_records bodies ++ gate ∷ behind)
file_split heading bodies gate behind =
    append_assoc (header heading ++ open_records bodies) (gate ∷ []) behind ∙ append_assoc (header heading) (open_records bodies) (gate ∷ behind)

pub bodies_are_one : (heading : Heading) (a b : List (List ℕ)) (file : List ℕ) → HasBodies heading a file → HasBodies heading b file → a ≡ b
bodies_are_one heading a b file has_a has_b =
    let same = sym (file_split heading a has_a.gate has_a.behind) ∙ sym has_a.content ∙ has_b.content ∙ file_split heading b has_b.gate has_b.behind in
    (records_are_one a b has_a.gate has_b.gate has_a.behind has_b.behind has_a.lengths has_b.lengths (closed_ends _ _ has_a.closed) (closed_ends _ _ has_b.closed) (append_cancel_left (header heading) _ _ same)).0

cut_split : (heading : Heading) (bodies : List (List ℕ)) (rest : List ℕ) → header heading ++ open_records bodies ++ rest ≡ header heading ++ (open_records bodies ++ rest)
cut_split heading bodies rest = append_assoc (header heading) (open_records bodies) rest

front_of_cut : (heading : Heading) (bodies : List (List ℕ)) (rest file : List ℕ) → file ≡ header heading ++ open_records bodies ++ rest → take 16 file ≡ header heading
front_of_cut heading bodies rest file is = ap (take 16) (is ∙ cut_split heading bodies rest) ∙ take_at (header heading) (open_records bodies ++ rest) 16 refl

long_of_cut : (heading : Heading) (bodies : List (List ℕ)) (gate : ℕ) (behind : List ℕ) → header heading ++ open_records bodies ++ gate ∷ behind ≡ header heading → ⊥
long_of_cut heading bodies gate behind is =
    omega (arith, ap length is, length-append (header heading ++ open_records bodies) (gate ∷ behind), length-append (header heading) (open_records bodies), length_header heading)

pub damaged_has_no_bodies : (heading : Heading) (at : ℕ) (bodies : List (List ℕ)) (file : List ℕ) → IsDamagedAt heading file at → HasBodies heading bodies file → ⊥
damaged_has_no_bodies heading at bodies file (inl other) has =
    other.1 (front_of_cut heading bodies (has.gate ∷ has.behind) file (has.content ∙ append_assoc (header heading ++ open_records bodies) (has.gate ∷ []) has.behind))
damaged_has_no_bodies heading at bodies file (inr (inl ends)) has =
    long_of_cut heading bodies has.gate has.behind (sym (append_assoc (header heading ++ open_records bodies) (has.gate ∷ []) has.behind) ∙ sym has.content ∙ ends.1)
damaged_has_no_bodies heading at bodies file (inr (inr cut)) has =
    let same = sym (cut_split heading cut.bodies (1 ∷ cut.behind)) ∙ sym cut.content ∙ has.content ∙ file_split heading bodies has.gate has.behind in
    let rest = (records_are_one cut.bodies bodies 1 has.gate cut.behind has.behind cut.lengths has.lengths cut.cut (closed_ends _ _ has.closed) (append_cancel_left (header heading) _ _ same)).1 in
    has.closed (cc)

-- a file is cut at one place, behind the same records
cuts_are_one : (heading : Heading) (at other : ℕ) (file : List ℕ) (a : IsCutAt heading file at) (b : IsCutAt heading file other) → (a.bodies ≡ b.bodies) × (at ≡ other)
cuts_are_one heading at other file a b =
    let same = sym (cut_split heading a.bodies (1 ∷ a.behind)) ∙ sym a.content ∙ b.content ∙ cut_split heading b.bodies (1 ∷ b.behind) in
    let bodies = (records_are_one a.bodies b.bodies 1 1 a.behind b.behind a.lengths b.lengths a.cut b.cut (append_cancel_left (header heading) _ _ same)).0 in
    (bodies, a.place ∙ ap (λ bs. length (header heading ++ open_records bs)) bodies ∙ sym b.place)

pub damage_is_at_one_place : (heading : Heading) (at other : ℕ) (file : List ℕ) → IsDamagedAt heading file at → IsDamagedAt heading file other → at ≡ other
damage_is_at_one_place heading at other file (inl a) (inl b) = a.0 ∙ sym b.0
damage_is_at_one_place heading at other file (inl a) (inr (inl b)) = absurd (a.1 (ap (take 16) b.1))
damage_is_at_one_place heading at other file (inl a) (inr (inr b)) = absurd (a.1 (front_of_cut heading b.bodies (1 ∷ b.behind) file b.content))
damage_is_at_one_place heading at other file (inr (inl a)) (inl b) = absurd (b.1 (ap (take 16) a.1))
damage_is_at_one_place heading at other file (inr (inl a)) (inr (inl b)) = a.0 ∙ sym b.0
damage_is_at_one_place heading at other file (inr (inl a)) (inr (inr b)) = absurd (long_of_cut heading b.bodies 1 b.behind (sym b.content ∙ a.1))
damage_is_at_one_place heading at other file (inr (inr a)) (inl b) = absurd (b.1 (front_of_cut heading a.bodies (1 ∷ a.behind) file a.content))
damage_is_at_one_place heading at other file (inr (inr a)) (inr (inl b)) = absurd (long_of_cut heading a.bodies 1 a.behind (sym a.content ∙ b.1))
damage_is_at_one_place heading at other file (inr (inr a)) (inr (inr b)) = (cuts_are_one heading at other file a b).1

-- ---- whole records, and where they are cut

-- a file without records has none
pub headless_has_no_records : (heading : Heading) (at : ℕ) (bodies : List (List ℕ)) (cut : Option ℕ) (file : List ℕ) → IsHeadless heading file at → HasRecords heading bodies cut file → ⊥
headless_has_no_records heading at bodies None file (inl other) has = damaged_has_no_bodies heading at bodies file (inl other) has
headless_has_no_records heading at bodies None file (inr ends) has = damaged_has_no_bodies heading at bodies file (inr (inl ends)) has
headless_has_no_records heading at bodies (Some place) file (inl other) (cut, same) = other.1 (front_of_cut heading cut.bodies (1 ∷ cut.behind) file cut.content)
headless_has_no_records heading at bodies (Some place) file (inr ends) (cut, same) = long_of_cut heading cut.bodies 1 cut.behind (sym cut.content ∙ ends.1)

-- nor is it without them at two places
pub headless_at_one_place : (heading : Heading) (at other : ℕ) (file : List ℕ) → IsHeadless heading file at → IsHeadless heading file other → at ≡ other
headless_at_one_place heading at other file (inl a) (inl b) = a.0 ∙ sym b.0
headless_at_one_place heading at other file (inl a) (inr b) = absurd (a.1 (ap (take 16) b.1))
headless_at_one_place heading at other file (inr a) (inl b) = absurd (b.1 (ap (take 16) a.1))
headless_at_one_place heading at other file (inr a) (inr b) = a.0 ∙ sym b.0

-- they are read in one way
pub has_records_once : (heading : Heading) (a b : List (List ℕ)) (x y : Option ℕ) (file : List ℕ) → HasRecords heading a x file → HasRecords heading b y file → (a ≡ b) × (x ≡ y)
has_records_once heading a b None None file has_a has_b = (bodies_are_one heading a b file has_a has_b, refl)
has_records_once heading a b None (Some y) file has_a (cut, same) = absurd (damaged_has_no_bodies heading y a file (inr (inr cut)) has_a)
has_records_once heading a b (Some x) None file (cut, same) has_b = absurd (damaged_has_no_bodies heading x b file (inr (inr cut)) has_b)
has_records_once heading a b (Some x) (Some y) file (cut, same) (other, alike) =
    let one = cuts_are_one heading x y file cut other in
    (sym same ∙ one.0 ∙ alike, ap Some one.1)
