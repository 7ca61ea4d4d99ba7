-- A state that goes on from another: both are the same where all lines are sealed, and what is sealed of each output stands in its file.
use Rattle.std.proofs.Common.{◌≡◌, ◌↔◌, ◌≤◌, ◌<◌, ◌+◌, ◌-◌, ◌^◌, ◌==◌, ℕ, zero, suc, Bool, true, false, Option, Some, unwrap_or, List, [], ◌∷◌, ◌++◌, length, get_or, map, take, drop, sum_by, flat_map, refl, sym, ap, ap₂, subst, ◌∙◌, arith, length-append}
use Rattle.std.specs.List.{slice_get}
use Rattle.std.specs.Option.{IsSomeAnd}
use Rattle.std.proofs.Math.Seq.{take-append_seam}
use Rattle.std.proofs.lemmas.Bool.{eqb-true, eqb-false}
use Rattle.std.proofs.lemmas.Grind.{flat_map-append}
use Rattle.std.proofs.lemmas.List.Sums.{sum_by-append}
use Rattle.std.proofs.lemmas.Option.{slice_get_within}
use Rattle.stored_types.specs.Code.{blob, list, name, number}
use Rattle.stored_types.specs.Hand.{hand}
use Rattle.stored_types.specs.Message.{dump}
use Rattle.stored_types.specs.Queue.{queue}
use Rattle.edge_traits.specs.Disk.{Image}
use Rattle.out_files.specs.Output.{lines_text}
use Rattle.step_code.specs.declared.base.Base.{Base}
use Rattle.step_code.specs.declared.output.Output.{Output}
use Rattle.step_code.specs.Code.{cache, feed, heads, output}
use Rattle.step_code.specs.Rules.{Meaning}
use Rattle.step_code.specs.Sound.{IsSound}
use Rattle.step_code.specs.Spent.{last_given, out_length}
use Rattle.core_state.specs.Sealing.{sealed_out, sealed_whole, HasSmallOutput, HaveSmallOutputs}
use Rattle.store_image.specs.Files.{out_file}
use Rattle.store_image.specs.Stands.{AreSealedFrom, IsSealedFrom, IsSealOf}
use Rattle.store_image.proofs.Sealed.{same_lengths, text_length}
use Rattle.store_audit.specs.Audit.{GoesOnFrom, HasSealed, HaveSealed}
use Rattle.store_audit.specs.Sealed.{AllHaveFronts, HasFront, StandsAt}

-- ---- one output

-- the text of lines begins with that of those in front
pub text_begins : (lines front last : List (List ℕ)) (n : ℕ) → lines ≡ front ++ last → n ≡ length (lines_text front) → take n (lines_text lines) ≡ lines_text front
text_begins lines front last n splits long =
    ap (λ k. take k (lines_text lines)) long
    ∙ ap (λ (ls : List (List ℕ)). take (length (lines_text front)) (lines_text ls)) splits
    ∙ ap (take (length (lines_text front))) (flat_map-append (λ (l : List ℕ). l ++ 10 ∷ []) front last)
    ∙ take-append_seam (lines_text front) (lines_text last)

bytes_on : (o sealed : Output) (file : List ℕ) → sealed_out o ≡ sealed_out sealed → (found : HasFront o.sealed_bytes o.lines sealed.lines file) → sealed.sealed_bytes ≡ o.sealed_bytes + length (lines_text found.front)
bytes_on o sealed file same found =
    omega (
      arith,
      ap (λ (x : Output). x.sealed_bytes) same,
      text_length found.front,
      sum_by-append (λ (l : List ℕ). length l + 1) found.front sealed.lines,
      ap (sum_by (λ (l : List ℕ). length l + 1)) found.splits,
    )

-- outputs that are the same where all lines are sealed, of which one has the last of the lines of the other
one_seals : (o sealed : Output) (file : List ℕ) → sealed_out o ≡ sealed_out sealed → HasFront o.sealed_bytes o.lines sealed.lines file → IsSealedFrom o sealed
one_seals o sealed file same found = record {
  bot = sym (ap (λ (x : Output). x.bot) same);
  front = found.front;
  lines = found.splits;
  count = omega (arith, ap (λ (x : Output). x.sealed_lines) same, ap length found.splits, length-append found.front sealed.lines);
  bytes = bytes_on o sealed file same found;
}

one_has : (o sealed : Output) (file : List ℕ) → sealed_out o ≡ sealed_out sealed → HasFront o.sealed_bytes o.lines sealed.lines file → HasSealed o sealed file
one_has o sealed file same found =
    let more : sealed.sealed_bytes - o.sealed_bytes ≡ length (lines_text found.front) = omega (arith, bytes_on o sealed file same found) in
    ap (λ n. take n (drop o.sealed_bytes file)) more ∙ found.stands ∙ sym (text_begins o.lines found.front sealed.lines (sealed.sealed_bytes - o.sealed_bytes) found.splits more)

-- so it is where more lines are sealed
pub front_has : (o sealed : Output) (file : List ℕ) (seal : IsSealedFrom o sealed) → HasSealed o sealed file → StandsAt (lines_text seal.front) o.sealed_bytes file
front_has o sealed file seal has =
    let more : sealed.sealed_bytes - o.sealed_bytes ≡ length (lines_text seal.front) = omega (arith, seal.bytes) in
    ap (λ n. take n (drop o.sealed_bytes file)) (sym more) ∙ has ∙ text_begins o.lines seal.front sealed.lines (sealed.sealed_bytes - o.sealed_bytes) seal.lines more

one_front : (o sealed : Output) (file : List ℕ) → IsSealedFrom o sealed → HasSealed o sealed file → HasFront o.sealed_bytes o.lines sealed.lines file
one_front o sealed file seal has = record { front = seal.front; splits = seal.lines; stands = front_has o sealed file seal has }

one_same : (o sealed : Output) → IsSealedFrom o sealed → sealed_out o ≡ sealed_out sealed
one_same o sealed seal =
    let bytes : out_length o ≡ out_length sealed = ap (λ (ns : List ℕ). get_or ns 0 0) (same_lengths (o ∷ []) (sealed ∷ []) (seal, refl)) in
    let count : o.sealed_lines + length o.lines ≡ sealed.sealed_lines + length sealed.lines = omega (arith, seal.count, ap length seal.lines, length-append seal.front sealed.lines) in
    λ i. record { bot = sym seal.bot i; sealed_bytes = bytes i; sealed_lines = count i; lines = [] }

-- ---- outputs

-- the fronts of these outputs, the first of which is output k
abbrev Fronts : ℕ → List Output → List Output → Image → Type 0
Fronts k os ss image = (j n : ℕ) (o sealed : Output) → n ≡ k + j → slice_get os j ≡ Some o → slice_get ss j ≡ Some sealed → HasFront o.sealed_bytes o.lines sealed.lines (image (out_file n))

all_seal : (k : ℕ) (os ss : List Output) (image : Image) → map sealed_out os ≡ map sealed_out ss → Fronts k os ss image → AreSealedFrom os ss
all_seal k [] [] image same each = refl
all_seal k [] (s ∷ ss) image same each = absurd (omega (arith, ap length same))
all_seal k (o ∷ os) [] image same each = absurd (omega (arith, ap length same))
all_seal k (o ∷ os) (s ∷ ss) image same each = (
  one_seals o s (image (out_file k)) (ap (λ (l : List Output). get_or l 0 (sealed_out o)) same) (each 0 k o s (omega arith) refl refl),
  all_seal (suc k) os ss image (ap (drop 1) same) (λ j n a b is there here. each (suc j) n a b (omega (arith, is)) there here),
)

all_have : (k : ℕ) (os ss : List Output) (image : Image) → map sealed_out os ≡ map sealed_out ss → Fronts k os ss image → HaveSealed k os ss image
all_have k [] ss image same each = tt
all_have k (o ∷ os) [] image same each = tt
all_have k (o ∷ os) (s ∷ ss) image same each = (
  one_has o s (image (out_file k)) (ap (λ (l : List Output). get_or l 0 (sealed_out o)) same) (each 0 k o s (omega arith) refl refl),
  all_have (suc k) os ss image (ap (drop 1) same) (λ j n a b is there here. each (suc j) n a b (omega (arith, is)) there here),
)

all_fronts : (k : ℕ) (os ss : List Output) (image : Image) → AreSealedFrom os ss → HaveSealed k os ss image → Fronts k os ss image
all_fronts k [] ss image seals has j n o sealed is there here = absurd (omega (arith, slice_get_within [] j o there))
all_fronts k (x ∷ os) [] image seals has j n o sealed is there here = absurd seals
all_fronts k (x ∷ os) (y ∷ ss) image seals has zero n o sealed is there here =
    let file = image (out_file k) in
    let one : x ≡ o = ap (λ f. unwrap_or f x) there in
    let other : y ≡ sealed = ap (λ f. unwrap_or f y) here in
    subst (λ (i : ℕ). HasFront o.sealed_bytes o.lines sealed.lines (image (out_file i))) (omega (arith, is))
    (subst (λ (a : Output). HasFront a.sealed_bytes a.lines sealed.lines file) one (subst (λ (b : Output). HasFront x.sealed_bytes x.lines b.lines file) other (one_front x y file seals.0 has.0)))
all_fronts k (x ∷ os) (y ∷ ss) image seals has (suc j) n o sealed is there here = all_fronts (suc k) os ss image seals.1 has.1 j n o sealed (omega (arith, is)) there here

same_outs : (os ss : List Output) → AreSealedFrom os ss → map sealed_out os ≡ map sealed_out ss
same_outs [] ss none = ap (map sealed_out) (sym none)
same_outs (o ∷ os) [] bad = absurd bad
same_outs (o ∷ os) (s ∷ ss) seals = ap₂ (λ (x : Output) (xs : List Output). x ∷ xs) (one_same o s seals.0) (same_outs os ss seals.1)

-- ---- states

same_whole : (s base : Base) → IsSealOf s base → sealed_whole s ≡ sealed_whole base
same_whole s base seal = ap (λ (outs : List Output). record s { outs = outs }) (same_outs s.outs base.outs seal.outs) ∙ sym (ap sealed_whole seal.same)

-- a state goes on from another that is the same where all lines are sealed, exactly where what is sealed stands in the files
pub goes_by : (s base : Base) (files : Image) (is : Bool) → sealed_whole s ≡ sealed_whole base → (is ≡ true) ↔ AllHaveFronts s.outs base.outs files → (is ≡ true) ↔ GoesOnFrom s base files
goes_by s base files is same both =
    let outs : map sealed_out s.outs ≡ map sealed_out base.outs = ap (λ (x : Base). x.outs) same in (
      λ yes.
          let each : Fronts 0 s.outs base.outs files = λ j n o sealed at there here. subst (λ (i : ℕ). HasFront o.sealed_bytes o.lines sealed.lines (files (out_file i))) (omega (arith, at)) (both.0 yes j o sealed there here) in
          record {
            seals = record { outs = all_seal 0 s.outs base.outs files outs each; same = sym (ap (λ (x : Base). record x { outs = base.outs }) same) };
            sealed = all_have 0 s.outs base.outs files outs each;
          },
      λ goes. both.1 (λ k o sealed there here. all_fronts 0 s.outs base.outs files goes.seals.outs goes.sealed k k o sealed (omega arith) there here),
    )

-- and from no other
pub goes_from_none : (s base : Base) (files : Image) → (sealed_whole s ≡ sealed_whole base → ⊥) → GoesOnFrom s base files → ⊥
goes_from_none s base files other goes = other (same_whole s base goes.seals)

-- ---- answers

-- what doesn't hold is answered with no
pub never : {P : Type 0} → (P → ⊥) → (false ≡ true) ↔ P
never none = (λ yes. absurd (cc), λ holds. absurd (none holds))

pub unless : {P : Type 0} (is : Bool) → is ≡ false → (is ≡ true) ↔ P → P → ⊥
unless is false_is both holds = let yes = both.1 holds in absurd (cc)

-- ---- the outputs one by one

out_there : (outs : List Output) (k : ℕ) → k < length outs → (o : Output) × (slice_get outs k ≡ Some o)
out_there [] k within = absurd (omega (arith, within))
out_there (o ∷ outs) zero within = (o, refl)
out_there (o ∷ outs) (suc k) within = out_there outs k (omega (arith, within))

-- one output more
pub fronts_more : (os ss : List Output) (k : ℕ) (image : Image)
    → ((j : ℕ) (o sealed : Output) → j < k → slice_get os j ≡ Some o → slice_get ss j ≡ Some sealed → HasFront o.sealed_bytes o.lines sealed.lines (image (out_file j)))
    → ((o sealed : Output) → slice_get os k ≡ Some o → slice_get ss k ≡ Some sealed → HasFront o.sealed_bytes o.lines sealed.lines (image (out_file k)))
    → (j : ℕ) (o sealed : Output) → j < k + 1 → slice_get os j ≡ Some o → slice_get ss j ≡ Some sealed → (same : Bool) → (j == k) ≡ same → HasFront o.sealed_bytes o.lines sealed.lines (image (out_file j))
fronts_more os ss k image so_far this j o sealed below there here true same =
    let is_k = eqb-true j k same in
    subst (λ (n : ℕ). HasFront o.sealed_bytes o.lines sealed.lines (image (out_file n))) (sym is_k)
    (this o sealed (subst (λ (n : ℕ). slice_get os n ≡ Some o) is_k there) (subst (λ (n : ℕ). slice_get ss n ≡ Some sealed) is_k here))
fronts_more os ss k image so_far this j o sealed below there here false same = so_far j o sealed (omega (arith, below, eqb-false j k same)) there here

-- one that has no such front
pub no_fronts : (os ss : List Output) (k : ℕ) (image : Image) → k < length os → k < length ss
    → ((o sealed : Output) → slice_get os k ≡ Some o → slice_get ss k ≡ Some sealed → HasFront o.sealed_bytes o.lines sealed.lines (image (out_file k)) → ⊥)
    → AllHaveFronts os ss image → ⊥
no_fronts os ss k image before now none all =
    let one = out_there os k before in
    let other = out_there ss k now in
    none one.0 other.0 one.1 other.1 (all k one.0 other.0 one.1 other.1)

-- ---- small numbers

some_code : (o : Output) → 1 ≤ length (output o)
some_code o =
    omega (
      arith,
      length-append (name o.bot ++ number o.sealed_bytes ++ number o.sealed_lines) (list blob o.lines),
      length-append (name o.bot ++ number o.sealed_bytes) (number o.sealed_lines),
    )

few_of : (outs : List Output) → length outs ≤ length (flat_map output outs)
few_of [] = omega arith
few_of (o ∷ outs) = omega (arith, length-append (output o) (flat_map output outs), some_code o, few_of outs)

-- a state that a store may hold has few outputs, since its code is short
pub few_outputs : (m : Meaning) (b : Base) → IsSound m b → length b.outs ≤ last_given + 1
few_outputs m b sound =
    let front = heads b ++ list queue b.queues ++ list hand b.hands ++ list cache b.caches ++ list dump b.dumps in
    omega (
      arith,
      sound.short,
      few_of b.outs,
      length-append (front ++ list output b.outs ++ list feed b.feeds) (list name b.halted),
      length-append (front ++ list output b.outs) (list feed b.feeds),
      length-append front (list output b.outs),
    )

small_at : (outs : List Output) (k : ℕ) (o : Output) → HaveSmallOutputs outs → slice_get outs k ≡ Some o → HasSmallOutput o
small_at [] k o small is = absurd (omega (arith, slice_get_within [] k o is))
small_at (x ∷ outs) zero o small is = subst HasSmallOutput (ap (λ f. unwrap_or f x) is) small.0
small_at (x ∷ outs) (suc k) o small is = small_at outs k o small.1 is

-- an output as it is looked at
looked : (P : Output → Type 0) (found : Option Output) (o : Output) → found ≡ Some o → IsSomeAnd found P → P o
looked P found o is some = subst (λ (f : Option Output). IsSomeAnd f P) is some

pub small_text : (outs : List Output) (k sealed : ℕ) (lines : List (List ℕ)) (bot count : Output → Type 0) → k < length outs → HaveSmallOutputs outs
    → IsSomeAnd (slice_get outs k) (λ o. bot o × (sealed ≡ o.sealed_bytes) × count o × (lines ≡ o.lines)) → sealed + length (lines_text lines) < 2 ^ 64
small_text outs k sealed lines bot count within small look =
    let found = out_there outs k within in
    let o = found.0 in
    let is = looked _ (slice_get outs k) o found.1 look in
    omega (arith, (small_at outs k o small found.1).bytes, is.1, ap (λ (ls : List (List ℕ)). length (lines_text ls)) is.3, text_length o.lines)
