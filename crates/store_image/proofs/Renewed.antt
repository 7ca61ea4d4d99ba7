-- A generation that is left behind for the next one, which begins with all lines sealed.
use Rattle.std.proofs.Common.{◌≡◌, ◌≤◌, ◌+◌, ℕ, suc, Bool, true, false, List, [], ◌∷◌, ◌++◌, length, take, map, Some, refl, sym, ap, subst, ◌∙◌, arith, length-append, take_all}
use Rattle.std.specs.List.{AllByRecursion, slice_get}
use Rattle.std.proofs.lemmas.List.{append-nil, length-take}
use Rattle.core_state.specs.Sealing.{sealed_out, sealed_whole}
use Rattle.edge_traits.specs.Disk.{Image}
use Rattle.out_files.specs.Output.{lines_text}
use Rattle.step_code.specs.declared.base.Base.{Base}
use Rattle.step_code.specs.declared.output.Output.{Output}
use Rattle.step_code.specs.declared.step.Step.{Step}
use Rattle.step_code.specs.Code.{code_of_base, first_format}
use Rattle.step_code.specs.History.{replay}
use Rattle.step_code.specs.Rules.{Meaning}
use Rattle.step_code.specs.Sound.{longest_base}
use Rattle.store_image.specs.Files.{generation_file, out_file}
use Rattle.store_image.specs.Opens.{AreLong}
use Rattle.store_image.specs.Stands.{behind, AreArchived, AreSealedFrom, FrontStands, FrontsStand, IsArchive, IsSealedFrom, IsSealOf, IsUnsealed, Origin, Stands, WhereWhole}
use Rattle.store_image.specs.Stored.{HoldsSteps, IsStored}
use Rattle.store_image.proofs.Standing.{below_same, replay-append}
use Rattle.store_image.specs.Renewed.{AreAllLines}
use Rattle.store_image.proofs.Histories.{seals, seals_on}
use Rattle.store_image.proofs.Sealed.{text_length}
use Rattle.store_image.proofs.Unsealed.{unsealed_replay}
use Rattle.store_image.proofs.Whole.{joined_more}

-- ---- all lines sealed

one_whole : (o : Output) → IsSealedFrom o (sealed_out o)
one_whole o = record { bot = refl; front = o.lines; lines = sym (append-nil o.lines); count = refl; bytes = ap (λ n. o.sealed_bytes + n) (sym (text_length o.lines)) }

each_whole : (os : List Output) → AreSealedFrom os (map sealed_out os)
each_whole [] = refl
each_whole (o ∷ os) = (one_whole o, each_whole os)

-- sealing all lines is a sealing
pub seals_whole : (s : Base) → IsSealOf s (sealed_whole s)
seals_whole s = record { outs = each_whole s.outs; same = refl }

-- ---- one generation more behind those that are archived

archived_more : (m : Meaning) (image : Image) (h : ℕ) (s : Base) (held : List (Base × List Step)) (base : Base) (steps : List Step) → AreArchived m image h s held
    → HoldsSteps (h + length held) (image (generation_file (h + length held))) base steps → IsSealOf (behind m s held) base → AreArchived m image h s (held ++ (base, steps) ∷ [])
archived_more m image h s [] base steps each here seal = (subst (λ (n : ℕ). HoldsSteps n (image (generation_file n)) base steps) (omega arith) here, seal, tt)
archived_more m image h s (x ∷ held) base steps each here seal =
    (each.0, each.1, archived_more m image (suc h) (replay m x.0 x.1) held base steps each.2 (subst (λ (n : ℕ). HoldsSteps n (image (generation_file n)) base steps) (omega arith) here) seal)

behind_more : (m : Meaning) (s : Base) (held : List (Base × List Step)) (base : Base) (steps : List Step) → behind m s (held ++ (base, steps) ∷ []) ≡ replay m base steps
behind_more m s [] base steps = refl
behind_more m s (x ∷ held) base steps = behind_more m (replay m x.0 x.1) held base steps

-- the generation in force becomes an earlier one
below_more : (whole : Bool) (m : Meaning) (first : Base) (g : ℕ) (base next : Base) (history past steps : List Step) (image : Image) → history ≡ past ++ steps → HoldsSteps g (image (generation_file g)) base steps
    → IsSealOf (replay m base steps) next → WhereWhole whole (IsArchive m first g base past image) → WhereWhole whole (IsArchive m first (suc g) next history image)
below_more true m first g base next history past steps image splits holds seal is = record {
  held = is.held ++ (base, steps) ∷ [];
  count = omega (arith, is.count, length-append is.held ((base, steps) ∷ []));
  each = archived_more m image 0 first is.held base steps is.each (subst (λ (n : ℕ). HoldsSteps n (image (generation_file n)) base steps) (omega (arith, is.count)) holds) is.ends;
  joins = splits ∙ ap (λ ss. ss ++ steps) is.joins ∙ sym (joined_more is.held base steps);
  ends = subst (λ (s : Base). IsSealOf s next) (sym (behind_more m first is.held base steps)) seal;
}
below_more false m first g base next history past steps image splits holds seal is = tt

-- ---- the fronts of files that are all lines

-- an output whose lines are all sealed, and whose file is all of its lines
one_front : (whole sealed : Output) (file : List ℕ) → IsUnsealed whole → IsSealedFrom whole sealed → sealed.lines ≡ [] → file ≡ lines_text whole.lines → FrontStands whole sealed file
one_front whole sealed file none seal empty is =
    let front : whole.lines ≡ seal.front = seal.lines ∙ ap (λ ls. seal.front ++ ls) empty ∙ append-nil seal.front in
    let count : sealed.sealed_lines ≡ length whole.lines = omega (arith, seal.count, none.1, ap length front) in
    let all : take sealed.sealed_lines whole.lines ≡ whole.lines = ap (λ n. take n whole.lines) count ∙ take_all (length whole.lines) whole.lines (omega arith) in
    let bytes : sealed.sealed_bytes ≡ length (lines_text whole.lines) = omega (arith, seal.bytes, none.0, ap (λ ls. length (lines_text ls)) front) in
    record {
      size = ap (λ ls. length (lines_text ls)) all ∙ sym bytes;
      begins = ap (λ n. take n file) bytes ∙ ap (take (length (lines_text whole.lines))) is ∙ take_all (length (lines_text whole.lines)) (lines_text whole.lines) (omega arith) ∙ sym (ap lines_text all);
    }

-- so it is with outputs from output k on
all_fronts : (k : ℕ) (wholes outs : List Output) (image : Image) → AllByRecursion IsUnsealed wholes → AreSealedFrom wholes (map sealed_out outs)
    → ((j n : ℕ) (out : Output) → n ≡ k + j → slice_get wholes j ≡ Some out → image (out_file n) ≡ lines_text out.lines) → FrontsStand k wholes (map sealed_out outs) image
all_fronts k [] outs image none seal lines = tt
all_fronts k (whole ∷ wholes) [] image none seal lines = absurd seal
all_fronts k (whole ∷ wholes) (o ∷ outs) image none seal lines = (
  one_front whole (sealed_out o) (image (out_file k)) none.0 seal.0 refl (lines 0 k whole (omega arith) refl),
  all_fronts (suc k) wholes outs image none.1 seal.1 (λ j n out is there. lines (suc j) n out (omega (arith, is)) there),
)

-- files that begin with what is sealed are no shorter than that
pub long_whole : (k : ℕ) (wholes outs : List Output) (image : Image) → AreSealedFrom wholes outs → FrontsStand k wholes outs image → AreLong k outs image
long_whole k [] outs image none fronts = subst (λ (os : List Output). AreLong k os image) (sym none) tt
long_whole k (whole ∷ wholes) [] image seal fronts = absurd seal
long_whole k (whole ∷ wholes) (o ∷ outs) image seal fronts =
    (omega (arith, fronts.0.size, ap length fronts.0.begins, length-take o.sealed_bytes (image (out_file k))), long_whole (suc k) wholes outs image seal.1 fronts.1)

-- ---- the next generation

-- an image whose root names the next generation, which holds the sealed state and no steps, stands for the same history; its older
-- generations included
pub stands_renewed : (m : Meaning) (origin : Origin) (history : List Step) (before image : Image) (stands : Stands m origin before history)
    → ((k : ℕ) → k ≤ stands.generation → before (generation_file k) ≡ image (generation_file k))
    → AreAllLines (replay m origin.first history).outs image
    → IsStored image (suc stands.generation) (sealed_whole (replay m stands.base stands.steps)) []
    → length (code_of_base first_format (sealed_whole (replay m stands.base stands.steps))) ≤ longest_base
    → Stands m origin image history
stands_renewed m origin history before image stands same lines stored short =
    let state = replay m stands.base stands.steps in
    let from = replay m origin.first stands.past in
    let whole : replay m origin.first history ≡ replay m from stands.steps = ap (replay m origin.first) stands.splits ∙ replay-append m origin.first stands.past stands.steps in
    let sealed : IsSealOf (replay m origin.first history) (sealed_whole state) =
    subst (λ (s : Base). IsSealOf s (sealed_whole state)) (sym whole) (seals_on (replay m from stands.steps) state (sealed_whole state) (seals m from stands.base stands.steps stands.seals) (seals_whole state)) in
    let holds : HoldsSteps stands.generation (image (generation_file stands.generation)) stands.base stands.steps =
    subst (λ (file : List ℕ). HoldsSteps stands.generation file stands.base stands.steps) (same stands.generation (omega arith)) stands.stored.holds in
    record {
      generation = suc stands.generation;
      base = sealed_whole state;
      past = history;
      steps = [];
      splits = sym (append-nil history);
      stored = stored;
      seals = sealed;
      fronts = all_fronts 0 (replay m origin.first history).outs state.outs image (unsealed_replay m origin.first history stands.unsealed) sealed.outs
          (λ j n out is there. subst (λ (i : ℕ). image (out_file i) ≡ lines_text out.lines) (omega (arith, is)) (lines j out there));
      short = short;
      unsealed = stands.unsealed;
      below = below_more origin.whole m origin.first stands.generation stands.base (sealed_whole state) history stands.past stands.steps image stands.splits holds (seals_whole state)
          (below_same origin.whole m origin.first stands.generation stands.base stands.past before image (λ k less. same k (omega (arith, less))) stands.below);
    }
