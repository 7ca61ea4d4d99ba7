-- Files that stand for a history, after what a crash may have done to them.
use Rattle.std.proofs.Common.{◌≡◌, ◌≢◌, ◌≤◌, ◌<◌, ◌+◌, ◌==◌, ℕ, suc, Bool, true, false, List, [], ◌∷◌, ◌++◌, length, take, refl, sym, ap, subst, ◌∙◌, arith, append_assoc, if◌then◌else◌}
use Rattle.std.specs.List.{AllByRecursion}
use Rattle.std.proofs.Math.Seq.{take-append_seam}
use Rattle.std.proofs.lemmas.Bool.{eq-eqb, ne_eqb}
use Rattle.std.proofs.lemmas.List.{append-nil}
use Rattle.edge_traits.specs.Disk.{Image}
use Rattle.step_code.specs.declared.base.Base.{Base}
use Rattle.step_code.specs.declared.output.Output.{Output}
use Rattle.step_code.specs.declared.step.Step.{Step}
use Rattle.step_code.specs.After.{after}
use Rattle.step_code.specs.Code.{code_of_base, first_format}
use Rattle.step_code.specs.History.{replay}
use Rattle.step_code.specs.Rules.{Meaning}
use Rattle.step_code.specs.Sound.{longest_base}
use Rattle.step_code.proofs.GivenBack.{steps_after}
use Rattle.store_image.specs.Files.{generation_file, out_file}
use Rattle.store_image.specs.Stored.{HoldsSteps, IsRecord, AreRecords, IsStored}
use Rattle.store_image.specs.Stands.{AreArchived, FrontStands, FrontsStand, IsArchive, IsSealOf, IsUnsealed, Origin, Stands, WhereWhole}
use Rattle.store_image.proofs.Stored.{stored_is_one}

-- one record more
pub records_more : (bodies : List (List ℕ)) (steps : List Step) (body : List ℕ) (more : List Step) → AreRecords bodies steps → IsRecord body more → AreRecords (bodies ++ body ∷ []) (steps ++ more)
records_more [] steps body more none new = (more, [], ap (λ ss. ss ++ more) none ∙ sym (append-nil more), new, refl)
records_more (origin ∷ bodies) steps body more (front, rest, splits, here, later) new =
    (front, rest ++ more, ap (λ ss. ss ++ more) splits ∙ append_assoc front rest more, here, records_more bodies rest body more later new)

-- each step is counted
pub replay_steps : (m : Meaning) (s : Base) (history : List Step) → (replay m s history).steps ≡ s.steps + length history
replay_steps m s [] = omega arith
replay_steps m s (step ∷ history) = replay_steps m (after m s step) history ∙ omega (arith, steps_after m s step.moment step.what)

-- a file with another content
abbrev pub put_file : ℕ → List ℕ → Image → Image
put_file file content image other = if other == file then content else image other

pub put_there : (file : ℕ) (content : List ℕ) (image : Image) → put_file file content image file ≡ content
put_there file content image = rw (eq-eqb file file refl) refl

pub put_elsewhere : (file other : ℕ) (content : List ℕ) (image : Image) → other ≢ file → put_file file content image other ≡ image other
put_elsewhere file other content image apart = rw (ne_eqb other file apart) refl

-- the fronts of outputs are those of their files
pub fronts_same : (k : ℕ) (wholes sealed : List Output) (a b : Image) → ((j : ℕ) → a (out_file j) ≡ b (out_file j)) → FrontsStand k wholes sealed a → FrontsStand k wholes sealed b
fronts_same k [] sealed a b same stand = stand
fronts_same k (whole ∷ wholes) [] a b same stand = stand
fronts_same k (whole ∷ wholes) (out ∷ more) a b same stand =
    (subst (λ (file : List ℕ). FrontStands whole out file) (same k) stand.0, fronts_same (suc k) wholes more a b same stand.1)

-- archived generations are those of their files
archived_same : (m : Meaning) (h : ℕ) (s : Base) (held : List (Base × List Step)) (a b : Image) → ((k : ℕ) → k < h + length held → a (generation_file k) ≡ b (generation_file k)) → AreArchived m a h s held → AreArchived m b h s held
archived_same m h s [] a b same each = tt
archived_same m h s (held ∷ later) a b same each = (
  subst (λ (file : List ℕ). HoldsSteps h file held.0 held.1) (same h (omega arith)) each.0,
  each.1,
  archived_same m (suc h) (replay m held.0 held.1) later a b (λ k below. same k (omega (arith, below))) each.2,
)

archive_same : (m : Meaning) (first : Base) (g : ℕ) (base : Base) (past : List Step) (a b : Image) → ((k : ℕ) → k < g → a (generation_file k) ≡ b (generation_file k)) → IsArchive m first g base past a → IsArchive m first g base past b
archive_same m first g base past a b same is = record {
  held = is.held;
  count = is.count;
  each = archived_same m 0 first is.held a b (λ k below. same k (omega (arith, below, is.count))) is.each;
  joins = is.joins;
  ends = is.ends;
}

-- so is what is looked at of them
pub below_same : (whole : Bool) (m : Meaning) (first : Base) (g : ℕ) (base : Base) (past : List Step) (a b : Image) → ((k : ℕ) → k < g → a (generation_file k) ≡ b (generation_file k))
    → WhereWhole whole (IsArchive m first g base past a) → WhereWhole whole (IsArchive m first g base past b)
below_same true m first g base past a b same is = archive_same m first g base past a b same is
below_same false m first g base past a b same is = tt

-- generation g begins with what these steps of a store leave, its outputs sealed as far as their files have them
pub record IsPast (m : Meaning) (origin : Origin) (past : List Step) (base : Base) (g : ℕ) (image : Image) : Type 0 where
  pub seals : IsSealOf (replay m origin.first past) base
  pub fronts : FrontsStand 0 (replay m origin.first past).outs base.outs image
  pub short : length (code_of_base first_format base) ≤ longest_base
  pub unsealed : AllByRecursion IsUnsealed origin.first.outs
  pub below : WhereWhole origin.whole (IsArchive m origin.first g base past image)

seal_steps : (whole sealed : Base) → IsSealOf whole sealed → sealed.steps ≡ whole.steps
seal_steps whole sealed seals = ap (λ (b : Base). b.steps) seals.same

past_again : (m : Meaning) (origin : Origin) (past other kept rest : List Step) (base : Base) (g : ℕ) (image : Image) → base.steps ≡ origin.first.steps + length past
    → IsPast m origin other base g image → (past ++ kept) ++ rest ≡ other ++ kept → IsPast m origin past base g image
past_again m origin past other kept rest base g image counted is splits =
    let size : length past ≡ length other = omega (arith, counted, seal_steps (replay m origin.first other) base is.seals, replay_steps m origin.first other) in
    let whole : past ++ (kept ++ rest) ≡ other ++ kept = sym (append_assoc past kept rest) ∙ splits in
    let same : past ≡ other = sym (take-append_seam past (kept ++ rest)) ∙ ap (take (length past)) whole ∙ ap (λ n. take n (other ++ kept)) size ∙ take-append_seam other kept in
    subst (λ (ps : List Step). IsPast m origin ps base g image) (sym same) is

-- what files stand for, where they hold this state of this generation
past_there : (m : Meaning) (origin : Origin) (history : List Step) (base : Base) (g : ℕ) (image : Image) (stands : Stands m origin image history) → stands.generation ≡ g → stands.base ≡ base → IsPast m origin stands.past base g image
past_there m origin history base g image stands generation same =
    subst (λ (n : ℕ). IsPast m origin stands.past base n image) generation
    (subst (λ (b : Base). IsPast m origin stands.past b stands.generation image) same
    (record { seals = stands.seals; fronts = stands.fronts; short = stands.short; unsealed = stands.unsealed; below = stands.below }))

-- where the files hold a state behind so many steps, the past is one
pub past_of : (m : Meaning) (origin : Origin) (past kept rest : List Step) (base : Base) (g : ℕ) (image : Image) → IsStored image g base kept → base.steps ≡ origin.first.steps + length past
    → Stands m origin image ((past ++ kept) ++ rest) → IsPast m origin past base g image
past_of m origin past kept rest base g image stored counted stands =
    let one = stored_is_one image stands.generation g stands.base base stands.steps kept stands.stored stored in
    past_again m origin past stands.past kept rest base g image counted (past_there m origin ((past ++ kept) ++ rest) base g image stands one.0 one.1) (stands.splits ∙ ap (λ ss. stands.past ++ ss) one.2)

-- files stand for what their generation holds, behind its past
pub stands_by : (m : Meaning) (origin : Origin) (past steps : List Step) (base : Base) (g : ℕ) (before image : Image) → IsPast m origin past base g before → ((k : ℕ) → before (out_file k) ≡ image (out_file k))
    → ((k : ℕ) → k < g → before (generation_file k) ≡ image (generation_file k)) → IsStored image g base steps → Stands m origin image (past ++ steps)
stands_by m origin past steps base g before image is same earlier stored = record {
  generation = g;
  base = base;
  past = past;
  steps = steps;
  splits = refl;
  stored = stored;
  seals = is.seals;
  fronts = fronts_same 0 (replay m origin.first past).outs base.outs before image same is.fronts;
  short = is.short;
  unsealed = is.unsealed;
  below = below_same origin.whole m origin.first g base past before image earlier is.below;
}

-- a history in two parts
pub replay-append : (m : Meaning) (s : Base) (front more : List Step) → replay m s (front ++ more) ≡ replay m (replay m s front) more
replay-append m s [] more = refl
replay-append m s (step ∷ front) more = replay-append m (after m s step) front more
