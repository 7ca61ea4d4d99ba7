-- What a new store stands for.
use Rattle.std.proofs.Common.{◌≡◌, ◌≢◌, ◌≤◌, inl, inr, ℕ, Bool, suc, true, false, List, [], ◌∷◌, ◌++◌, length, map, filter, flat_map, Option, Some, None, refl, sym, ap, subst, ◌∙◌, arith, length-append}
use Rattle.std.proofs.lemmas.Option.{none-some}
use Rattle.std.specs.List.{AllByRecursion}
use Rattle.edge_traits.specs.Disk.{DiskView, Image, IsImage, Leaves}
use Rattle.edge_traits.proofs.Moments.{widened}
use Rattle.disk_journal.specs.Reads.{OnlyReads}
use Rattle.disk_journal.specs.GateFile.{HasBodies}
use Rattle.disk_journal.specs.Journal.{JournalView, IsAtRest}
use Rattle.disk_journal.specs.declared.header.Heading.{Heading}
use Rattle.step_code.specs.declared.base.Base.{Base}
use Rattle.step_code.specs.declared.rules.Facts.{Facts}
use Rattle.step_code.specs.declared.step.Step.{Step}
use Rattle.step_code.specs.Code.{cache, code_of_base, feed, first_format, heads_in, output, IsWritable, IsWritableBase}
use Rattle.stored_types.specs.Hand.{hand}
use Rattle.stored_types.specs.Message.{dump}
use Rattle.stored_types.specs.Queue.{queue}
use Rattle.std.specs.Int.{to_be_bytes, w32}
use Rattle.stored_types.specs.Code.{list, name}
use Rattle.step_code.specs.Spent.{out_length}
use Rattle.step_code.specs.History.{first, replay}
use Rattle.step_code.specs.Rules.{Meaning, writes}
use Rattle.step_code.specs.Sound.{longest_base, IsSound}
use Rattle.step_code.specs.State.{new_out}
use Rattle.store_image.proofs.Unsealed.{new_unsealed}
use Rattle.store_image.specs.Files.{generation_file, root_file, heading_of, written_format}
use Rattle.store_image.specs.Stands.{origin_of, AreSealedFrom, FrontsStand, IsArchive, IsSealOf, Stands, WhereWhole}
use Rattle.store_image.specs.Stored.{codes_of, HoldsSteps}
use Rattle.store_image.proofs.Standing.{stands_by, IsPast}
use Rattle.journal_book.specs.Book.{created, first_root, BookView, IsKept}
use Rattle.journal_book.specs.Keeping.{longest_output, longest_waiting, AreAtRest, AreShort, AreStoreFiles, IsPending, IsReplayed}
use Rattle.journal_book.specs.Staged.{greatest_limit}
use Rattle.journal_book.specs.Alone.{IsBesideNew}
use Rattle.journal_book.specs.NewStore.{HasOldRootOrFirst, HoldsFirst}
use Rattle.journal_book.proofs.Alone.{reads_alone}
use Rattle.journal_book.proofs.Flushing.{bodies_at_rest, stored_now}
use Rattle.journal_book.proofs.Small.{few_of}

new_outs_sealed : (bots : List Facts) → AreSealedFrom (map new_out bots) (map new_out bots)
new_outs_sealed [] = refl
new_outs_sealed (f ∷ bots) = (record { bot = refl; front = []; lines = refl; count = refl; bytes = refl }, new_outs_sealed bots)

new_fronts : (k : ℕ) (bots : List Facts) (image : Image) → FrontsStand k (map new_out bots) (map new_out bots) image
new_fronts k [] image = tt
new_fronts k (f ∷ bots) image = (record { size = refl; begins = refl }, new_fronts (suc k) bots image)

new_outs_small : (bots : List Facts) → AllByRecursion (λ o. out_length o ≤ longest_output) (map new_out bots)
new_outs_small [] = tt
new_outs_small (f ∷ bots) = (omega arith, new_outs_small bots)

-- a state whose code isn't too long has not too many outputs
few_outs : (b : Base) → length (code_of_base first_format b) ≤ longest_base → length b.outs ≤ longest_base
few_outs b short =
    let front = heads_in true b ++ list queue b.queues ++ list hand b.hands ++ list cache b.caches ++ list dump b.dumps in
    let outs = list output b.outs in
    let feeds = list feed b.feeds in
    omega (
      arith,
      short,
      length-append ((front ++ outs) ++ feeds) (list name b.halted),
      length-append (front ++ outs) feeds,
      length-append front outs,
      length-append (to_be_bytes w32 (length b.outs)) (flat_map output b.outs),
      few_of b.outs,
    )

-- the outputs of a state that a store may begin with
pub new_outs_short : (m : Meaning) (base state : Base) (bots : List Facts) (bundle : List ℕ) → IsSound m base → base ≡ first bots bundle → state ≡ base → AreShort state.outs
new_outs_short m base state bots bundle sound is same =
    record {
      few = omega (arith, few_outs base sound.short, ap (λ (b : Base). length b.outs) same);
      each = subst (λ (b : Base). AllByRecursion (λ o. out_length o ≤ longest_output) b.outs) (sym (same ∙ is)) (new_outs_small (filter writes bots));
    }

-- nothing of a first state is sealed
-- no generation is below the first
none_below : (whole : Bool) (m : Meaning) (base : Base) (image : Image) → IsSealOf base base → WhereWhole whole (IsArchive m base 0 base [] image)
none_below true m base image seals = record { held = []; count = refl; each = tt; joins = refl; ends = seals }
none_below false m base image seals = tt

first_past : (m : Meaning) (bots : List Facts) (bundle : List ℕ) (whole : Bool) (image : Image) → length (code_of_base first_format (first bots bundle)) ≤ longest_base
    → IsPast m (origin_of (first bots bundle) whole) [] (first bots bundle) 0 image
first_past m bots bundle whole image short =
    let seals : IsSealOf (first bots bundle) (first bots bundle) = record { outs = new_outs_sealed (filter writes bots); same = refl } in
    record {
      seals = seals;
      fronts = new_fronts 0 (filter writes bots) image;
      short = short;
      unsealed = new_unsealed (filter writes bots);
      below = none_below whole m (first bots bundle) image seals;
    }

first_past_of : (m : Meaning) (bots : List Facts) (bundle : List ℕ) (base : Base) (whole : Bool) (image : Image) → base ≡ first bots bundle → length (code_of_base first_format base) ≤ longest_base
    → IsPast m (origin_of base whole) [] base 0 image
first_past_of m bots bundle base whole image is short =
    subst (λ (b : Base). IsPast m (origin_of b whole) [] b 0 image) (sym is) (first_past m bots bundle whole image (subst (λ (b : Base). length (code_of_base first_format b) ≤ longest_base) is short))

-- whatever a crash leaves of a new store stands for no steps
pub kept_created : {D R : Type 0} (disk : D → DiskView) (m : Meaning) (bots : List Facts) (bundle : List ℕ) (base : Base) (whole : Bool) (rules : R) (limit : ℕ) (now : D) (root journal : JournalView) (files : Image)
    → base ≡ first bots bundle → IsImage (disk now).may_leave files → (disk now).told ≡ Some files → AreStoreFiles root journal written_format 0 → IsWritableBase first_format base → length (code_of_base first_format base) ≤ longest_base
    → AreAtRest root journal (disk now).may_leave 0 base [] files → IsKept disk m (origin_of base whole) [] (created rules base limit now)
kept_created disk m bots bundle base whole rules limit now root journal files is honest told stores writable short rest = record {
  files = files;
  tells = told;
  counted = omega arith;
  seals = (first_past_of m bots bundle base whole files is short).seals;
  within = omega arith;
  each = λ image left.
      let past = first_past_of m bots bundle base whole image is short in
      record { count = 0; within = omega arith; stands = stands_by m (origin_of base whole) [] [] base 0 image image past (λ k. refl) (λ k below. refl) (stored_now (disk now).may_leave root journal 0 base [] files honest stores writable rest image left) };
}

-- where the first generation's file has the code of a first state alone, it holds that state
pub first_holds : (m : Meaning) (bots : List Facts) (bundle : List ℕ) (base : Base) (code : List ℕ) (image : Image) → m.facts bundle ≡ Some bots → base ≡ first bots bundle → IsSound m base → IsWritableBase first_format base → code ≡ code_of_base first_format base
    → HasBodies (heading_of written_format 0) (code ∷ []) (image (generation_file 0)) → HoldsFirst m bundle image
first_holds m bots bundle base code image loads is sound writable coded has =
    let holds : HoldsSteps 0 (image (generation_file 0)) base [] = record { format = written_format; known = refl; records = []; bodies = subst (λ (c : List ℕ). HasBodies (heading_of written_format 0) (c ∷ []) (image (generation_file 0))) coded has; writable = writable; content = refl } in
    record {
      bots = bots;
      loads = loads;
      holds = subst (λ (b : Base). HoldsSteps 0 (image (generation_file 0)) b []) is holds;
      stands = λ whole named.
          subst (λ (b : Base). Stands m (origin_of b whole) image []) is
          (stands_by m (origin_of base whole) [] [] base 0 image image (first_past_of m bots bundle base whole image is sound.short) (λ k. refl) (λ k below. refl) (record { named = named; holds = holds }));
    }

-- a journal at rest is left with its bodies
pub left_at_rest : (journal : JournalView) (may_leave : ℕ → List ℕ → Type 0) (bodies : List (List ℕ)) (files : Image) (file : ℕ) (heading : Heading) → journal.file ≡ file → journal.heading ≡ heading → IsAtRest journal may_leave bodies files
    → (c : List ℕ) → may_leave file c → HasBodies heading bodies c
left_at_rest journal may_leave bodies files file heading same_file same_heading rest c left =
    let here : may_leave journal.file c = subst (λ (n : ℕ). may_leave n c) (sym same_file) left in
    subst (λ (h : Heading). HasBodies h bodies c) same_heading (subst (λ (content : List ℕ). HasBodies journal.heading bodies content) (sym (rest.durable c here)) (bodies_at_rest journal may_leave bodies files rest))

pub is_nothing : (file : List ℕ) (have : ℕ) → have ≡ length file → have ≡ 0 → file ≡ []
is_nothing [] have size none = refl
is_nothing (b ∷ file) have size none = absurd (omega (arith, size, none))

-- a root that is empty is none of a store
pub none_there : (files : Image) → files root_file ≡ [] → (file : ℕ) → IsBesideNew files file → (file ≢ root_file) × (file ≢ generation_file 0)
none_there files empty file (inl some) = absurd (omega (arith, some, ap length empty))
none_there files empty file (inr both) = both

-- reads leave the root
pub root_read : {m : Meaning} {bundle : List ℕ} {old new : DiskView} → ((image : Image) → old.left_since old.moment image → IsImage old.may_leave image) → OnlyReads old new → Leaves old new (HasOldRootOrFirst m bundle old)
root_read only_now reads = widened (λ image left. inl (left root_file tt)) (reads_alone (λ _. Unit {0}) only_now reads).any_moment

-- ---- what the book of a new store keeps

pub replayed_created : (m : Meaning) (base state : Base) (steps : List Step) → steps ≡ [] → state ≡ base → IsSound m base → IsWritableBase first_format base → IsReplayed m base steps 0 state
replayed_created m base state steps none same sound writable = record {
  sound = sound;
  writable = writable;
  behind = same ∙ ap (λ (ss : List Step). replay m base ss) (sym none);
  latest = omega (arith, ap (λ (b : Base). b.latest.0) same, sound.state.latest);
  within = omega arith;
  coded = subst (λ (ss : List Step). AllByRecursion IsWritable ss) (sym none) tt;
}

pub pending_created : (steps : List Step) (pending : List ℕ) (limit : ℕ) (journal : JournalView) → steps ≡ [] → limit ≤ greatest_limit → journal.length ≤ longest_waiting → IsPending steps 0 pending 0 limit journal
pending_created steps pending limit journal none bound long = record {
  code = ap codes_of (sym none);
  within = omega arith;
  has_room = omega arith;
  bound = bound;
  small = inl none;
  long = omega (arith, long);
}

pub rest_created : (old now : DiskView) (root journal : JournalView) (base : Base) (after : Image) (told : Option Image) → old.told ≡ told → now.told ≡ Some after
    → (old.told ≡ None → now.told ≡ None)
    → ((files after : Image) → old.told ≡ Some files → now.told ≡ Some after → AreAtRest root journal now.may_leave 0 base [] after) → AreAtRest root journal now.may_leave 0 base [] after
rest_created old now root journal base after None was told untold rests = absurd (none-some after (sym (untold was) ∙ told))
rest_created old now root journal base after (Some files) was told untold rests = rests files after was told

pub view_created : {D R : Type 0} (rules other : R) (base state : Base) (steps : List Step) (limit root : ℕ) (now : D) → other ≡ rules → state ≡ base → steps ≡ [] → root ≡ first_root
    → (let book : BookView D R = record { disk = now; rules = other; format = written_format; generation = 0; root = root; base = base; steps = steps; kept = 0; state = state; limit = limit; broken = false } in book ≡ created rules base limit now)
view_created rules other base state steps limit root now same_rules same_state none same_root = λ i. record { disk = now; rules = same_rules i; format = written_format; generation = 0; root = same_root i; base = base; steps = none i; kept = 0; state = same_state i; limit = limit; broken = false }
