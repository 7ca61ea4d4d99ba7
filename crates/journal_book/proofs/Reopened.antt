-- The book of a store that was opened.
use Rattle.std.proofs.Common.{◌≡◌, inl, ◌≤◌, ◌+◌, ◌*◌, ℕ, false, List, [], ◌∷◌, ◌++◌, length, take, drop, Option, Some, None, sym, ap, subst, ◌∙◌, arith, length-append}
use Rattle.std.specs.List.{AllByRecursion}
use Rattle.std.proofs.lemmas.List.{append-nil, drop_all, length-take-le, take_all}
use Rattle.std.proofs.lemmas.Option.{none-some}
use Rattle.disk_journal.specs.Journal.{JournalView}
use Rattle.edge_traits.specs.Disk.{DiskView, Image, IsImage}
use Rattle.step_code.specs.declared.base.Base.{Base}
use Rattle.step_code.specs.declared.step.Step.{Step}
use Rattle.step_code.specs.After.{after}
use Rattle.step_code.specs.Code.{first_format, IsWritable, IsWritableBase}
use Rattle.step_code.specs.History.{replay}
use Rattle.step_code.specs.Rules.{last_moment, Meaning}
use Rattle.step_code.proofs.GivenBack.{latest_after}
use Rattle.store_image.specs.Opens.{AreReplayable}
use Rattle.store_image.specs.Stands.{IsSealOf, Origin, Stands, StandsFor}
use Rattle.store_image.specs.Stored.{codes_of, IsStored}
use Rattle.store_image.proofs.Standing.{replay_steps}
use Rattle.store_image.proofs.Stored.{stored_is_one}
use Rattle.journal_book.specs.Book.{BookView}
use Rattle.journal_book.specs.Keeping.{longest_waiting, AreAtRest, AreStoreFiles, IsPending, IsReplayed}
use Rattle.journal_book.specs.Opening.{opened, IsReopened, StandsNow}
use Rattle.generation_reading.specs.Reading.{IsHistory}
use Rattle.journal_book.specs.Staged.{greatest_limit}
use Rattle.journal_book.proofs.Flushing.{stored_now}

latest_behind : (m : Meaning) (s : Base) (steps : List Step) → s.latest.0 ≤ last_moment → AreReplayable m s steps → (replay m s steps).latest.0 ≤ last_moment
latest_behind m s [] latest replays = latest
latest_behind m s (step ∷ steps) latest replays = latest_behind m (after m s step) steps (omega (arith, replays.0.0.time.limit, ap (λ n. n.0) (latest_after m s step.moment step.what))) replays.1

none_wait : (len : ℕ) (steps : List Step) → len ≡ length steps → drop len steps ≡ []
none_wait len steps size = ap (λ n. drop n steps) size ∙ drop_all (length steps) steps (omega arith)

pub all_durable : (len : ℕ) (steps : List Step) → len ≡ length steps → take len steps ≡ steps
all_durable len steps size = take_all len steps (omega (arith, size))

pub replayed_reopened : (m : Meaning) (base state : Base) (steps : List Step) (len : ℕ) → IsHistory m base steps → state ≡ replay m base steps → len ≡ length steps → IsReplayed m base steps len state
replayed_reopened m base state steps len is same size = record {
  sound = is.sound;
  writable = is.writable;
  behind = same;
  latest = omega (arith, ap (λ (b : Base). b.latest.0) same, latest_behind m base steps is.sound.state.latest is.replays);
  within = omega (arith, size);
  coded = subst (λ (ss : List Step). AllByRecursion IsWritable ss) (sym (none_wait len steps size)) tt;
}

pub pending_reopened : (steps : List Step) (len : ℕ) (pending : List ℕ) (limit : ℕ) (journal : JournalView) → len ≡ length steps → limit ≤ greatest_limit
    → journal.length ≤ longest_waiting + 2 * length (codes_of steps) → IsPending steps len pending 0 limit journal
pending_reopened steps len pending limit journal size bound long = record {
  code = ap codes_of (sym (none_wait len steps size));
  within = omega arith;
  has_room = omega arith;
  bound = bound;
  small = inl (none_wait len steps size);
  long = omega (arith, long, ap (λ ss. length (codes_of ss)) (all_durable len steps size));
}

pub rest_reopened : (old now : DiskView) (root journal : JournalView) (g : ℕ) (base : Base) (steps : List Step) (len : ℕ) (after : Image) (told : Option Image) → old.told ≡ told
    → now.told ≡ Some after → (old.told ≡ None → now.told ≡ None)
    → ((files after : Image) → old.told ≡ Some files → now.told ≡ Some after → AreAtRest root journal now.may_leave g base steps after) → len ≡ length steps → AreAtRest root journal now.may_leave g base (take len steps) after
rest_reopened old now root journal g base steps len after None was told untold rests size = absurd (none-some after (sym (untold was) ∙ told))
rest_reopened old now root journal g base steps len after (Some files) was told untold rests size =
    subst (λ (ss : List Step). AreAtRest root journal now.may_leave g base ss after) (sym (all_durable len steps size)) (rests files after was told)

pub view_reopened : {D R : Type 0} (m : Meaning) (rules other : R) (f g root : ℕ) (base state : Base) (steps : List Step) (len limit : ℕ) (now : D) → other ≡ rules → state ≡ replay m base steps → len ≡ length steps
    → (let book : BookView D R = record { disk = now; rules = other; format = f; generation = g; root = root; base = base; steps = steps; kept = len; state = state; limit = limit; broken = false } in book ≡ opened m rules f g root base steps limit now)
view_reopened m rules other f g root base state steps len limit now same_rules same_state size = λ i.
    record { disk = now; rules = same_rules i; format = f; generation = g; root = root; base = base; steps = steps; kept = size i; state = same_state i; limit = limit; broken = false }

-- ---- what the store stands for

-- two fronts of the same length are one
one_front : (before more past other steps : List Step) (m n : ℕ) → m ≤ length more → n ≤ length more → before ++ take m more ≡ past ++ steps → before ++ take n more ≡ other ++ steps → length past ≡ length other → before ++ take n more ≡ past ++ steps
one_front before more past other steps m n within inside one two same =
    let count : m ≡ n =
    omega (
      arith,
      within,
      inside,
      same,
      ap length one,
      ap length two,
      length-append before (take m more),
      length-append before (take n more),
      length-append past steps,
      length-append other steps,
      length-take-le m more within,
      length-take-le n more inside,
    ) in
    ap (λ k. before ++ take k more) (sym count) ∙ one

counted : (m : Meaning) (origin : Origin) (base : Base) (image : Image) (history : List Step) (stands : Stands m origin image history) → stands.base ≡ base → base.steps ≡ origin.first.steps + length stands.past
counted m origin base image history stands same =
    ap (λ (b : Base). b.steps) (sym same) ∙ ap (λ (b : Base). b.steps) stands.seals.same ∙ replay_steps m origin.first stands.past

module _ (m : Meaning) (origin : Origin) (before more : List Step) (may_leave : ℕ → List ℕ → Type 0) (g : ℕ) (base : Base) (steps : List Step) (files : Image) (honest : IsImage may_leave files)
    (each : (image : Image) → IsImage may_leave image → StandsFor m origin before more image) (stored : (image : Image) → IsImage may_leave image → IsStored image g base steps) where
  -- what stands in an image that a crash may leave
  one_stored : (image : Image) (left : IsImage may_leave image) → (let stands = (each image left).stands in (stands.generation ≡ g) × (stands.base ≡ base) × (stands.steps ≡ steps))
  one_stored image left =
      let stands = (each image left).stands in
      let one = stored_is_one image stands.generation g stands.base base stands.steps steps stands.stored (stored image left) in
      (one.0, one.1, one.2)

  abbrev pub past_told : List Step
  past_told = (each files honest).stands.past

  pub history_told : before ++ take (each files honest).count more ≡ past_told ++ steps
  history_told = (each files honest).stands.splits ∙ ap (λ ss. past_told ++ ss) (one_stored files honest).2

  pub counted_told : base.steps ≡ origin.first.steps + length past_told
  counted_told = counted m origin base files (before ++ take (each files honest).count more) (each files honest).stands (one_stored files honest).1

  pub seals_told : IsSealOf (replay m origin.first past_told) base
  seals_told = subst (λ (b : Base). IsSealOf (replay m origin.first past_told) b) (one_stored files honest).1 (each files honest).stands.seals

  pub stands_told : (image : Image) → IsImage may_leave image → Stands m origin image (past_told ++ steps)
  stands_told image left =
      let is = each image left in
      let same = one_stored image left in
      let there : base.steps ≡ origin.first.steps + length is.stands.past = counted m origin base image (before ++ take is.count more) is.stands same.1 in
      subst (λ (h : List Step). Stands m origin image h)
      (one_front before more past_told is.stands.past steps (each files honest).count is.count (each files honest).within is.within history_told (is.stands.splits ∙ ap (λ ss. is.stands.past ++ ss) same.2) (omega (arith, counted_told, there)))
      is.stands

pub kept_reopened : {D R : Type 0} (disk : D → DiskView) (m : Meaning) (origin : Origin) (before more : List Step) (rules : R) (limit : ℕ) (now : D) (root journal : JournalView) (f g : ℕ) (base : Base) (steps : List Step)
    → (was : StandsNow m origin before more (disk now)) → IsImage (disk now).may_leave was.files → AreStoreFiles root journal f g → IsWritableBase first_format base → AreAtRest root journal (disk now).may_leave g base steps was.files
    → IsReopened disk m origin before more (opened m rules f g root.length base steps limit now)
kept_reopened disk m origin before more rules limit now root journal f g base steps was honest stores writable rest =
    let stored : (image : Image) → IsImage (disk now).may_leave image → IsStored image g base steps = stored_now (disk now).may_leave root journal g base steps was.files honest stores writable rest in
    let past = past_told m origin before more (disk now).may_leave g base steps was.files honest was.each stored in
    let all : take (length steps) steps ≡ steps = take_all (length steps) steps (omega arith) in
    record {
      past = past;
      count = (was.each was.files honest).count;
      within = (was.each was.files honest).within;
      splits = sym (history_told m origin before more (disk now).may_leave g base steps was.files honest was.each stored);
      kept = record {
        files = was.files;
        tells = was.tells;
        counted = counted_told m origin before more (disk now).may_leave g base steps was.files honest was.each stored;
        seals = seals_told m origin before more (disk now).may_leave g base steps was.files honest was.each stored;
        within = omega arith;
        each = λ image left.
            record {
              count = 0;
              within = omega arith;
              stands = subst (λ (h : List Step). Stands m origin image h) (sym (append-nil (past ++ take (length steps) steps) ∙ ap (λ ss. past ++ ss) all))
                  (stands_told m origin before more (disk now).may_leave g base steps was.files honest was.each stored image left);
            };
      };
    }
