-- What a crash leaves of a store while its journal grows.
use Rattle.std.proofs.Common.{◌≡◌, ◌≢◌, inl, inr, ⊎_elim, ◌≤◌, ◌+◌, ◌==◌, ℕ, Bool, true, false, List, [], ◌∷◌, ◌++◌, length, take, drop, map, Option, Some, None, refl, sym, ap, subst, ◌∙◌, arith, append_assoc, length-append, if◌then◌else◌}
use Rattle.std.specs.List.{AllByRecursion}
use Rattle.std.proofs.lemmas.Bool.{eqb-true, eqb-false}
use Rattle.std.proofs.lemmas.List.{append-nil, drop_all, length-drop, take_all, take-append-drop}
use Rattle.std.proofs.lemmas.Option.{none-some}
use Rattle.std.proofs.lemmas.Grind.{flat_map-append}
use Rattle.edge_traits.specs.Disk.{Adds, ChangesOnly, DiskView, Image, IsImage, Leaves, LeavesOthers, Only}
use Rattle.edge_traits.proofs.Moments.{widened}
use Rattle.disk_journal.specs.GateFile.{frame_length, gate_file, longest_journal, HasBodies, HasOldOrNew}
use Rattle.disk_journal.specs.Journal.{JournalView, IsAtRest}
use Rattle.disk_journal.specs.declared.header.Heading.{Heading}
use Rattle.stored_types.specs.Code.{number}
use Rattle.step_code.specs.declared.base.Base.{Base}
use Rattle.step_code.specs.declared.step.Step.{Step}
use Rattle.step_code.specs.Code.{code_of_base, code_of_step, first_format, IsWritable, IsWritableBase}
use Rattle.step_code.specs.Rules.{Meaning}
use Rattle.store_image.specs.Files.{root_file, out_file, generation_file, heading_of}
use Rattle.store_image.specs.Stands.{Origin, Stands, StandsFor}
use Rattle.store_image.specs.Stored.{codes_of, IsRecord, AreRecords, NamesLast, HoldsSteps, IsStored}
use Rattle.store_image.proofs.Standing.{put_file, put_there, put_elsewhere, past_of, records_more, stands_by}
use Rattle.store_image.proofs.Stored.{step_is_long}
use Rattle.journal_book.specs.Book.{BookView, durable_steps, waiting_steps, IsKept}
use Rattle.journal_book.specs.Keeping.{AreAtRest, AreStoreFiles, IsPending, IsReplayed}

-- a journal at rest has its bodies
pub bodies_at_rest : (journal : JournalView) (may_leave : ℕ → List ℕ → Type 0) (bodies : List (List ℕ)) (files : Image) → IsAtRest journal may_leave bodies files
    → HasBodies journal.heading bodies (files journal.file)
bodies_at_rest journal may_leave bodies files rest =
    record { gate = rest.gate; behind = []; closed = rest.closed; lengths = rest.lengths; content = rest.content ∙ sym (append-nil (gate_file journal.heading bodies rest.gate)) }

-- a file with another content that may be left there
pub put_left : (may_leave : ℕ → List ℕ → Type 0) (file : ℕ) (content : List ℕ) (image : Image) → may_leave file content → ((other : ℕ) → other ≢ file → may_leave other (image other)) → IsImage may_leave (put_file file content image)
put_left may_leave file content image left others other = one (other == file) refl
  where
    one : (is : Bool) → (other == file) ≡ is → may_leave other (if is then content else image other)
    one true is = subst (λ (n : ℕ). may_leave n content) (sym (eqb-true other file is)) left
    one false is = others other (eqb-false other file is)

-- the header of the generation's file is of the only format that is known
heading_known : {format : ℕ} (root journal : JournalView) (g : ℕ) → AreStoreFiles root journal format g → journal.heading ≡ heading_of first_format g
heading_known root journal g stores = stores.heading_is ∙ ap (λ (f : ℕ). heading_of f g) stores.known

apart_root : (g : ℕ) → root_file ≢ generation_file g
apart_root g same = omega (arith, same)

apart_out : (g k : ℕ) → out_file k ≢ generation_file g
apart_out g k same = omega (arith, same)

module _ {format : ℕ} (may_leave : ℕ → List ℕ → Type 0) (root journal : JournalView) (g : ℕ) (base : Base) (steps : List Step) (files : Image) (honest : IsImage may_leave files) (stores : AreStoreFiles root journal format g) (writable : IsWritableBase first_format base) (rest : AreAtRest root journal may_leave g base steps files) where
  abbrev gen : ℕ
  gen = generation_file g

  -- in each other file a crash leaves what it might have left
  abbrev Others : Image → Type 0
  Others image = (other : ℕ) → other ≢ gen → may_leave other (image other)

  root_is : (image : Image) → Others image → image root_file ≡ files root_file
  root_is image others =
      let only : Only (files root_file) (may_leave root_file) = subst (λ (n : ℕ). Only (files n) (may_leave n)) stores.root_file_is rest.root_rests.durable in
      only (image root_file) (others root_file (apart_root g))

  named : NamesLast (files root_file) g
  named =
      let has = bodies_at_rest root may_leave (map number (rest.before ++ g ∷ [])) files rest.root_rests in
      let here = subst (λ (n : ℕ). HasBodies root.heading (map number (rest.before ++ g ∷ [])) (files n)) stores.root_file_is has in
      record { before = rest.before; bodies = subst (λ (h : Heading). HasBodies h (map number (rest.before ++ g ∷ [])) (files root_file)) stores.root_heading_is here; given = rest.given }

  pub named_in : (image : Image) → Others image → NamesLast (image root_file) g
  named_in image others = subst (λ (c : List ℕ). NamesLast c g) (sym (root_is image others)) named

  has_bodies : HasBodies (heading_of first_format g) (code_of_base first_format base ∷ rest.records) (files gen)
  has_bodies =
      let has = bodies_at_rest journal may_leave (code_of_base first_format base ∷ rest.records) files rest.journal_rests in
      let here = subst (λ (n : ℕ). HasBodies journal.heading (code_of_base first_format base ∷ rest.records) (files n)) stores.file_is has in
      subst (λ (h : Heading). HasBodies h (code_of_base first_format base ∷ rest.records) (files gen)) (heading_known root journal g stores) here

  -- the image with the generation's file as it was at rest
  abbrev before : Image → Image
  before image = put_file gen (files gen) image

  left_before : (image : Image) → Others image → IsImage may_leave (before image)
  left_before image others = put_left may_leave gen (files gen) image (honest gen) others

  stored_before : (image : Image) → Others image → IsStored (before image) g base steps
  stored_before image others =
      record {
        named = subst (λ (c : List ℕ). NamesLast c g) (sym (put_elsewhere gen root_file (files gen) image (apart_root g))) (named_in image others);
        holds = subst (λ (c : List ℕ). HoldsSteps g c base steps) (sym (put_there gen (files gen) image))
            (record { format = first_format; known = refl; records = rest.records; bodies = has_bodies; writable = writable; content = rest.content });
      }

  gen_is : (image : Image) → IsImage may_leave image → image gen ≡ files gen
  gen_is image left =
      let only : Only (files gen) (may_leave gen) = subst (λ (n : ℕ). Only (files n) (may_leave n)) stores.file_is rest.journal_rests.durable in
      only (image gen) (left gen)

  -- what a crash leaves now holds just that
  pub stored_now : (image : Image) → IsImage may_leave image → IsStored image g base steps
  stored_now image left =
      record {
        named = named_in image (λ other apart. left other);
        holds = subst (λ (c : List ℕ). HoldsSteps g c base steps) (sym (gen_is image left)) (record { format = first_format; known = refl; records = rest.records; bodies = has_bodies; writable = writable; content = rest.content });
      }

  -- with so many steps in its generation, an image stands for them
  module _ (m : Meaning) (origin : Origin) (past waiting : List Step) (counted : base.steps ≡ origin.first.steps + length past) (each : (image : Image) → IsImage may_leave image → StandsFor m origin (past ++ steps) waiting image) where
    pub stands_with : (image : Image) → Others image → (more : List Step) → HoldsSteps g (image gen) base more → Stands m origin image (past ++ more)
    stands_with image others more holds =
        let stands = each (before image) (left_before image others) in
        let past_is = past_of m origin past steps (take stands.count waiting) base g (before image) (stored_before image others) counted stands.stands in
        stands_by m origin past more base g (before image) image past_is (λ k. put_elsewhere gen (out_file k) (files gen) image (apart_out g k))
        (λ k below. put_elsewhere gen (generation_file k) (files gen) image (λ same. omega (arith, same, below))) (record { named = named_in image others; holds = holds })

    holds_old : (file : List ℕ) → HasBodies (heading_of first_format g) (code_of_base first_format base ∷ rest.records) file → HoldsSteps g file base steps
    holds_old file has = record { format = first_format; known = refl; records = rest.records; bodies = has; writable = writable; content = rest.content }

    pub holds_new : (file body : List ℕ) (more : List Step) → IsRecord body more → HasBodies (heading_of first_format g) ((code_of_base first_format base ∷ rest.records) ++ body ∷ []) file → HoldsSteps g file base (steps ++ more)
    holds_new file body more is has = record { format = first_format; known = refl; records = rest.records ++ body ∷ []; bodies = has; writable = writable; content = records_more rest.records steps body more rest.content is }

    -- while one more record is written, an image stands for the steps before it, or for all
    pub stands_between : (image : Image) → Others image → (body : List ℕ) → IsRecord body waiting → HasOldOrNew (heading_of first_format g) (code_of_base first_format base ∷ rest.records) body (image gen)
        → StandsFor m origin (past ++ steps) waiting image
    stands_between image others body is (inl old) =
        record { count = 0; within = omega arith; stands = subst (λ (h : List Step). Stands m origin image h) (sym (append-nil (past ++ steps))) (stands_with image others steps (holds_old (image gen) old)) }
    stands_between image others body is (inr new) =
        let all = stands_with image others (steps ++ waiting) (holds_new (image gen) body waiting is new) in
        record {
          count = length waiting;
          within = omega arith;
          stands = subst (λ (h : List Step). Stands m origin image h) (sym (append_assoc past steps waiting) ∙ ap (λ ss. (past ++ steps) ++ ss) (sym (take_all (length waiting) waiting (omega arith)))) all;
        }

-- ---- a flush

module _ {D R : Type 0} {format : ℕ} (disk : D → DiskView) (m : Meaning) (book : BookView D R) (root journal : JournalView) (files : Image) (honest : IsImage (disk book.disk).may_leave files) (stores : AreStoreFiles root journal format book.generation) (writable : IsWritableBase first_format book.base) (rest : AreAtRest root journal (disk book.disk).may_leave book.generation book.base (durable_steps book) files) (body : List ℕ) (is : IsRecord body (waiting_steps book)) where
  abbrev gen_file : ℕ
  gen_file = generation_file book.generation

  others_of : (image : Image) → LeavesOthers (disk book.disk) journal.file image → (other : ℕ) → other ≢ gen_file → (disk book.disk).may_leave other (image other)
  others_of image others = subst (λ (n : ℕ). (other : ℕ) → other ≢ n → (disk book.disk).may_leave other (image other)) stores.file_is others

  -- at each moment of the call a crash leaves the durable steps, or all
  pub flush_leaves : (origin : Origin) (past : List Step) (now : D) → IsKept disk m origin past book
      → Leaves (disk book.disk) (disk now) (λ image. HasOldOrNew journal.heading (code_of_base first_format book.base ∷ rest.records) body (image journal.file) × LeavesOthers (disk book.disk) journal.file image)
      → Leaves (disk book.disk) (disk now) (StandsFor m origin (past ++ durable_steps book) (waiting_steps book))
  flush_leaves origin past now kept run = widened wide run
    where
      wide : (image : Image) → HasOldOrNew journal.heading (code_of_base first_format book.base ∷ rest.records) body (image journal.file) × LeavesOthers (disk book.disk) journal.file image
          → StandsFor m origin (past ++ durable_steps book) (waiting_steps book) image
      wide image (found, others) =
          let at_file = subst (λ (n : ℕ). HasOldOrNew journal.heading (code_of_base first_format book.base ∷ rest.records) body (image n)) stores.file_is found in
          let at_heading = subst (λ (h : Heading). HasOldOrNew h (code_of_base first_format book.base ∷ rest.records) body (image gen_file)) (heading_known root journal book.generation stores) at_file in
          stands_between (disk book.disk).may_leave root journal book.generation book.base (durable_steps book) files honest stores writable rest m origin past (waiting_steps book) kept.counted kept.each image (others_of image others) body is at_heading

  -- where it answered Ok, all steps are durable
  pub kept_flushed : (origin : Origin) (past : List Step) (now : D) (after : Image) (later : JournalView) → IsKept disk m origin past book → (disk now).told ≡ Some after → Adds (disk book.disk) (disk now) (λ other. other ≢ journal.file)
      → later.file ≡ journal.file → later.heading ≡ journal.heading → IsAtRest later (disk now).may_leave ((code_of_base first_format book.base ∷ rest.records) ++ body ∷ []) after
      → IsKept disk m origin past (record book { disk = now; kept = length book.steps })
  kept_flushed origin past now after later kept told adds same_file same_heading rests = record { files = after; tells = told; counted = kept.counted; seals = kept.seals; within = omega arith; each = each_now }
    where
      all_bodies : List (List ℕ)
      all_bodies = (code_of_base first_format book.base ∷ rest.records) ++ body ∷ []

      file_now : later.file ≡ gen_file
      file_now = same_file ∙ stores.file_is

      has_all : HasBodies (heading_of first_format book.generation) all_bodies (after gen_file)
      has_all = subst (λ (h : Heading). HasBodies h all_bodies (after gen_file)) (same_heading ∙ heading_known root journal book.generation stores)
          (subst (λ (n : ℕ). HasBodies later.heading all_bodies (after n)) file_now (bodies_at_rest later (disk now).may_leave all_bodies after rests))

      each_now : (image : Image) → IsImage (disk now).may_leave image → StandsFor m origin (past ++ take (length book.steps) book.steps) (drop (length book.steps) book.steps) image
      each_now image left =
          let others : (other : ℕ) → other ≢ gen_file → (disk book.disk).may_leave other (image other) =
          subst (λ (n : ℕ). (other : ℕ) → other ≢ n → (disk book.disk).may_leave other (image other)) stores.file_is (λ other apart. adds other apart (image other) (left other)) in
          let only : Only (after gen_file) ((disk now).may_leave gen_file) = subst (λ (n : ℕ). Only (after n) ((disk now).may_leave n)) file_now rests.durable in
          let same : image gen_file ≡ after gen_file = only (image gen_file) (left gen_file) in
          let holds = holds_new (disk book.disk).may_leave root journal book.generation book.base (durable_steps book) files honest stores writable rest m origin past (waiting_steps book) kept.counted kept.each (image gen_file) body (waiting_steps book) is
          (subst (λ (c : List ℕ). HasBodies (heading_of first_format book.generation) all_bodies c) (sym same) has_all) in
          let stands = stands_with (disk book.disk).may_leave root journal book.generation book.base (durable_steps book) files honest stores writable rest m origin past (waiting_steps book) kept.counted kept.each image others (durable_steps book ++ waiting_steps book) holds in
          let whole : durable_steps book ++ waiting_steps book ≡ take (length book.steps) book.steps = take-append-drop book.kept book.steps ∙ sym (take_all (length book.steps) book.steps (omega arith)) in
          record {
            count = 0;
            within = omega arith;
            stands = subst (λ (h : List Step). Stands m origin image h) (sym (append-nil (past ++ take (length book.steps) book.steps)) ∙ refl) (subst (λ (ss : List Step). Stands m origin image (past ++ ss)) whole stands);
          }

-- ---- what the book keeps

codes_split : (kept : ℕ) (steps : List Step) → length (codes_of steps) ≡ length (codes_of (take kept steps)) + length (codes_of (drop kept steps))
codes_split kept steps =
    ap (λ ss. length (codes_of ss)) (sym (take-append-drop kept steps)) ∙ ap length (flat_map-append code_of_step (take kept steps) (drop kept steps))
    ∙ length-append (codes_of (take kept steps)) (codes_of (drop kept steps))

-- a record with one step is longer than what frames it
pub long_record : (steps : List Step) → 1 ≤ length steps → 9 ≤ length (codes_of steps)
long_record [] some = absurd (omega (arith, some))
long_record (step ∷ steps) some = omega (arith, length-append (code_of_step step) (codes_of steps), step_is_long step)

pub some_wait : (kept : ℕ) (steps : List Step) → kept ≤ length steps → (kept ≡ length steps → ⊥) → 1 ≤ length (drop kept steps)
some_wait kept steps within apart = omega (arith, within, apart, length-drop kept steps)

pub record_is : (m : Meaning) (base : Base) (steps : List Step) (kept : ℕ) (state : Base) (pending bytes : List ℕ) (used limit : ℕ) (journal : JournalView) → IsReplayed m base steps kept state → IsPending steps kept pending used limit journal
    → (kept ≡ length steps → ⊥) → bytes ≡ pending → IsRecord (take used bytes) (drop kept steps)
record_is m base steps kept state pending bytes used limit journal replayed pends apart same =
    record { some = some_wait kept steps replayed.within apart; writable = replayed.coded; code = ap (take used) same ∙ pends.code }

pub room_left : (m : Meaning) (base : Base) (steps : List Step) (kept : ℕ) (state : Base) (pending bytes : List ℕ) (used limit : ℕ) (journal : JournalView) → IsReplayed m base steps kept state → IsPending steps kept pending used limit journal
    → (kept ≡ length steps → ⊥) → bytes ≡ pending → journal.length + length (take used bytes) + frame_length ≤ longest_journal
room_left m base steps kept state pending bytes used limit journal replayed pends apart same =
    ⊎_elim
    (λ none. absurd (omega (arith, ap length none, some_wait kept steps replayed.within apart)))
    (λ small. omega (arith, small, pends.bound, pends.long, codes_split kept steps, ap length (ap (take used) same ∙ pends.code)))
    pends.small

pub pending_flushed : (m : Meaning) (base : Base) (steps : List Step) (kept len : ℕ) (state : Base) (pending bytes : List ℕ) (used limit : ℕ) (journal later : JournalView) → IsReplayed m base steps kept state
    → IsPending steps kept pending used limit journal → (kept ≡ length steps → ⊥) → bytes ≡ pending → len ≡ length steps → later.length ≡ journal.length + length (take used bytes) + frame_length
    → IsPending steps len pending 0 limit later
pending_flushed m base steps kept len state pending bytes used limit journal later replayed pends apart same size longer =
    let none : drop len steps ≡ [] = ap (λ n. drop n steps) size ∙ drop_all (length steps) steps (omega arith) in
    let all : take len steps ≡ steps = take_all len steps (omega (arith, size)) in
    let more : length (take used bytes) ≡ length (codes_of (drop kept steps)) = ap length (ap (take used) same ∙ pends.code) in
    record {
      code = ap codes_of (sym none);
      within = omega arith;
      has_room = omega arith;
      bound = pends.bound;
      small = inl none;
      long = omega (arith, longer, more, pends.long, codes_split kept steps, long_record (drop kept steps) (some_wait kept steps replayed.within apart), ap (λ ss. length (codes_of ss)) all);
    }

pub replayed_flushed : (m : Meaning) (base : Base) (steps : List Step) (kept len : ℕ) (state : Base) → IsReplayed m base steps kept state → len ≡ length steps → IsReplayed m base steps len state
replayed_flushed m base steps kept len state was size =
    record { sound = was.sound; writable = was.writable; behind = was.behind; latest = was.latest; within = omega (arith, size); coded = subst (λ (ss : List Step). AllByRecursion IsWritable ss) (sym (ap (λ n. drop n steps) size ∙ drop_all (length steps) steps (omega arith))) tt }

pub stores_still : {format : ℕ} (root journal later : JournalView) (g : ℕ) → AreStoreFiles root journal format g → later.file ≡ journal.file → later.heading ≡ journal.heading → AreStoreFiles root later format g
stores_still root journal later g was same_file same_heading =
    record { root_file_is = was.root_file_is; root_heading_is = was.root_heading_is; file_is = same_file ∙ was.file_is; heading_is = same_heading ∙ was.heading_is; known = was.known; given = was.given }

abbrev found : Image → Option Image
found i = Some i

-- what is told is one
pub told_is_one : (told : Option Image) (a b : Image) → told ≡ Some a → told ≡ Some b → a ≡ b
told_is_one told a b one other = some_is a b (sym one ∙ other)
  where
    some_is : (a b : Image) → found a ≡ found b → a ≡ b
    some_is a b e = cc

-- a journal rests where its file stays as it is
pub rests_same : (before now : ℕ → List ℕ → Type 0) (journal : JournalView) (bodies : List (List ℕ)) (files after : Image) → after journal.file ≡ files journal.file → ((c : List ℕ) → now journal.file c → before journal.file c) → IsAtRest journal before bodies files
    → IsAtRest journal now bodies after
rests_same before now journal bodies files after same adds rest = record {
  whole = rest.whole;
  gate = rest.gate;
  closed = rest.closed;
  lengths = rest.lengths;
  content = same ∙ rest.content;
  end = rest.end ∙ ap length (sym same);
  durable = λ c left. rest.durable c (adds c left) ∙ sym same;
}

-- so it does while another file is written
pub rests_elsewhere : (old now : DiskView) (journal : JournalView) (bodies : List (List ℕ)) (files after : Image) (file : ℕ) → (journal.file ≢ file) → ChangesOnly files now.told file
    → now.told ≡ Some after → Adds old now (λ other. other ≢ file) → IsAtRest journal old.may_leave bodies files → IsAtRest journal now.may_leave bodies after
rests_elsewhere old now journal bodies files after file apart changes told adds rest =
    let after_is : after ≡ changes.0 = told_is_one now.told after changes.0 told changes.1 in
    rests_same old.may_leave now.may_leave journal bodies files after (ap (λ (i : Image). i journal.file) after_is ∙ changes.2 journal.file apart) (adds journal.file apart) rest

pub rest_flushed : {format : ℕ} (old now : DiskView) (root journal later : JournalView) (g : ℕ) (base : Base) (steps : List Step) (kept len : ℕ) (body : List ℕ) (after : Image) (told : Option Image)
    → old.told ≡ told → now.told ≡ Some after → AreStoreFiles root journal format g → IsRecord body (drop kept steps) → len ≡ length steps
    → (old.told ≡ None → now.told ≡ None)
    → ((files : Image) → old.told ≡ Some files → ChangesOnly files now.told journal.file)
    → Adds old now (λ other. other ≢ journal.file)
    → ((files : Image) → old.told ≡ Some files → AreAtRest root journal old.may_leave g base (take kept steps) files)
    → ((files : Image) (bodies : List (List ℕ)) → old.told ≡ Some files → IsAtRest journal old.may_leave bodies files → IsAtRest later now.may_leave (bodies ++ body ∷ []) after)
    → AreAtRest root later now.may_leave g base (take len steps) after
rest_flushed old now root journal later g base steps kept len body after None was told stores is size untold elsewhere adds rests grows = absurd (none-some after (sym (untold was) ∙ told))
rest_flushed old now root journal later g base steps kept len body after (Some files) was told stores is size untold elsewhere adds rests grows =
    let rest = rests files was in
    let changes = elsewhere files was in
    let apart : root.file ≢ journal.file = λ same. apart_root g (sym stores.root_file_is ∙ same ∙ stores.file_is) in
    let all : take kept steps ++ drop kept steps ≡ take len steps = take-append-drop kept steps ∙ sym (take_all len steps (omega (arith, size))) in
    record {
      before = rest.before;
      given = rest.given;
      root_rests = rests_elsewhere old now root (map number (rest.before ++ g ∷ [])) files after journal.file apart changes told adds rest.root_rests;
      records = rest.records ++ body ∷ [];
      journal_rests = grows files (code_of_base first_format base ∷ rest.records) was rest.journal_rests;
      content = subst (λ (ss : List Step). AreRecords (rest.records ++ body ∷ []) ss) all (records_more rest.records (take kept steps) body (drop kept steps) rest.content is);
    }
