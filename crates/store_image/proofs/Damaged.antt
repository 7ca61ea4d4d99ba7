-- A store that opens isn't damaged, and damage is at one place.
use Rattle.std.proofs.Common.{◌≡◌, ◌≢◌, ◌≤◌, ◌+◌, inl, inr, ℕ, suc, List, [], ◌∷◌, ◌++◌, length, map, refl, sym, ap, subst, ◌∙◌, arith}
use Rattle.std.specs.List.{AllByRecursion}
use Rattle.std.proofs.lemmas.List.{append-nil, append_cancel_left}
use Rattle.edge_traits.specs.Disk.{Image}
use Rattle.disk_journal.specs.declared.header.Heading.{Heading}
use Rattle.disk_journal.specs.GateFile.{frame_length, open_records, HasBodies}
use Rattle.disk_journal.proofs.GateFiles.{bodies_are_one, damage_is_at_one_place, damaged_has_no_bodies}
use Rattle.stored_types.specs.Code.{number}
use Rattle.stored_types.proofs.Readers.{one_code}
use Rattle.step_code.specs.declared.base.Base.{Base}
use Rattle.step_code.specs.declared.output.Output.{Output}
use Rattle.step_code.specs.declared.step.Step.{Step}
use Rattle.step_code.specs.Code.{code_of_base, first_format, IsWritableBase}
use Rattle.step_code.specs.History.{replay}
use Rattle.step_code.specs.Rules.{Meaning}
use Rattle.step_code.specs.Sound.{IsSound}
use Rattle.step_code.specs.Spent.{last_given}
use Rattle.step_code.proofs.StateLaws.{base_law}
use Rattle.store_image.specs.Damage.{behind_bodies, BeginsWithNone, AreNoHistory, AreNoSteps, HasShortOutput, HoldNoSteps, StopAt, IsDamagedFile, IsDamagedGeneration, IsDamagedStore, IsNoBase, IsShort, NameNone}
use Rattle.store_image.specs.Files.{root_file, generation_file, heading_of, root_heading}
use Rattle.store_image.specs.Opens.{AreAlong, AreLong, AreReplayable, IsReplayable, Opens}
use Rattle.store_image.specs.Stored.{codes_of, AreRecords, HoldsSteps, IsStored, NamesLast}
use Rattle.store_image.proofs.Stops.{records_hold, same_front, stops_once, Stop}
use Rattle.store_image.proofs.Stored.{known_bodies, known_writable, named_is_one, records_are_one, stored_is_one}

-- ---- a file

module _ (heading : Heading) (bad : List (List ℕ) → ℕ → Type 0) (file : List ℕ) where
  whole_file : (bodies : List (List ℕ)) (at : ℕ) → HasBodies heading bodies file → (bad bodies at → ⊥) → IsDamagedFile heading bad file at → ⊥
  whole_file bodies at has good (inl damaged) = damaged_has_no_bodies heading at bodies file damaged has
  whole_file bodies at has good (inr (others, read, is)) = good (subst (λ (bs : List (List ℕ)). bad bs at) (bodies_are_one heading others bodies file read has) is)

  damaged_once : ((bodies : List (List ℕ)) (at other : ℕ) → bad bodies at → bad bodies other → at ≡ other) → (at other : ℕ) → IsDamagedFile heading bad file at → IsDamagedFile heading bad file other → at ≡ other
  damaged_once once at other (inl a) (inl b) = damage_is_at_one_place heading at other file a b
  damaged_once once at other (inl a) (inr (bodies, read, is)) = absurd (damaged_has_no_bodies heading at bodies file a read)
  damaged_once once at other (inr (bodies, read, is)) (inl b) = absurd (damaged_has_no_bodies heading other bodies file b read)
  damaged_once once at other (inr (bodies, read, is)) (inr (others, again, also)) =
      once bodies at other is (subst (λ (bs : List (List ℕ)). bad bs other) (bodies_are_one heading others bodies file again read) also)

splits_some : (front : List (List ℕ)) (body : List ℕ) (later : List (List ℕ)) → [] ≡ front ++ body ∷ later → ⊥
splits_some [] body later same = absurd (cc)
splits_some (first ∷ front) body later same = absurd (cc)

-- ---- the root

-- numbers of generations don't split at a body that is none
named_there : (named before : List ℕ) (body : List ℕ) (later : List (List ℕ)) → AllByRecursion (λ n. n ≤ last_given) named → map number named ≡ map number before ++ body ∷ later → (n : ℕ) × (n ≤ last_given) × (body ≡ number n)
named_there [] before body later given same = absurd (splits_some (map number before) body later same)
named_there (n ∷ named) [] body later given same = (n, given.0, cc)
named_there (n ∷ named) (k ∷ before) body later given same = named_there named before body later given.1 (cc)

same_names : (front other : List ℕ) (x y : List ℕ) (xs ys : List (List ℕ)) → AllByRecursion (λ n. n ≤ last_given) front → AllByRecursion (λ n. n ≤ last_given) other → ((n : ℕ) → n ≤ last_given → x ≢ number n) → ((n : ℕ) → n ≤ last_given → y ≢ number n)
    → map number front ++ x ∷ xs ≡ map number other ++ y ∷ ys → map number front ≡ map number other
same_names [] [] x y xs ys given_a given_b bad_x bad_y same = refl
same_names [] (n ∷ other) x y xs ys given_a given_b bad_x bad_y same = absurd (bad_x n given_b.0 (cc))
same_names (n ∷ front) [] x y xs ys given_a given_b bad_x bad_y same = absurd (bad_y n given_a.0 (cc))
same_names (n ∷ front) (k ∷ other) x y xs ys given_a given_b bad_x bad_y same =
    let here : number n ≡ number k = cc in
    let rest = same_names front other x y xs ys given_a.1 given_b.1 bad_x bad_y (cc) in
    (λ i. here i ∷ rest i)

names_none_once : (bodies : List (List ℕ)) (at other : ℕ) → NameNone bodies at → NameNone bodies other → at ≡ other
names_none_once bodies at other (inl a) (inl b) = a.1 ∙ sym b.1
names_none_once bodies at other (inl a) (inr b) = absurd (splits_some (map number b.before) b.body b.later (sym a.0 ∙ b.splits))
names_none_once bodies at other (inr a) (inl b) = absurd (splits_some (map number a.before) a.body a.later (sym b.0 ∙ a.splits))
names_none_once bodies at other (inr a) (inr b) =
    a.place ∙ ap behind_bodies (same_names a.before b.before a.body b.body a.later b.later a.given b.given a.bad b.bad (sym a.splits ∙ b.splits)) ∙ sym b.place

some_name : (before : List ℕ) (last : ℕ) → map number (before ++ last ∷ []) ≡ [] → ⊥
some_name [] last none = absurd (cc)
some_name (n ∷ before) last none = absurd (cc)

module _ (root : List ℕ) (generation : ℕ) (named : NamesLast root generation) where
  names_some : (at : ℕ) → NameNone (map number (named.before ++ generation ∷ [])) at → ⊥
  names_some at (inl none) = some_name named.before generation none.0
  names_some at (inr stop) =
      let there = named_there (named.before ++ generation ∷ []) stop.before stop.body stop.later named.given stop.splits in
      stop.bad there.0 there.1 there.2

  whole_root : (at : ℕ) → IsDamagedFile root_heading NameNone root at → ⊥
  whole_root at damaged = whole_file root_heading NameNone root (map number (named.before ++ generation ∷ [])) at named.bodies (names_some at) damaged

-- ---- a generation

first_base : (base : Base) (body : List ℕ) (records others : List (List ℕ)) → code_of_base first_format base ∷ records ≡ body ∷ others → body ≡ code_of_base first_format base
first_base base body records others same = cc

pub same_bases : (a b : Base) (records others : List (List ℕ)) → IsWritableBase first_format a → IsWritableBase first_format b → code_of_base first_format a ∷ records ≡ code_of_base first_format b ∷ others → (a ≡ b) × (records ≡ others)
same_bases a b records others fits_a fits_b same =
    let codes : code_of_base first_format a ≡ code_of_base first_format b = cc in
    let base = one_code base_law a b [] [] fits_a fits_b (append-nil (code_of_base first_format a) ∙ codes ∙ sym (append-nil (code_of_base first_format b))) in
    (base.0, cc)

-- the first place where steps of bodies don't pass a test
pub stop_of : (m : Meaning) (is : Base → Step → Type 0) (s : Base) (start : ℕ) (bodies : List (List ℕ)) (at : ℕ) (stop : StopAt m is s start bodies at) → Stop m is s stop.before bodies stop.offset
stop_of m is s start bodies at stop = record { body = stop.body; later = stop.later; steps = stop.steps; splits = stop.splits; content = stop.content; pass = stop.pass; bad = stop.bad }

pub stops_at_once : (m : Meaning) (is : Base → Step → Type 0) (s : Base) (start : ℕ) (bodies : List (List ℕ)) (at other : ℕ) → StopAt m is s start bodies at → StopAt m is s start bodies other → at ≡ other
stops_at_once m is s start bodies at other a b =
    let once = stops_once m is s a.before b.before bodies a.offset b.offset (stop_of m is s start bodies at a) (stop_of m is s start bodies other b) in
    a.place ∙ (λ i. start + length (open_records (once.0 i)) + frame_length + once.1 i) ∙ sym b.place

-- they stop in one state, and before the same bytes
pub record StopAlike (m : Meaning) (is : Base → Step → Type 0) (s : Base) (start : ℕ) (bodies : List (List ℕ)) (at other : ℕ) (a : StopAt m is s start bodies at) (b : StopAt m is s start bodies other) : Type 0 where
  pub steps : a.steps ≡ b.steps
  pub front : a.bad.front ≡ b.bad.front
  pub behind : a.bad.behind ≡ b.bad.behind

pub stops_alike : (m : Meaning) (is : Base → Step → Type 0) (s : Base) (start : ℕ) (bodies : List (List ℕ)) (at other : ℕ) (a : StopAt m is s start bodies at) (b : StopAt m is s start bodies other) → StopAlike m is s start bodies at other a b
stops_alike m is s start bodies at other a b =
    let once = stops_once m is s a.before b.before bodies a.offset b.offset (stop_of m is s start bodies at a) (stop_of m is s start bodies other b) in
    let rests = append_cancel_left b.before (a.body ∷ a.later) (b.body ∷ b.later) (ap (λ before. before ++ a.body ∷ a.later) (sym once.0) ∙ sym a.splits ∙ b.splits) in
    let body : a.body ≡ b.body = cc in
    let steps = records_are_one b.before a.steps b.steps (subst (λ before. AreRecords before a.steps) once.0 a.content) b.content in
    let moved = subst (λ ss. BeginsWithNone is (replay m (replay m s ss) a.bad.front) a.bad.behind) steps a.bad.bad in
    let front = same_front m is (replay m s b.steps) a.bad.front b.bad.front a.bad.behind b.bad.behind a.bad.coded b.bad.coded (subst (λ ss. AreAlong m is (replay m s ss) a.bad.front) steps a.bad.pass) b.bad.pass moved b.bad.bad
    (sym a.bad.code ∙ body ∙ b.bad.code) in
    record {
      steps = steps;
      front = front;
      behind = append_cancel_left (codes_of b.bad.front) a.bad.behind b.bad.behind (ap (λ f. codes_of f ++ a.bad.behind) (sym front) ∙ sym a.bad.code ∙ body ∙ b.bad.code);
    }

module _ (m : Meaning) where
  base_or_steps : (bodies : List (List ℕ)) (at other : ℕ) → IsNoBase m bodies at → AreNoSteps m bodies other → ⊥
  base_or_steps bodies at other a b = a.bad b.base b.writable b.sound (first_base b.base a.body b.records a.records (sym b.splits ∙ a.splits))

  no_history_once : (bodies : List (List ℕ)) (at other : ℕ) → AreNoHistory m bodies at → AreNoHistory m bodies other → at ≡ other
  no_history_once bodies at other (inl a) (inl b) = a.1 ∙ sym b.1
  no_history_once bodies at other (inl a) (inr (inl b)) = absurd (splits_some [] b.body b.records (sym a.0 ∙ b.splits))
  no_history_once bodies at other (inl a) (inr (inr b)) = absurd (splits_some [] (code_of_base first_format b.base) b.records (sym a.0 ∙ b.splits))
  no_history_once bodies at other (inr (inl a)) (inl b) = absurd (splits_some [] a.body a.records (sym b.0 ∙ a.splits))
  no_history_once bodies at other (inr (inl a)) (inr (inl b)) = a.place ∙ sym b.place
  no_history_once bodies at other (inr (inl a)) (inr (inr b)) = absurd (base_or_steps bodies at other a b)
  no_history_once bodies at other (inr (inr a)) (inl b) = absurd (splits_some [] (code_of_base first_format a.base) a.records (sym b.0 ∙ a.splits))
  no_history_once bodies at other (inr (inr a)) (inr (inl b)) = absurd (base_or_steps bodies other at b a)
  no_history_once bodies at other (inr (inr a)) (inr (inr b)) =
      let same = same_bases a.base b.base a.records b.records a.writable b.writable (sym a.splits ∙ b.splits) in
      let moved = subst (λ (bs : List (List ℕ)). HoldNoSteps m b.base (start_of b.base) bs at) same.1 (subst (λ (s : Base). HoldNoSteps m s (start_of s) a.records at) same.0 a.bad) in
      stops_at_once m (IsReplayable m) b.base (start_of b.base) b.records at other moved b.bad
    where
      start_of : Base → ℕ
      start_of s = behind_bodies (code_of_base first_format s ∷ [])

  history_there : (base : Base) (records : List (List ℕ)) (steps : List Step) (at : ℕ) → IsWritableBase first_format base → IsSound m base → AreRecords records steps → AreReplayable m base steps → AreNoHistory m (code_of_base first_format base ∷ records) at → ⊥
  history_there base records steps at writable sound content replays (inl none) = splits_some [] (code_of_base first_format base) records (sym none.0)
  history_there base records steps at writable sound content replays (inr (inl bad)) = bad.bad base writable sound (first_base base bad.body records bad.records bad.splits)
  history_there base records steps at writable sound content replays (inr (inr bad)) =
      let same = same_bases base bad.base records bad.records writable bad.writable bad.splits in
      let moved = subst (λ (bs : List (List ℕ)). AreRecords bs steps) same.1 content in
      records_hold m (IsReplayable m) bad.base bad.bad.before bad.records steps bad.bad.offset moved (subst (λ (s : Base). AreReplayable m s steps) same.0 replays)
      (stop_of m (IsReplayable m) bad.base (behind_bodies (code_of_base first_format bad.base ∷ [])) bad.records at bad.bad)

  whole_generation : (generation : ℕ) (file : List ℕ) (base : Base) (steps : List Step) (at : ℕ) → HoldsSteps generation file base steps → IsSound m base → AreReplayable m base steps
      → IsDamagedFile (heading_of first_format generation) (AreNoHistory m) file at → ⊥
  whole_generation generation file base steps at holds sound replays damaged =
      whole_file (heading_of first_format generation) (AreNoHistory m) file (code_of_base first_format base ∷ holds.records) at (known_bodies generation file base steps holds) (history_there base holds.records steps at (known_writable generation file base steps holds) sound holds.content replays) damaged

-- ---- the outputs

long_enough : (k : ℕ) (outs : List Output) (image : Image) (file at : ℕ) → AreLong k outs image → IsShort k outs image file at → ⊥
long_enough k [] image file at long short = short
long_enough k (out ∷ outs) image file at long (inl here) = let size = here.1 in omega (arith, long.0, here.2, size)
long_enough k (out ∷ outs) image file at long (inr later) = long_enough (suc k) outs image file at long.1 later.1

short_once : (k : ℕ) (outs : List Output) (image : Image) (file at other place : ℕ) → IsShort k outs image file at → IsShort k outs image other place → (file ≡ other) × (at ≡ place)
short_once k [] image file at other place a b = absurd a
short_once k (out ∷ outs) image file at other place (inl a) (inl b) = (a.0 ∙ sym b.0, a.1 ∙ sym b.1)
short_once k (out ∷ outs) image file at other place (inl a) (inr b) = absurd (omega (arith, a.1, a.2, b.0))
short_once k (out ∷ outs) image file at other place (inr a) (inl b) = absurd (omega (arith, b.1, b.2, a.0))
short_once k (out ∷ outs) image file at other place (inr a) (inr b) = short_once (suc k) outs image file at other place a.1 b.1

-- ---- a store

module _ (m : Meaning) (image : Image) where
  short_or_long : (g h file at : ℕ) (base : Base) (steps : List Step) → IsStored image g base steps → AreLong 0 (replay m base steps).outs image → HasShortOutput m image h file at → ⊥
  short_or_long g h file at base steps stored long short =
      let same = stored_is_one image h g short.base base short.steps steps short.stored stored in
      long_enough 0 (replay m base steps).outs image file at long (subst (λ (s : Base). IsShort 0 s.outs image file at) (λ i. replay m (same.1 i) (same.2 i)) short.short)

  pub opens_whole : (generation : ℕ) (base : Base) (steps : List Step) (file at : ℕ) → Opens m image generation base steps → IsDamagedStore m image file at → ⊥
  opens_whole generation base steps file at opens (inl root) = whole_root (image root_file) generation opens.stored.named at root.1
  opens_whole generation base steps file at opens (inr (other, named, inl damaged)) =
      let same = named_is_one (image root_file) other generation named opens.stored.named in
      whole_generation m generation (image (generation_file generation)) base steps at opens.stored.holds opens.sound opens.replays
      (subst (λ (g : ℕ). IsDamagedFile (heading_of first_format g) (AreNoHistory m) (image (generation_file g)) at) same damaged.1)
  opens_whole generation base steps file at opens (inr (other, named, inr short)) = short_or_long generation other file at base steps opens.stored opens.long short

  short_is_whole : (g file at place : ℕ) → HasShortOutput m image g file at → IsDamagedFile (heading_of first_format g) (AreNoHistory m) (image (generation_file g)) place → ⊥
  short_is_whole g file at place short damaged = whole_generation m g (image (generation_file g)) short.base short.steps place short.stored.holds short.sound short.replays damaged

  generation_once : (g file at other place : ℕ) → IsDamagedGeneration m image g file at → IsDamagedGeneration m image g other place → (file ≡ other) × (at ≡ place)
  generation_once g file at other place (inl a) (inl b) =
      (a.0 ∙ sym b.0, damaged_once (heading_of first_format g) (AreNoHistory m) (image (generation_file g)) (no_history_once m) at place a.1 b.1)
  generation_once g file at other place (inl a) (inr b) = absurd (short_is_whole g other place at b a.1)
  generation_once g file at other place (inr a) (inl b) = absurd (short_is_whole g file at place a b.1)
  generation_once g file at other place (inr a) (inr b) =
      let same = stored_is_one image g g a.base b.base a.steps b.steps a.stored b.stored in
      short_once 0 (replay m b.base b.steps).outs image file at other place (subst (λ (s : Base). IsShort 0 s.outs image file at) (λ i. replay m (same.1 i) (same.2 i)) a.short) b.short

  pub damaged_in_one_place : (file at other place : ℕ) → IsDamagedStore m image file at → IsDamagedStore m image other place → (file ≡ other) × (at ≡ place)
  damaged_in_one_place file at other place (inl a) (inl b) = (a.0 ∙ sym b.0, damaged_once root_heading NameNone (image root_file) names_none_once at place a.1 b.1)
  damaged_in_one_place file at other place (inl a) (inr (g, named, b)) = absurd (whole_root (image root_file) g named at a.1)
  damaged_in_one_place file at other place (inr (g, named, a)) (inl b) = absurd (whole_root (image root_file) g named place b.1)
  damaged_in_one_place file at other place (inr (g, named, a)) (inr (h, again, b)) =
      let same = named_is_one (image root_file) g h named again in
      generation_once h file at other place (subst (λ (n : ℕ). IsDamagedGeneration m image n file at) same a) b
