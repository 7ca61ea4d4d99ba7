-- A store opens or is damaged: no image does neither.
use Rattle.std.proofs.Common.{◌≡◌, ◌≢◌, ◌≤◌, inl, inr, ℕ, zero, suc, List, [], ◌∷◌, ◌++◌, length, map, refl, sym, ap, subst, ◌∙◌, arith, append_assoc, length-append}
use Rattle.std.specs.List.{AllByRecursion}
use Rattle.std.proofs.lemmas.Bool.{cases_lt}
use Rattle.edge_traits.specs.Disk.{Image}
use Rattle.disk_journal.specs.GateFile.{HasBodies}
use Rattle.disk_journal.proofs.Either.{bodies_or_damage}
use Rattle.stored_types.specs.Code.{number}
use Rattle.step_code.specs.declared.base.Base.{Base}
use Rattle.step_code.specs.declared.output.Output.{Output}
use Rattle.step_code.specs.declared.step.Step.{Step}
use Rattle.step_code.specs.After.{after}
use Rattle.step_code.specs.Code.{code_of_base, code_of_step, first_format, IsWritable, IsWritableBase}
use Rattle.step_code.specs.History.{replay}
use Rattle.step_code.specs.Rules.{Meaning}
use Rattle.step_code.specs.Sound.{IsSound}
use Rattle.step_code.specs.Spent.{last_given}
use Rattle.store_image.specs.Damage.{AreNoHistory, IsDamagedFile, IsDamagedStore, IsNoStep, IsShort, NameNone}
use Rattle.store_image.specs.Files.{root_file, generation_file, out_file, heading_of, root_heading}
use Rattle.store_image.specs.Opens.{AreLong, AreReplayable, IsReplayable, Opens}
use Rattle.store_image.specs.Stored.{codes_of, AreRecords, HoldsSteps, IsRecord, NamesLast}
use Rattle.store_image.proofs.Standing.{replay-append}
use Rattle.store_image.proofs.Stops.{along_more, Stop}
use Rattle.store_image.proofs.Stored.{step_is_long}

-- ---- the root

abbrev AreGiven : List ℕ → Type 0
AreGiven named = AllByRecursion (λ n. n ≤ last_given) named

names_either : (bodies : List (List ℕ)) → ((named : List ℕ) → bodies ≡ map number named → AreGiven named → ⊥)
    → ((before : List ℕ) (body : List ℕ) (later : List (List ℕ)) → bodies ≡ map number before ++ body ∷ later → AreGiven before → ((n : ℕ) → n ≤ last_given → body ≢ number n) → ⊥) → ⊥
names_either [] all stops = all [] refl tt
names_either (body ∷ bodies) all stops =
    let none : (n : ℕ) → n ≤ last_given → body ≢ number n = λ n small is.
    names_either bodies (λ named same given. all (n ∷ named) (λ i. is i ∷ same i) (small, given))
    (λ before stop later splits given bad. stops (n ∷ before) stop later (λ i. is i ∷ splits i) (small, given) bad) in
    stops [] body bodies refl tt none

-- the last of some numbers
record HasLast (named : List ℕ) : Type 0 where
  before : List ℕ
  last : ℕ
  is : named ≡ before ++ last ∷ []

last_of : (n : ℕ) (named : List ℕ) → HasLast (n ∷ named)
last_of n [] = record { before = []; last = n; is = refl }
last_of n (k ∷ named) = let rest = last_of k named in record { before = n ∷ rest.before; last = rest.last; is = ap (λ l. n ∷ l) rest.is }

module _ (root : List ℕ) (has_none : (generation : ℕ) → NamesLast root generation → ⊥) (is_whole : (at : ℕ) → IsDamagedFile root_heading NameNone root at → ⊥) where
  all_named : (bodies : List (List ℕ)) → HasBodies root_heading bodies root → (named : List ℕ) → bodies ≡ map number named → AreGiven named → ⊥
  all_named bodies has [] same given = is_whole 16 (inr (bodies, has, inl (same, refl)))
  all_named bodies has (n ∷ named) same given =
      let found = last_of n named in
      has_none found.last (record {
        before = found.before;
        bodies = subst (λ (bs : List (List ℕ)). HasBodies root_heading bs root) (same ∙ ap (map number) found.is) has;
        given = subst AreGiven found.is given;
      })

  root_either : ⊥
  root_either =
      bodies_or_damage root_heading root
      (λ bodies has. names_either bodies (all_named bodies has)
      (λ before body later splits given bad. is_whole _ (inr (bodies, has, inr (record { before = before; body = body; later = later; splits = splits; given = given; bad = bad; place = refl })))))
      (λ at damaged. is_whole at (inl damaged))

-- ---- a generation

-- a step that can be replayed stands in front of more bytes
record HasMore (m : Meaning) (s : Base) (bytes : List ℕ) : Type 0 where
  step : Step
  rest : List ℕ
  writable : IsWritable step
  code : bytes ≡ code_of_step step ++ rest
  replayable : IsReplayable m s step
  some : rest ≡ [] → ⊥

module _ (m : Meaning) where
  body_ends : (s : Base) (bytes : List ℕ) → ((steps : List Step) → IsRecord bytes steps → AreReplayable m s steps → ⊥) → ((offset : ℕ) → IsNoStep m s bytes offset → ⊥) → (HasMore m s bytes → ⊥) → ⊥
  body_ends s bytes all stops no_more =
      stops 0 (record {
        front = [];
        behind = bytes;
        coded = tt;
        pass = tt;
        code = refl;
        goes_on = λ none. refl;
        bad = λ step rest writable code replayable.
            no_more (record {
              step = step;
              rest = rest;
              writable = writable;
              code = code;
              replayable = replayable;
              some = λ none. all (step ∷ []) (record { some = omega arith; writable = (writable, tt); code = code ∙ ap (λ r. code_of_step step ++ r) none }) (replayable, tt);
            });
        place = refl;
      })

  shorter : (s : Base) (bytes : List ℕ) (more : HasMore m s bytes) → suc (length more.rest) ≤ length bytes
  shorter s bytes more = omega (arith, ap length more.code, length-append (code_of_step more.step) more.rest, step_is_long more.step)

  record_behind : (s : Base) (bytes : List ℕ) (more : HasMore m s bytes) (steps : List Step) → IsRecord more.rest steps → IsRecord bytes (more.step ∷ steps)
  record_behind s bytes more steps is = record { some = omega arith; writable = (more.writable, is.writable); code = more.code ∙ ap (λ r. code_of_step more.step ++ r) is.code }

  stop_behind : (s : Base) (bytes : List ℕ) (more : HasMore m s bytes) (offset : ℕ) (stop : IsNoStep m (after m s more.step) more.rest offset) → IsNoStep m s bytes (length (codes_of (more.step ∷ stop.front)))
  stop_behind s bytes more offset stop = record {
    front = more.step ∷ stop.front;
    behind = stop.behind;
    coded = (more.writable, stop.coded);
    pass = (more.replayable, stop.pass);
    code = more.code ∙ ap (λ r. code_of_step more.step ++ r) stop.code ∙ sym (append_assoc (code_of_step more.step) (codes_of stop.front) stop.behind);
    goes_on = λ none. absurd (more.some (stop.code ∙ (λ i. codes_of (stop.goes_on none i) ++ none i)));
    bad = stop.bad;
    place = refl;
  }

  body_either : (most : ℕ) (s : Base) (bytes : List ℕ) → length bytes ≤ most → ((steps : List Step) → IsRecord bytes steps → AreReplayable m s steps → ⊥) → ((offset : ℕ) → IsNoStep m s bytes offset → ⊥) → ⊥
  body_either zero s bytes within all stops = body_ends s bytes all stops (λ more. omega (arith, within, shorter s bytes more))
  body_either (suc most) s bytes within all stops =
      body_ends s bytes all stops (λ more. body_either most (after m s more.step) more.rest (omega (arith, within, shorter s bytes more))
      (λ steps is replays. all (more.step ∷ steps) (record_behind s bytes more steps is) (more.replayable, replays)) (λ offset stop. stops _ (stop_behind s bytes more offset stop)))

  records_either : (s : Base) (bodies : List (List ℕ)) → ((steps : List Step) → AreRecords bodies steps → AreReplayable m s steps → ⊥) → ((before : List (List ℕ)) (offset : ℕ) → Stop m (IsReplayable m) s before bodies offset → ⊥) → ⊥
  records_either s [] all stops = all [] refl tt
  records_either s (body ∷ bodies) all stops =
      body_either (length body) s body (omega arith)
      (λ front is replays.
      records_either (replay m s front) bodies (λ steps content more. all (front ++ steps) (front, steps, refl, is, content) (along_more m (IsReplayable m) s front steps replays more))
      (λ before offset stop.
      stops (body ∷ before) offset (record {
        body = stop.body;
        later = stop.later;
        steps = front ++ stop.steps;
        splits = ap (λ bs. body ∷ bs) stop.splits;
        content = (front, stop.steps, refl, is, stop.content);
        pass = along_more m (IsReplayable m) s front stop.steps replays stop.pass;
        bad = subst (λ (t : Base). IsNoStep m t stop.body offset) (sym (replay-append m s front stop.steps)) stop.bad;
      })))
      (λ offset bad. stops [] offset (record { body = body; later = bodies; steps = []; splits = refl; content = refl; pass = tt; bad = bad }))

  module _ (bodies : List (List ℕ)) (is_none : (at : ℕ) → AreNoHistory m bodies at → ⊥) where
    history_either : (rest : List (List ℕ)) → bodies ≡ rest
        → ((base : Base) (records : List (List ℕ)) (steps : List Step) → bodies ≡ code_of_base first_format base ∷ records → IsWritableBase first_format base → IsSound m base → AreRecords records steps → AreReplayable m base steps → ⊥) → ⊥
    history_either [] same all = is_none 16 (inl (same, refl))
    history_either (body ∷ records) same all =
        let none : (base : Base) → IsWritableBase first_format base → IsSound m base → body ≢ code_of_base first_format base = λ base writable sound is.
        let splits : bodies ≡ code_of_base first_format base ∷ records = same ∙ ap (λ b. b ∷ records) is in
        records_either base records (λ steps content replays. all base records steps splits writable sound content replays)
        (λ before offset stop.
        is_none _ (inr (inr (record {
          base = base;
          records = records;
          splits = splits;
          writable = writable;
          sound = sound;
          bad = record {
            before = before;
            body = stop.body;
            later = stop.later;
            steps = stop.steps;
            offset = offset;
            splits = stop.splits;
            content = stop.content;
            pass = stop.pass;
            bad = stop.bad;
            place = refl;
          };
        })))) in
        is_none 25 (inr (inl (record { body = body; records = records; splits = same; bad = none; place = refl })))

  generation_either : (generation : ℕ) (file : List ℕ) → ((base : Base) (steps : List Step) → HoldsSteps generation file base steps → IsSound m base → AreReplayable m base steps → ⊥)
      → ((at : ℕ) → IsDamagedFile (heading_of first_format generation) (AreNoHistory m) file at → ⊥) → ⊥
  generation_either generation file has_none is_whole =
      bodies_or_damage (heading_of first_format generation) file
      (λ bodies has. history_either bodies (λ at none. is_whole at (inr (bodies, has, none))) bodies refl
      (λ base records steps splits writable sound content replays.
      has_none base steps (record { format = first_format; known = refl; records = records; bodies = subst (λ (bs : List (List ℕ)). HasBodies (heading_of first_format generation) bs file) splits has; writable = writable; content = content }) sound replays))
      (λ at damaged. is_whole at (inl damaged))

-- ---- the outputs

long_or_short : (k : ℕ) (outs : List Output) (image : Image) → (AreLong k outs image → ⊥) → ((file at : ℕ) → IsShort k outs image file at → ⊥) → ⊥
long_or_short k [] image long short = long tt
long_or_short k (out ∷ outs) image long short =
    elim (cases_lt (length (image (out_file k))) out.sealed_bytes) [
      | inl lt ↦ short (out_file k) (length (image (out_file k))) (inl (refl, refl, lt))
      | inr le ↦ long_or_short (suc k) outs image (λ others. long (le, others)) (λ file at later. short file at (inr (le, later)))
    ]

-- ---- a store

pub opens_or_damaged : (m : Meaning) (image : Image) → ((generation : ℕ) (base : Base) (steps : List Step) → Opens m image generation base steps → ⊥) → ((file at : ℕ) → IsDamagedStore m image file at → ⊥) → ⊥
opens_or_damaged m image is_closed is_whole =
    root_either (image root_file)
    (λ generation named. generation_either m generation (image (generation_file generation))
    (λ base steps holds sound replays. long_or_short 0 (replay m base steps).outs image
    (λ long. is_closed generation base steps (record { stored = record { named = named; holds = holds }; sound = sound; replays = replays; long = long }))
    (λ file at short. is_whole file at (inr (generation, named, inr (record { base = base; steps = steps; stored = record { named = named; holds = holds }; sound = sound; replays = replays; short = short })))))
    (λ at damaged. is_whole (generation_file generation) at (inr (generation, named, inl (refl, damaged)))))
    (λ at damaged. is_whole root_file at (inl (refl, damaged)))
