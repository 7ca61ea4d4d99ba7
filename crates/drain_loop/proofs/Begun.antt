-- What a call opens with, step by step.
use Rattle.std.proofs.Common.{◌≡◌, ◌≢◌, ◌≤◌, ◌+◌, ◌-◌, ◌++◌, ℕ, Bool, true, false, List, [], ◌∷◌, length, map, filter, find, Option, Some, None, Result, Ok, Err, OnOk, option_map, refl, sym, ap, subst, ◌∙◌, arith, append_assoc, length-append, if◌then◌else◌}
use Rattle.std.specs.List.{AllByRecursion, IsDistinct}
use Rattle.std.specs.Str.{bytes_eq}
use Rattle.std.proofs.lemmas.List.{map-append}
use Rattle.std.proofs.lemmas.Slice.Eq.{bytes_eq-Decides}
use Rattle.base_types.specs.declared.message.Moment.{Moment}
use Rattle.base_types.specs.Lists.{changed}
use Rattle.edge_traits.specs.Disk.{DiskView, Image, IsImage}
use Rattle.step_code.specs.declared.base.Base.{Base}
use Rattle.step_code.specs.declared.feed.Feed.{Feed}
use Rattle.step_code.specs.declared.rules.Facts.{Facts}
use Rattle.step_code.specs.declared.step.Step.{Step}
use Rattle.step_code.specs.declared.step.StepKind.{StepKind}
use Rattle.step_code.specs.declared.step.StepKind.TheVariants as kind
use Rattle.step_code.specs.After.{acted, after, next_round, renewed, with_feeds}
use Rattle.step_code.specs.Fits.{first_failing, parts}
use Rattle.history_laws.proofs.Pairs.{pairs-filter, to_distinct}
use Rattle.history_laws.proofs.SoundNames.{bots_apart}
use Rattle.step_code.specs.Rules.{AreSound, Meaning, collects, is_collector, last_moment, passes}
use Rattle.step_code.specs.State.{bots_in_force, bots_of, has_finished, is_feed}
use Rattle.turn_order.proofs.Actors.{IsNamed, all_named}
use Rattle.store_image.specs.Stands.{IsSealOf}
use Rattle.journal_book.specs.Book.{BookView}
use Rattle.journal_book.specs.Staged.{screened, staged, stamp, IsMove}
use Rattle.journal_book.proofs.OneMore.{may_stage}
use Rattle.book_runs.specs.Commit.{readied}
use Rattle.book_runs.specs.GoesOn.{longer, GoesOn}
use Rattle.book_runs.proofs.Going.{goes_further, goes_nowhere}
use Rattle.drain_turns.specs.Drained.{Drains, Ends, IsDue, IsMade, IsNextKind, Place}
use Rattle.drain_turns.specs.Turn.{Outside, MayShow}
use Rattle.drain_turns.specs.declared.end.TurnsEnd.{TurnsEnd}
use Rattle.drain_turns.proofs.Opened.{reload_bundle, reload_feeds}
use Rattle.drain_turns.proofs.Turning.{all_kept}
use Rattle.drain_loop.specs.Calls.{place_with, round_of, rounds_of, with_bundle, IsOpened}
use Rattle.drain_loop.specs.Opening.{HaveFinished, IsPlain}
use Rattle.drain_loop.proofs.Turning.{behind_is}
use Rattle.step_code.specs.Code.{first_format}

-- ---- a step that carries nothing

plain_stays : (m : Meaning) (s : Base) (now : ℕ) (what : StepKind) → IsPlain what → screened m s now what ≡ what
plain_stays m s now kind.Start plain = refl
plain_stays m s now (kind.Collect bot from upto piece) plain = absurd plain
plain_stays m s now (kind.FeedEnd bot position) plain = absurd plain
plain_stays m s now (kind.Take bot instance message) plain = absurd plain
plain_stays m s now (kind.Done bot instance message bundle sends dumps key line) plain = absurd plain
plain_stays m s now (kind.Retry bot instance message bundle note) plain = absurd plain
plain_stays m s now (kind.Fail bot instance message bundle note queues halts) plain = absurd plain
plain_stays m s now (kind.Reload bundle) plain = refl
plain_stays m s now (kind.Redo dump) plain = absurd plain
plain_stays m s now (kind.Round bot) plain = refl

pub plain_move : (m : Meaning) (format : ℕ) (s : Base) (now : ℕ) (what : StepKind) → IsPlain what → IsMove m format s now what
plain_move m format s now kind.Start plain = tt
plain_move m format s now (kind.Collect bot from upto piece) plain = absurd plain
plain_move m format s now (kind.FeedEnd bot position) plain = absurd plain
plain_move m format s now (kind.Take bot instance message) plain = absurd plain
plain_move m format s now (kind.Done bot instance message bundle sends dumps key line) plain = absurd plain
plain_move m format s now (kind.Retry bot instance message bundle note) plain = absurd plain
plain_move m format s now (kind.Fail bot instance message bundle note queues halts) plain = absurd plain
plain_move m format s now (kind.Reload bundle) plain = tt
plain_move m format s now (kind.Redo dump) plain = absurd plain
plain_move m format s now (kind.Round bot) plain = tt

pub plain_staged : (m : Meaning) (s : Base) (now : ℕ) (what : StepKind) → IsPlain what → (staged m s now what).what ≡ what
plain_staged m s now what plain = plain_stays m s (stamp s now).0 what plain

pub plain_fits : (m : Meaning) (s : Base) (now : ℕ) (what : StepKind) → IsPlain what → first_failing (parts m s what) ≡ None → first_failing (parts m s (staged m s now what).what) ≡ None
plain_fits m s now what plain fits = subst (λ (w : StepKind). first_failing (parts m s w) ≡ None) (sym (plain_staged m s now what plain)) fits

pub never_none : (what : StepKind) (later : List StepKind) → what ∷ later ≡ [] → ⊥
never_none what later is = cc

pub opening_due : (o : Outside) (p : Place) (what : StepKind) (later : List StepKind) (now : ℕ) → p.opening ≡ what ∷ later → p.left ≢ Some 0 → p.state.latest.0 ≤ last_moment → IsPlain what → first_failing (parts o.meaning p.state what) ≡ None
    → MayShow o.clock now → IsDue o p (staged o.meaning p.state now what)
opening_due o p what later now opening left latest plain fits shows = record {
  busy = λ none. absurd (never_none what later (sym opening ∙ none));
  left = left;
  next = subst (λ (os : List StepKind). IsNextKind o p.state os (staged o.meaning p.state now what).what) (sym opening) (plain_staged o.meaning p.state now what plain);
  may = may_stage o.meaning first_format p.state now what latest (plain_fits o.meaning p.state now what plain fits) (plain_move o.meaning first_format p.state (stamp p.state now).0 what plain);
  moment = (now, shows, refl);
}

-- ---- how many steps may still be made

none_fewer : (left : Option ℕ) → left ≡ option_map (λ n. n - 0) left
none_fewer None = refl
none_fewer (Some n) = ap (λ (k : ℕ). Some k) (omega arith)

fewer_of : (n a b : ℕ) → n - (a + b) ≡ (n - a) - b
fewer_of n a b = omega arith

fewer_on : (start left fewer : Option ℕ) (front rest : List Step) → left ≡ option_map (λ n. n - length front) start → fewer ≡ option_map (λ n. n - length rest) left → fewer ≡ option_map (λ n. n - length (front ++ rest)) start
fewer_on None left fewer front rest one more = more ∙ ap (option_map (λ n. n - length rest)) one
fewer_on (Some n) left fewer front rest one more =
    more ∙ ap (option_map (λ n. n - length rest)) one ∙ ap (λ (k : ℕ). Some k) (sym (fewer_of n (length front) (length rest)) ∙ ap (λ (k : ℕ). n - k) (sym (length-append front rest)))

-- ---- which steps were made

kinds_on : (opening between later : List StepKind) (front rest : List Step) → opening ≡ map (λ step. step.what) front ++ between → between ≡ map (λ step. step.what) rest ++ later → opening ≡ map (λ step. step.what) (front ++ rest) ++ later
kinds_on opening between later front rest one more =
    one ∙ ap (λ (ks : List StepKind). map (λ (step : Step). step.what) front ++ ks) more ∙ sym (append_assoc (map (λ (step : Step). step.what) front) (map (λ (step : Step). step.what) rest) later)
    ∙ ap (λ (ks : List StepKind). ks ++ later) (sym (map-append (λ (step : Step). step.what) front rest))

-- ---- steps one behind the other

module _ {D R : Type 0} {disk : D → DiskView} where
  -- none is made
  pub opens_none : (o : Outside) (later : List StepKind) (left : Option ℕ) (book : BookView D R) → ((image : Image) → (disk book.disk).left_since (disk book.disk).moment image → IsImage (disk book.disk).may_leave image)
      → IsOpened disk o (place_with later book left) later book book (Ok left)
  opens_none o later left book only = record { made = []; goes_on = goes_nowhere book only; opens = λ more last rest. rest; left = none_fewer left; kinds = refl }

  -- the call ends at once
  pub ends_opening : (o : Outside) (start : Place) (later : List StepKind) (old new : BookView D R) (last : TurnsEnd) → Ends o start last → GoesOn disk o.meaning old new [] → IsOpened disk o start later old new (Err last)
  ends_opening o start later old new last ends still = record { made = []; goes_on = still; opens = ends; left = tt; kinds = tt }

  -- where it ends, no steps to come matter
  pub ends_anyhow : (o : Outside) (start : Place) (later other : List StepKind) (old new : BookView D R) (last : TurnsEnd) → IsOpened disk o start later old new (Err last) → IsOpened disk o start other old new (Err last)
  ends_anyhow o start later other old new last is = record { made = is.made; goes_on = is.goes_on; opens = is.opens; left = tt; kinds = tt }

  -- one is made
  pub opens_one : (o : Outside) (what : StepKind) (later : List StepKind) (left fewer : Option ℕ) (old new : BookView D R) (step : Step) → o.limit ≡ old.limit → IsMade o (place_with (what ∷ later) old left) step → GoesOn disk o.meaning old new (step ∷ [])
      → new ≡ longer o.meaning (readied old) (step ∷ []) new → fewer ≡ option_map (λ n. n - 1) left → IsOpened disk o (place_with (what ∷ later) old left) later old new (Ok fewer)
  opens_one o what later left fewer old new step limit made goes_on book is = record {
    made = step ∷ [];
    goes_on = goes_on;
    opens = λ more last rest. (
      made,
      subst (λ (p : Place). Drains o p more last) (sym (behind_is o (what ∷ later) left old new step limit book)) (subst (λ (l : Option ℕ). Drains o (place_with later new l) more last) is rest),
    );
    left = is;
    kinds = ap (λ (w : StepKind). w ∷ later) (sym made.due.next);
  }

  -- and others behind
  pub opens_more : (o : Outside) (start : Place) (between later : List StepKind) (left : Option ℕ) (old mid new : BookView D R) (r : Result (Option ℕ) TurnsEnd) → IsOpened disk o start between old mid (Ok left)
      → IsOpened disk o (place_with between mid left) later mid new r → IsOpened disk o start later old new r
  opens_more o start between later left old mid new (Ok fewer) front rest = record {
    made = front.made ++ rest.made;
    goes_on = goes_further old mid new front.made rest.made front.goes_on rest.goes_on;
    opens = λ more last drains. subst (λ (ss : List Step). Drains o start ss last) (sym (append_assoc front.made rest.made more)) (front.opens (rest.made ++ more) last (rest.opens more last drains));
    left = fewer_on start.left left fewer front.made rest.made front.left rest.left;
    kinds = kinds_on start.opening between later front.made rest.made front.kinds rest.kinds;
  }
  opens_more o start between later left old mid new (Err last) front rest = record {
    made = front.made ++ rest.made;
    goes_on = goes_further old mid new front.made rest.made front.goes_on rest.goes_on;
    opens = front.opens rest.made last rest.opens;
    left = tt;
    kinds = tt;
  }

-- ---- rounds depend on the bundle and the feeds alone

pub same_rounds : (m : Meaning) (a b : Base) (asked : Bool) → a.bundle ≡ b.bundle → a.feeds ≡ b.feeds → rounds_of m a asked ≡ rounds_of m b asked
same_rounds m a b asked bundle feeds =
    ap (λ (x : List ℕ). rounds_of m (record a { bundle = x }) asked) bundle ∙ ap (λ (fs : List Feed). rounds_of m (record a { bundle = b.bundle; feeds = fs }) asked) feeds

pub same_rounds_with : (m : Meaning) (a b : Base) (bundle : Option (List ℕ)) (asked : Bool) → a.bundle ≡ b.bundle → a.feeds ≡ b.feeds → rounds_of m (with_bundle m a bundle) asked ≡ rounds_of m (with_bundle m b bundle) asked
same_rounds_with m a b None asked bundle feeds = same_rounds m a b asked bundle feeds
same_rounds_with m a b (Some code) asked bundle feeds =
    same_rounds m (with_bundle m a (Some code)) (with_bundle m b (Some code)) asked (reload_bundle m a code ∙ sym (reload_bundle m b code))
    (reload_feeds m a code
    ∙ ap (λ (x : List ℕ). with_feeds (bots_of m code) (map (renewed (bots_of m x) (bots_of m code)) a.feeds)) bundle
    ∙ ap (λ (fs : List Feed). with_feeds (bots_of m code) (map (renewed (bots_in_force m b) (bots_of m code)) fs)) feeds
    ∙ sym (reload_feeds m b code))

-- ---- one collector's round leaves the others

other_feed : (bot other : List ℕ) (feeds : List Feed) → bytes_eq bot other ≡ false → find (is_feed other) (changed (is_feed bot) next_round feeds) ≡ find (is_feed other) feeds
other_feed bot other [] differ = refl
other_feed bot other (f ∷ fs) differ = go (is_feed bot f) refl (other_feed bot other fs differ)
  where
    not_other : is_feed bot f ≡ true → is_feed other f ≡ false
    not_other is = subst (λ (name : List ℕ). bytes_eq name other ≡ false) (sym ((bytes_eq-Decides f.bot bot).0 is)) differ

    go : (b : Bool) → is_feed bot f ≡ b → find (is_feed other) (changed (is_feed bot) next_round fs) ≡ find (is_feed other) fs → find (is_feed other) (changed (is_feed bot) next_round (f ∷ fs)) ≡ find (is_feed other) (f ∷ fs)
    go true is later = rw (is, not_other is) refl
    go false is later = rw (is) (here (is_feed other f) later)
      where
        here : (b : Bool) → find (is_feed other) (changed (is_feed bot) next_round fs) ≡ find (is_feed other) fs
            → (if b then Some f else find (is_feed other) (changed (is_feed bot) next_round fs)) ≡ (if b then Some f else find (is_feed other) fs)
        here true later = refl
        here false later = later

pub still_finished : (m : Meaning) (s : Base) (bot : List ℕ) (now : Moment) (others : List (List ℕ)) → AllByRecursion (λ other. bytes_eq bot other ≡ false) others → HaveFinished m s others
    → HaveFinished m (after m s (record { moment = now; what = kind.Round bot })) others
still_finished m s bot now [] differ finished = tt
still_finished m s bot now (other ∷ others) differ finished = (
  (finished.0.0, ap (passes (λ (f : Feed). f.finished)) (other_feed bot other s.feeds differ.0) ∙ finished.0.1),
  still_finished m s bot now others differ.1 finished.1,
)

-- ---- the collectors that have finished

-- those of these bots, and their names
abbrev pub finished_among : Base → List Facts → List Facts
finished_among s bots = filter (λ f. has_finished f.bot s) (filter collects bots)

pub names_differ : (s : Base) (bots : List Facts) → AreSound bots → IsDistinct bytes_eq (map (λ f. f.bot) (finished_among s bots))
names_differ s bots sound =
    to_distinct bytes_eq (λ (f : Facts). f.bot) (finished_among s bots)
    (pairs-filter (λ (f g : Facts). bytes_eq f.bot g.bot ≡ false) (λ f. has_finished f.bot s) (filter collects bots)
    (pairs-filter (λ (f g : Facts). bytes_eq f.bot g.bot ≡ false) collects bots (bots_apart bots sound)))

pub names_finished : (m : Meaning) (s : Base) → AreSound (bots_in_force m s) → HaveFinished m s (map (λ f. f.bot) (finished_among s (bots_in_force m s)))
names_finished m s sound =
    named (finished_among s (bots_in_force m s))
    (all_kept (λ (f : Facts). IsNamed (bots_in_force m s) f × (collects f ≡ true)) Has (λ f. has_finished f.bot s) (filter collects (bots_in_force m s))
    (λ f is ended. (ap (passes collects) is.0 ∙ is.1, ended))
    (all_kept (IsNamed (bots_in_force m s)) (λ (f : Facts). IsNamed (bots_in_force m s) f × (collects f ≡ true)) collects (bots_in_force m s) (λ f is test. (is, test)) (all_named (bots_in_force m s) sound.order)))
  where
    Has : Facts → Type 0
    Has f = (is_collector (bots_in_force m s) f.bot ≡ true) × (has_finished f.bot s ≡ true)

    named : (fs : List Facts) → AllByRecursion Has fs → HaveFinished m s (map (λ f. f.bot) fs)
    named [] all = tt
    named (f ∷ fs) all = (all.0, named fs all.1)

pub rounds_named : (fs : List Facts) → map round_of (map (λ f. f.bot) fs) ≡ map (λ f. round_of f.bot) fs
rounds_named [] = refl
rounds_named (f ∷ fs) = ap (λ ks. kind.Round f.bot ∷ ks) (rounds_named fs)

-- ---- a reload

on_ok : {T E : Type 0} (P Q : Type 0) (r : Result T E) → (P → Q) → OnOk r P → OnOk r Q
on_ok P Q (Ok x) gives is = gives is
on_ok P Q (Err e) gives is = tt

reload_rounds : (m : Meaning) (s t : Base) (step : Step) (code : List ℕ) (asked : Bool) → step.what ≡ kind.Reload code → IsSealOf (after m s step) t → rounds_of m t asked ≡ rounds_of m (with_bundle m s (Some code)) asked
reload_rounds m s t step code asked what is =
    let now : Base = record s { steps = s.steps + 1; latest = step.moment } in
    let state : after m s step ≡ with_bundle m now (Some code) = ap (acted m step.moment now) what in
    same_rounds m t (after m s step) asked (ap (λ (b : Base). b.bundle) is.same) (ap (λ (b : Base). b.feeds) is.same) ∙ ap (λ (b : Base). rounds_of m b asked) state ∙ same_rounds_with m now s (Some code) asked refl refl

pub rounds_behind : (m : Meaning) (s t : Base) (bundle : Option (List ℕ)) (code : List ℕ) (asked : Bool) (r : Result (Option ℕ) TurnsEnd) → bundle ≡ Some code
    → OnOk r ((step : Step) × (step.what ≡ kind.Reload code) × IsSealOf (after m s step) t) → OnOk r (rounds_of m t asked ≡ rounds_of m (with_bundle m s bundle) asked)
rounds_behind m s t bundle code asked r named is =
    on_ok _ _ r (λ made. reload_rounds m s t made.0 code asked made.1 made.2 ∙ ap (λ (b : Option (List ℕ)). rounds_of m (with_bundle m s b) asked) (sym named)) is

-- a start changes neither the bundle nor the feeds
pub rounds_started : (m : Meaning) (s t : Base) (step : Step) (bundle : Option (List ℕ)) (asked : Bool) → step.what ≡ kind.Start → IsSealOf (after m s step) t → rounds_of m (with_bundle m t bundle) asked ≡ rounds_of m (with_bundle m s bundle) asked
rounds_started m s t step bundle asked what is =
    let now : Base = record s { steps = s.steps + 1; latest = step.moment } in
    let state : after m s step ≡ acted m step.moment now kind.Start = ap (acted m step.moment now) what in
    same_rounds_with m t s bundle asked (ap (λ (b : Base). b.bundle) is.same ∙ ap (λ (b : Base). b.bundle) state) (ap (λ (b : Base). b.feeds) is.same ∙ ap (λ (b : Base). b.feeds) state)

-- ---- rounds one behind the other

pub no_names : {A : Type 0} (xs : List A) → length xs ≡ 0 → xs ≡ []
no_names [] none = refl
no_names (x ∷ xs) none = absurd (cc (none))

-- sealing changes neither the bots nor the feeds
finished_sealed : (m : Meaning) (s t : Base) (others : List (List ℕ)) → IsSealOf s t → HaveFinished m s others → HaveFinished m t others
finished_sealed m s t others is finished =
    subst (λ (fs : List Feed). HaveFinished m (record t { feeds = fs }) others) (sym (ap (λ (b : Base). b.feeds) is.same))
    (subst (λ (x : List ℕ). HaveFinished m (record t { bundle = x; feeds = s.feeds }) others) (sym (ap (λ (b : Base). b.bundle) is.same)) (only_those m s t others finished))
  where
    only_those : (m : Meaning) (s t : Base) (others : List (List ℕ)) → HaveFinished m s others → HaveFinished m (record t { bundle = s.bundle; feeds = s.feeds }) others
    only_those m s t [] finished = tt
    only_those m s t (other ∷ others) finished = (finished.0, only_those m s t others finished.1)

pub later_finished : (m : Meaning) (s t : Base) (step : Step) (bot : List ℕ) (names others : List (List ℕ)) → names ≡ bot ∷ others → step.what ≡ kind.Round bot → IsSealOf (after m s step) t → IsDistinct bytes_eq names → HaveFinished m s names
    → HaveFinished m t others
unfolding IsDistinct
later_finished m s t step bot names others are what is distinct finished =
    let apart : IsDistinct bytes_eq (bot ∷ others) = subst (IsDistinct bytes_eq) are distinct in
    let each : HaveFinished m s (bot ∷ others) = subst (HaveFinished m s) are finished in
    let step_is : step ≡ record { moment = step.moment; what = kind.Round bot } = ap (λ (w : StepKind). let it : Step = record { moment = step.moment; what = w } in it) what in
    finished_sealed m (after m s step) t others is (subst (λ (it : Step). HaveFinished m (after m s it) others) (sym step_is) (still_finished m s bot step.moment others apart.0 each.1))

pub later_distinct : (bot : List ℕ) (names others : List (List ℕ)) → names ≡ bot ∷ others → IsDistinct bytes_eq names → IsDistinct bytes_eq others
unfolding IsDistinct
later_distinct bot names others are distinct = let apart : IsDistinct bytes_eq (bot ∷ others) = subst (IsDistinct bytes_eq) are distinct in apart.1
