-- A collector, one hold after the other.
use Rattle.std.proofs.Common.{◌≡◌, ◌⊎◌, inl, inr, ◌<◌, ◌≤◌, arith, ℕ, Bool, true, List, [], length, Option, Some, None, IfSome, IsSomeAnd, refl, sym, ap, subst, ◌∙◌}
use Rattle.std.specs.Prelude.{◌≢◌}
use Rattle.std.proofs.lemmas.List.{append-nil}
use mathlib.Core.List.{IsPrefix}
use Rattle.step_code.specs.declared.base.Base.{Base}
use Rattle.edge_traits.specs.Disk.{DiskView}
use Rattle.step_code.specs.declared.rules.Facts.{Facts}
use Rattle.step_code.specs.declared.rules.FeedFacts.{FeedFacts}
use Rattle.step_code.specs.History.{replay}
use Rattle.step_code.specs.Rules.{Meaning, bot_named}
use Rattle.step_code.specs.State.{bots_in_force, position_of}
use Rattle.journal_book.specs.Book.{BookView}
use Rattle.book_lock.specs.Lock.{AllAt}
use Rattle.book_lock.specs.Seats.{Known, grown}
use Rattle.collector_feeds.specs.Found.{IsAhead}
use Rattle.collector_feeds.specs.Open.{IsThere}
use Rattle.drain_turns.specs.Turn.{is_backed_up}
use Rattle.locked_book.specs.Entries.{entries_of}
use Rattle.locked_book.specs.Locked.{IsRound, LockedView}
use Rattle.locked_book.specs.declared.entry.Entry.{Entry}
use Rattle.worker_turns.specs.Collecting.{HasNoLook, IsCollectorStep, IsFault, IsInSight, IsLooked, IsPlace, IsSight, IsTrueOf, StandsAt}
use Rattle.worker_turns.specs.Holds.{Adds}
use Rattle.worker_turns.specs.declared.collector.Collector.{Collector}
use Rattle.worker_turns.specs.declared.looked.FeedFault.{FeedFault}
use Rattle.worker_turns.specs.declared.looked.FeedFault.TheVariants as fault
use Rattle.worker_turns.specs.declared.looked.Looked.{Looked}
use Rattle.worker_turns.specs.declared.looked.Looked.TheVariants as looked
use Rattle.worker_turns.specs.declared.place.Place.{Place}
use Rattle.worker_turns.specs.declared.place.Sight.{Sight}
use Rattle.worker_turns.specs.declared.turned.HoldEnd.{HoldEnd}
use Rattle.worker_turns.proofs.Collecting.{facts_in_force}
use Rattle.worker_turns.proofs.Seen.{sight_seen}
use Rattle.bot_runner.specs.Feeds.{HasHeldFeed, HasLookedOn, IsAtFeed, IsFeedCome, IsReadWhy}
use Rattle.bot_runner.specs.Parts.{why_of, HasEnded, IsNew, IsPart}
use Rattle.bot_runner.specs.Round.{CollectorEnds, IsUnreadable, IsUnreadableAt, IsWhy}
use Rattle.bot_runner.specs.declared.collector_part.Reading.{Reading}
use Rattle.bot_runner.specs.declared.worker.Why.{Why}
use Rattle.bot_runner.specs.declared.worker.Why.TheVariants as why
use Rattle.bot_runner.proofs.Entries.{same_opening}
use Rattle.bot_runner.proofs.Instances.{over, some_on, state_of, state_on, why_is}
use Rattle.bot_runner.proofs.Parts.{begins, finds, grows, holds_on, Grows}

-- what was found where the collector looks now, and of which no more can be read
unreadable : {D R : Type 0} {disk : D → DiskView} (m : Meaning) (told : Option (List ℕ)) (bot file : List ℕ) (v : LockedView D R) (sight : Option Sight) (cause : FeedFault) → IsRound disk m v.opening v.made v.book v.mark
    → IfSome sight (λ s. IsSight m v bot file s × IsTrueOf told s) → IsSomeAnd sight (λ s. IsInSight m v.book.state bot s.place × IsFault s cause) → IsUnreadable m told bot file v.book.state cause
unreadable m told bot file v None cause round is found = absurd found
unreadable m told bot file v (Some s) cause round is found =
    subst (λ (x : Option FeedFacts). IsSomeAnd x (λ facts. (facts.file ≡ file) × IsUnreadableAt told facts (position_of bot v.book.state) cause)) (sym (facts_in_force v bot file s.place round is.0.place found.0))
    (is.0.place.file_is, subst (λ (n : ℕ). IsUnreadableAt told s.place.facts n cause) found.0.at (stands cause found.1))
  where
    stands : (c : FeedFault) → IsFault s c → IsUnreadableAt told s.place.facts s.place.at c
    stands (fault.Short have need) f = (f.1, subst (StandsAt told s.place.facts s.place.at) f.0 is.1)
    stands (fault.LongLine line) f = subst (StandsAt told s.place.facts s.place.at) f is.1
    stands fault.LongFeed f = subst (StandsAt told s.place.facts s.place.at) f is.1

module _ {D R : Type 0} (m : Meaning) (clock left : Option ℕ) (o : BookView D R) (told : Option (List ℕ)) (bot file : List ℕ) (k : Known (Entry (BookView D R))) (reading : Reading) (at : IsAtFeed m clock left o told bot file k reading)
    (old : LockedView D R) (found : List (Entry (BookView D R))) (is : found ≡ entries_of m old) (front : IsPrefix k.seen found) where
  on : IsPrefix (entries_of m at.v) (entries_of m old)
  on = finds m (IsCollectorStep m clock told bot file) left o k at.v old found at.part.seen is front

  finds_both : IfSome reading.sight (λ s. IsSight m old bot file s × IsTrueOf told s)
  finds_both = some_on reading.sight (λ (s : Sight) is. (sight_seen m at.v old bot file s on is.0, is.1)) at.sight

  pub finds_sight : (sight : Option Sight) → sight ≡ reading.sight → IfSome sight (IsSight m old bot file)
  finds_sight sight same = subst (λ (x : Option Sight). IfSome x (IsSight m old bot file)) (sym same) (some_on reading.sight (λ (s : Sight) is. is.0) finds_both)

  finds_true : (sight : Option Sight) → sight ≡ reading.sight → IfSome sight (IsTrueOf told)
  finds_true sight same = subst (λ (x : Option Sight). IfSome x (IsTrueOf told)) (sym same) (some_on reading.sight (λ (s : Sight) is. is.1) finds_both)

  module _ (new : LockedView D R) (worker : Collector) (sight : Option Sight) (same : sight ≡ reading.sight)
      (still : old.mark ≢ None → (new ≡ old) × (worker ≡ reading.worker)) (adds : old.mark ≡ None → (content : Option (List ℕ)) → IfSome sight (IsTrueOf content) → Adds m (IsCollectorStep m clock content bot file) old new reading.worker.steps.items worker.steps.items)
      (few : IfSome left (λ most. (new.made ≡ old.made) ⊎ (length new.made ≤ most))) where
    pub feed_grows : Grows m (IsCollectorStep m clock told bot file) left old new reading.worker.steps.items worker.steps.items
    feed_grows = grows {left = left} old new reading.worker.steps.items worker.steps.items (λ some. let s = still some in (s.0, ap (λ (w : Collector). w.steps.items) s.1)) (λ none. adds none told (finds_true sight same)) few

    -- a hold
    pub feed_held : {disk : D → DiskView} (reading' : Reading) (to : Looked) → reading'.worker ≡ worker → reading'.sight ≡ None → AllAt found k.mine → IsRound disk m old.opening old.made old.book old.mark → worker ≡ record reading.worker { steps = worker.steps }
        → IsLooked m left old new bot file sight to → HasHeldFeed m clock left o told bot file (grown k found (entries_of m new)) reading' to
    feed_held reading' to worker_is none mine round only_steps looks =
        let state : old.book.state ≡ replay m old.opening.state old.made = state_of old round in
        let first : old.opening ≡ o = same_opening m at.v old on ∙ at.part.seen.opening in
        let now : new.book.state ≡ replay m o.state new.made = state_on old new _ _ state feed_grows ∙ ap (λ (b : BookView D R). replay m b.state new.made) (feed_grows.opening ∙ first) in
        record {
          at = record {
            v = new;
            part = subst (λ (w : Collector). IsPart m (IsCollectorStep m clock told bot file) left o (grown k found (entries_of m new)) w.steps.items new) (sym worker_is)
                (holds_on m (IsCollectorStep m clock told bot file) left o k reading.worker.steps.items worker.steps.items at.v old new found at.part is front mine state feed_grows);
            bot_is = ap (λ (w : Collector). w.bot) (worker_is ∙ only_steps) ∙ at.bot_is;
            file_is = ap (λ (w : Collector). w.file) (worker_is ∙ only_steps) ∙ at.file_is;
            sight = subst (λ (x : Option Sight). IfSome x (λ s. IsSight m new bot file s × IsTrueOf told s)) (sym none) tt;
          };
          came = came to now looks;
        }
      where
        came : (t : Looked) → new.book.state ≡ replay m o.state new.made → IsLooked m left old new bot file sight t → IsFeedCome m left o told bot file new t
        came (looked.Looks place) now looks = (looks.1, subst (λ (s : Base). IsSomeAnd (bot_named bot (bots_in_force m s)) (λ f. place.retries ≡ f.retries)) now looks.2.retries)
        came (looked.Waits n held) now looks =
            let both : IsSight m old bot file held × IsTrueOf told held = subst (λ (x : Option Sight). IfSome x (λ s. IsSight m old bot file s × IsTrueOf told s)) (sym same ∙ looks.1) finds_both in
            let steps : n ≡ new.book.state.steps = looks.2 ∙ ap (λ (v : LockedView D R). v.book.state.steps) (sym looks.0) in
            let backed : is_backed_up m new.book.state ≡ true = ap (λ (v : LockedView D R). is_backed_up m v.book.state) looks.0 ∙ looks.3 in
            (subst (λ (v : LockedView D R). IsSight m v bot file held) (sym looks.0) both.0, both.1, steps ∙ ap (λ (s : Base). s.steps) now, subst (λ (s : Base). is_backed_up m s ≡ true) now backed)
        came (looked.Nothing n idle) now looks = (looks.1 ∙ ap (λ (s : Base). s.steps) now, subst (λ (s : Base). HasNoLook m s bot file) now looks.3)
        came (looked.Unreadable cause) now looks =
            subst (λ (s : Base). IsUnreadable m told bot file s cause) (ap (λ (v : LockedView D R). v.book.state) (sym looks.0) ∙ now)
            (unreadable m told bot file old sight cause round (subst (λ (x : Option Sight). IfSome x (λ s. IsSight m old bot file s × IsTrueOf told s)) (sym same) finds_both) looks.1)
        came (looked.Ended cause) now looks = over left old new cause (λ some. (still some).0) looks

-- it looks for nothing, or its piece waits
abbrev Rests : Meaning → List ℕ → List ℕ → Base → Type 0
Rests m bot file s = HasNoLook m s bot file ⊎ (is_backed_up m s ≡ true)

-- why a read ends a part
fewer : (retries failed : ℕ) (f : Option Facts) → IsSomeAnd f (λ x. retries ≡ x.retries) → retries < failed → IsSomeAnd f (λ x. x.retries < failed)
fewer retries failed None is more = absurd is
fewer retries failed (Some x) is more = omega (arith, is, more)

read_why : {D R : Type 0} (m : Meaning) (left : Option ℕ) (told : Option (List ℕ)) (bot file : List ℕ) (s : Base) (v : LockedView D R) (retries : ℕ) (cause : Why) → IsSomeAnd (bot_named bot (bots_in_force m (replay m s v.made))) (λ f. retries ≡ f.retries)
    → IsReadWhy retries cause → IsWhy m left (CollectorEnds m told bot file) s v.made v.mark cause
read_why m left told bot file s v retries (why.Quiet at) tries is = absurd is
read_why m left told bot file s v retries why.Half tries is = absurd is
read_why m left told bot file s v retries why.Left tries is = absurd is
read_why m left told bot file s v retries why.Stop tries is = absurd is
read_why m left told bot file s v retries (why.Feed failed) tries is =
    record { front = v.made; rest = []; splits = sym (append-nil v.made); is = fewer retries failed (bot_named bot (bots_in_force m (replay m s v.made))) tries is }
read_why m left told bot file s v retries (why.Unreadable cause) tries is = absurd is
read_why m left told bot file s v retries (why.Refused cause) tries is = absurd is
read_why m left told bot file s v retries why.Disk tries is = absurd is
read_why m left told bot file s v retries why.Memory tries is = tt

module _ {D R : Type 0} (m : Meaning) (clock left : Option ℕ) (o : BookView D R) (told : Option (List ℕ)) (bot file : List ℕ) (k : Known (Entry (BookView D R))) where
  -- a collector with the same steps, and something in sight
  at_sight : (reading reading' : Reading) (at : IsAtFeed m clock left o told bot file k reading) → reading'.worker ≡ reading.worker → IfSome reading'.sight (λ s. IsSight m at.v bot file s × IsTrueOf told s) → IsAtFeed m clock left o told bot file k reading'
  at_sight reading reading' at same sight = record {
    v = at.v;
    part = subst (λ (w : Collector). IsPart m (IsCollectorStep m clock told bot file) left o k w.steps.items at.v) (sym same) at.part;
    bot_is = ap (λ (w : Collector). w.bot) same ∙ at.bot_is;
    file_is = ap (λ (w : Collector). w.file) same ∙ at.file_is;
    sight = sight;
  }

  pub has_read : (reading reading' : Reading) (place : Place) (cause : Option Why) → HasHeldFeed m clock left o told bot file k reading (looked.Looks place) → reading'.worker ≡ reading.worker
      → IfSome reading'.sight (λ s. (s.place ≡ place) × IsAhead s.place.at s.found × IsThere s.found × IsTrueOf told s) → IfSome cause (IsReadWhy place.retries) → HasLookedOn m clock left o told bot file k reading' cause
  unfolding at_sight
  has_read reading reading' place cause h same sight because = record {
    at = at_sight reading reading' h.at same (some_on reading'.sight (λ (s : Sight) is. (record { place = subst (IsPlace m h.at.v bot file) (sym is.0) h.came.0; ahead = is.1; there = is.2 }, is.3)) sight);
    why = some_on cause (λ (w : Why) is. read_why m left told bot file o.state h.at.v place.retries w h.came.1 is) because;
  }

  quiet : (v : LockedView D R) (n : ℕ) → n ≡ (replay m o.state v.made).steps → Rests m bot file (replay m o.state v.made) → (w : Why) → w ≡ why.Quiet n → IsWhy m left (CollectorEnds m told bot file) o.state v.made v.mark w
  quiet v n number rests w is = subst (IsWhy m left (CollectorEnds m told bot file) o.state v.made v.mark) (sym is) (record { front = v.made; rest = []; splits = sym (append-nil v.made); is = (number, rests) })

  pub has_waited : (reading reading' : Reading) (n : ℕ) (held : Sight) (cause : Option Why) → HasHeldFeed m clock left o told bot file k reading (looked.Waits n held) → reading'.worker ≡ reading.worker → reading'.sight ≡ Some held
      → IfSome cause (λ w. w ≡ why.Quiet n) → HasLookedOn m clock left o told bot file k reading' cause
  unfolding at_sight
  has_waited reading reading' n held cause h same sight because = record {
    at = at_sight reading reading' h.at same (subst (λ (x : Option Sight). IfSome x (λ s. IsSight m h.at.v bot file s × IsTrueOf told s)) (sym sight) (h.came.0, h.came.1));
    why = some_on cause (λ (w : Why) is. quiet h.at.v n h.came.2 (inr h.came.3) w is) because;
  }

  pub has_nothing : (reading reading' : Reading) (n : ℕ) (idle : Bool) (cause : Option Why) → HasHeldFeed m clock left o told bot file k reading (looked.Nothing n idle) → reading'.worker ≡ reading.worker → reading'.sight ≡ None
      → IfSome cause (λ w. w ≡ why.Quiet n) → HasLookedOn m clock left o told bot file k reading' cause
  unfolding at_sight
  has_nothing reading reading' n idle cause h same sight because = record {
    at = at_sight reading reading' h.at same (subst (λ (x : Option Sight). IfSome x (λ s. IsSight m h.at.v bot file s × IsTrueOf told s)) (sym sight) tt);
    why = some_on cause (λ (w : Why) is. quiet h.at.v n h.came.0 (inl h.came.1) w is) because;
  }

  -- no more can be read
  pub has_found : (reading : Reading) (cause : FeedFault) → HasHeldFeed m clock left o told bot file k reading (looked.Unreadable cause) → HasLookedOn m clock left o told bot file k reading (Some (why.Unreadable cause))
  has_found reading cause h = record { at = h.at; why = record { front = h.at.v.made; rest = []; splits = sym (append-nil h.at.v.made); is = h.came } }

  pub has_stopped : (reading : Reading) (cause : HoldEnd) (w : Why) → w ≡ why_of cause → HasHeldFeed m clock left o told bot file k reading (looked.Ended cause) → HasLookedOn m clock left o told bot file k reading (Some w)
  has_stopped reading cause w is h = record { at = h.at; why = subst (IsWhy m left (CollectorEnds m told bot file) o.state h.at.v.made h.at.v.mark) (sym is) (why_is m left (CollectorEnds m told bot file) o.state h.at.v cause h.came) }

  -- by the names that it has, and by these
  pub by_its_names : (reading : Reading) → IsAtFeed m clock left o told bot file k reading → (t : Option (List ℕ)) → t ≡ told → IsAtFeed m clock left o t reading.worker.bot reading.worker.file k reading
  by_its_names reading at t same =
      subst (λ (x : Option (List ℕ)). IsAtFeed m clock left o x reading.worker.bot reading.worker.file k reading) (sym same)
      (subst (λ (b : List ℕ). IsAtFeed m clock left o told b reading.worker.file k reading) (sym at.bot_is) (subst (λ (f : List ℕ). IsAtFeed m clock left o told bot f k reading) (sym at.file_is) at))

  pub by_these_names : (worker : Collector) (reading : Reading) (cause : Option Why) (t : Option (List ℕ)) → t ≡ told → worker.bot ≡ bot → worker.file ≡ file → HasLookedOn m clock left o t worker.bot worker.file k reading cause → HasLookedOn m clock left o told bot file k reading cause
  by_these_names worker reading cause t same bot_is file_is on =
      subst (λ (f : List ℕ). HasLookedOn m clock left o told bot f k reading cause) file_is
      (subst (λ (b : List ℕ). HasLookedOn m clock left o told b worker.file k reading cause) bot_is (subst (λ (x : Option (List ℕ)). HasLookedOn m clock left o x worker.bot worker.file k reading cause) same on))

  pub has_ended : (reading : Reading) (steps : List ℕ) (w : Why) → steps ≡ reading.worker.steps.items → HasLookedOn m clock left o told bot file k reading (Some w) → HasEnded m (IsCollectorStep m clock told bot file) left (CollectorEnds m told bot file) o k steps w
  has_ended reading steps w same on = record { v = on.at.v; part = subst (λ (ns : List ℕ). IsPart m (IsCollectorStep m clock told bot file) left o k ns on.at.v) (sym same) on.at.part; why = on.why }

pub begins_feed : {D R : Type 0} (m : Meaning) (clock left : Option ℕ) (begun : LockedView D R) (told : Option (List ℕ)) (k : Known (Entry (BookView D R))) (reading : Reading) → reading.sight ≡ None → reading.worker.steps.items ≡ [] → IsNew m begun k
    → IsAtFeed m clock left begun.opening told reading.worker.bot reading.worker.file k reading
begins_feed m clock left begun told k reading unseen none new = record {
  v = begun;
  part = subst (λ (ns : List ℕ). IsPart m (IsCollectorStep m clock told reading.worker.bot reading.worker.file) left begun.opening k ns begun) (sym none) (begins m (IsCollectorStep m clock told reading.worker.bot reading.worker.file) left begun k new);
  bot_is = refl;
  file_is = refl;
  sight = subst (λ (x : Option Sight). IfSome x (λ s. IsSight m begun reading.worker.bot reading.worker.file s × IsTrueOf told s)) (sym unseen) tt;
}
