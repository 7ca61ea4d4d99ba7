-- Along workers' steps the feeds of collectors stay readable.
use Rattle.std.proofs.Common.{◌≡◌, ◌+◌, ◌⊎◌, ⊎_elim, inl, inr, ℕ, Bool, true, false, List, [], ◌∷◌, find, Option, Some, None, IsSomeAnd, option_map, option_and_then, refl, sym, ap, subst, ◌∙◌}
use Rattle.std.specs.Prelude.{unwrap_or}
use Rattle.std.specs.List.{AllByRecursion}
use Rattle.std.specs.Str.{bytes_eq}
use Rattle.std.proofs.lemmas.Slice.Eq.{bytes_eq-Decides}
use Rattle.base_types.specs.declared.message.Moment.{Moment}
use Rattle.base_types.specs.declared.message.Msg.{Msg}
use Rattle.base_types.specs.Lists.{changed}
use Rattle.base_types.specs.Name.{queue_name}
use Rattle.base_types.proofs.Everywhere.{all_wider}
use Rattle.edge_traits.specs.Named.{find_named}
use Rattle.edge_traits.specs.Shelf.{content_of}
use Rattle.report_cut.specs.declared.piece.Cut.{Cut}
use Rattle.step_code.specs.declared.base.Base.{Base}
use Rattle.step_code.specs.declared.feed.Feed.{Feed}
use Rattle.step_code.specs.declared.rules.FeedFacts.{FeedFacts}
use Rattle.step_code.specs.declared.rules.Facts.{Facts}
use Rattle.step_code.specs.declared.step.Step.{Step}
use Rattle.step_code.specs.declared.step.StepKind.{StepKind}
use Rattle.step_code.specs.declared.step.StepKind.TheVariants as kind
use Rattle.step_code.specs.After.{after, taken_first}
use Rattle.step_code.specs.History.{replay}
use Rattle.step_code.specs.Rules.{collects, passes, AreSound, Meaning}
use Rattle.step_code.specs.State.{bots_in_force, bots_of, is_feed, position_of, waiting}
use Rattle.turn_order.specs.Turn.{collectors}
use Rattle.turn_order.proofs.Actors.{all_named, IsNamed}
use Rattle.collector_feeds.specs.Found.{rule_of}
use Rattle.collector_feeds.specs.declared.found.Found.TheVariants as found
use Rattle.drain_turns.specs.Laws.{HasFeed, HasFeeds, IsReadable}
use Rattle.drain_turns.specs.Turn.{Outside, IsTakeOf, IsWorkOf}
use Rattle.drain_turns.proofs.Free.{piece_inside}
use Rattle.drain_turns.proofs.Turning.{all_kept}
use Rattle.worker_turns.specs.Collecting.{feed_under, IsFoundBy, StandsAt}
use Rattle.run_command.specs.Runs.{AreWorkerSteps, IsWorkerStep}

abbrev Files : Type 0
Files = List (List ℕ × List ℕ)

-- two states have the same bundle in force, and the same feeds
pub record AreAlike (s t : Base) : Type 0 where
  pub bundle : s.bundle ≡ t.bundle
  pub feeds : s.feeds ≡ t.feeds

pub feeds_too : (files : Files) (m : Meaning) (s t : Base) → AreAlike s t → HasFeeds files m s → HasFeeds files m t
feeds_too files m s t alike have = subst (λ (feeds : List Feed). HasFeeds files m (record t { feeds = feeds })) alike.feeds (subst (λ (b : List ℕ). HasFeeds files m (record t { bundle = b; feeds = s.feeds })) alike.bundle have)

-- ---- a step of an instance changes neither bundle nor feeds

module _ (m : Meaning) (s : Base) (now : Moment) where
  abbrev step_at : StepKind → Base
  step_at what = after m s (record { moment = now; what = what })

  work_alike : (bot : List ℕ) (instance : ℕ) (what : StepKind) → IsWorkOf bot instance what → AreAlike s (step_at what)
  work_alike bot instance kind.Start is = absurd is
  work_alike bot instance (kind.Collect other from upto piece) is = absurd is
  work_alike bot instance (kind.FeedEnd other position) is = absurd is
  work_alike bot instance (kind.Take other i message) is = absurd is
  work_alike bot instance (kind.Done other i message bundle sends dumps key line) is = record { bundle = refl; feeds = refl }
  work_alike bot instance (kind.Retry other i message bundle fault) is = record { bundle = refl; feeds = refl }
  work_alike bot instance (kind.Fail other i message bundle fault queues halts) is = record { bundle = refl; feeds = refl }
  work_alike bot instance (kind.Reload bundle) is = absurd is
  work_alike bot instance (kind.Redo dump) is = absurd is
  work_alike bot instance (kind.Round other) is = absurd is

  take_alike : (bot : List ℕ) (instance message : ℕ) → AreAlike s (step_at (kind.Take bot instance message))
  take_alike bot instance message = go (waiting (queue_name bot) s)
    where
      go : (messages : List Msg) → AreAlike s (taken_first bot instance now messages (record s { steps = s.steps + 1; latest = now }))
      go [] = record { bundle = refl; feeds = refl }
      go (x ∷ xs) = record { bundle = refl; feeds = refl }

  instance_alike : (bot : List ℕ) (instance : ℕ) (what : StepKind) → IsWorkOf bot instance what ⊎ IsTakeOf bot instance what → AreAlike s (step_at what)
  instance_alike bot instance what (inl works) = work_alike bot instance what works
  instance_alike bot instance what (inr (message, takes)) = subst (λ (k : StepKind). AreAlike s (step_at k)) (sym takes) (take_alike bot instance message)

-- ---- the entry of a collector's feed

abbrev place_of : Option Feed → ℕ
place_of entry = unwrap_or (option_map (λ x. x.position) entry) 0

-- the shelf has the feed, and it may be read on from an offset
abbrev ReadsFrom : Files → Option FeedFacts → ℕ → Type 0
ReadsFrom files feed at = IsSomeAnd feed (λ facts. IsSomeAnd (find_named facts.file files) (λ content. IsReadable content at))

-- what `HasFeed` says of an entry
abbrev Reads : Files → Facts → Option Feed → Type 0
Reads files f entry = passes (λ x. x.finished) entry ≡ false → ReadsFrom files f.feed (place_of entry)

-- one entry is changed, and it is of its bot then too
found_changed : (change : Feed → Feed) → ((x : Feed) → (change x).bot ≡ x.bot) → (bot name : List ℕ) (feeds : List Feed)
    → (find (is_feed name) (changed (is_feed bot) change feeds) ≡ find (is_feed name) feeds) ⊎ ((bot ≡ name) × (find (is_feed name) (changed (is_feed bot) change feeds) ≡ option_map change (find (is_feed name) feeds)))
found_changed change kept bot name [] = inl refl
found_changed change kept bot name (x ∷ xs) = go (is_feed bot x) refl (is_feed name x) refl (found_changed change kept bot name xs)
  where
    moved : (b : Bool) → is_feed name x ≡ b → is_feed name (change x) ≡ b
    moved b is = ap (λ n. bytes_eq n name) (kept x) ∙ is

    go : (a : Bool) → is_feed bot x ≡ a → (b : Bool) → is_feed name x ≡ b
        → (find (is_feed name) (changed (is_feed bot) change xs) ≡ find (is_feed name) xs) ⊎ ((bot ≡ name) × (find (is_feed name) (changed (is_feed bot) change xs) ≡ option_map change (find (is_feed name) xs)))
        → (find (is_feed name) (changed (is_feed bot) change (x ∷ xs)) ≡ find (is_feed name) (x ∷ xs))
        ⊎ ((bot ≡ name) × (find (is_feed name) (changed (is_feed bot) change (x ∷ xs)) ≡ option_map change (find (is_feed name) (x ∷ xs))))
    go true of_bot true of_name rest = inr (sym ((bytes_eq-Decides x.bot bot).0 of_bot) ∙ (bytes_eq-Decides x.bot name).0 of_name, rw (of_bot, of_name, moved true of_name) refl)
    go true of_bot false of_name rest = inl (rw (of_bot, of_name, moved false of_name) refl)
    go false of_bot true of_name rest = inl (rw (of_bot, of_name) refl)
    go false of_bot false of_name rest = rw (of_bot, of_name) rest

finished_reads : (files : Files) (f : Facts) (entry : Option Feed) → Reads files f entry → Reads files f (option_map (λ (x : Feed). record x { finished = true }) entry)
finished_reads files f None reads = reads
finished_reads files f (Some x) reads = λ goes. absurd (cc (goes))

moved_reads : (files : Files) (f : Facts) (entry : Option Feed) (upto : ℕ) → Reads files f entry → (ReadsFrom files f.feed (place_of entry) → ReadsFrom files f.feed upto) → Reads files f (option_map (λ (x : Feed). record x { position = upto }) entry)
moved_reads files f None upto reads on = reads
moved_reads files f (Some x) upto reads on = λ goes. on (reads goes)

-- ---- what was found in a feed ends within it

-- the feed has this name, and the piece stands there
abbrev Stands : List ℕ → ℕ → Cut → Option (List ℕ) → FeedFacts → Type 0
Stands file at cut content facts = (facts.file ≡ file) × StandsAt content facts at (found.Piece cut)

module _ (files : Files) (file : List ℕ) (at : ℕ) (cut : Cut) where
  in_content : (facts : FeedFacts) (content : Option (List ℕ)) → StandsAt content facts at (found.Piece cut) → IsSomeAnd content (λ c. IsReadable c at) → IsSomeAnd content (λ c. IsReadable c cut.upto)
  in_content facts None stands readable = absurd readable
  in_content facts (Some c) stands readable = record { there = piece_inside (rule_of facts) c at readable cut (sym stands); short = readable.short; lines = readable.lines }

  in_feed : (feed : Option FeedFacts) → IsSomeAnd feed (Stands file at cut (find_named file files)) → ReadsFrom files feed at → ReadsFrom files feed cut.upto
  in_feed None stands reads = absurd reads
  in_feed (Some facts) stands reads =
      in_content facts (find_named facts.file files) (subst (λ (name : List ℕ). StandsAt (find_named name files) facts at (found.Piece cut)) (sym stands.0) stands.1) reads

-- ---- a step of a worker

module _ (o : Outside) (files : Files) (told : o.shelf.told ≡ Some files) (s : Base) (sound : AreSound (bots_in_force o.meaning s)) (have : HasFeeds files o.meaning s) where
  -- the same bots are in force, and their feeds may be read on
  record GoOn (t : Base) : Type 0 where
    pub bundle : t.bundle ≡ s.bundle
    pub feeds : HasFeeds files o.meaning t

  alike_goes_on : (t : Base) → AreAlike s t → GoOn t
  alike_goes_on t alike = record { bundle = sym alike.bundle; feeds = feeds_too files o.meaning s t alike have }

  -- each collector under its name, with its feed
  abbrev Known : Facts → Type 0
  Known f = IsNamed (bots_in_force o.meaning s) f × HasFeed files s f

  known : AllByRecursion Known (collectors o.meaning s)
  known = both (collectors o.meaning s) (all_kept (IsNamed (bots_in_force o.meaning s)) (IsNamed (bots_in_force o.meaning s)) collects (bots_in_force o.meaning s) (λ f is role. is) (all_named (bots_in_force o.meaning s) sound.order)) have
    where
      both : (fs : List Facts) → AllByRecursion (IsNamed (bots_in_force o.meaning s)) fs → AllByRecursion (HasFeed files s) fs → AllByRecursion Known fs
      both [] names feeds = tt
      both (f ∷ fs) names feeds = ((names.0, feeds.0), both fs names.1 feeds.1)

  -- one entry is changed so that what is read of it may be read on
  changes : (bot : List ℕ) (change : Feed → Feed) → ((x : Feed) → (change x).bot ≡ x.bot)
      → ((f : Facts) → IsNamed (bots_in_force o.meaning s) f → bot ≡ f.bot → Reads files f (find (is_feed f.bot) s.feeds) → Reads files f (option_map change (find (is_feed f.bot) s.feeds)))
      → HasFeeds files o.meaning (record s { feeds = changed (is_feed bot) change s.feeds })
  changes bot change kept reads_on = all_wider Known (λ f. Reads files f (find (is_feed f.bot) (changed (is_feed bot) change s.feeds))) (collectors o.meaning s) each known
    where
      each : (f : Facts) → Known f → Reads files f (find (is_feed f.bot) (changed (is_feed bot) change s.feeds))
      each f is = ⊎_elim (λ (same : find (is_feed f.bot) (changed (is_feed bot) change s.feeds) ≡ find (is_feed f.bot) s.feeds). subst (Reads files f) (sym same) is.1)
          (λ (here : (bot ≡ f.bot) × (find (is_feed f.bot) (changed (is_feed bot) change s.feeds) ≡ option_map change (find (is_feed f.bot) s.feeds))). subst (Reads files f) (sym here.1) (reads_on f is.0 here.0 is.1))
          (found_changed change kept bot f.bot s.feeds)

  -- the feed that a bot of this name reads
  feed_of : (f : Facts) (bot : List ℕ) → IsNamed (bots_in_force o.meaning s) f → bot ≡ f.bot → feed_under o.meaning s.bundle bot ≡ f.feed
  feed_of f bot named same = ap (feed_under o.meaning s.bundle) same ∙ ap (option_and_then (λ (g : Facts). g.feed)) named

  collects_so : (bot other file : List ℕ) (from : ℕ) (cut : Cut) → other ≡ bot → from ≡ position_of bot s → IsSomeAnd (feed_under o.meaning s.bundle bot) (Stands file from cut (content_of o.shelf file))
      → HasFeeds files o.meaning (record s { feeds = changed (is_feed other) (λ (x : Feed). record x { position = cut.upto }) s.feeds })
  collects_so bot other file from cut of_bot from_is stands = changes other (λ (x : Feed). record x { position = cut.upto }) (λ x. refl) on
    where
      content : content_of o.shelf file ≡ find_named file files
      content = ap (λ (t : Option Files). option_and_then (find_named file) t) told

      on : (f : Facts) → IsNamed (bots_in_force o.meaning s) f → other ≡ f.bot → Reads files f (find (is_feed f.bot) s.feeds) → Reads files f (option_map (λ (x : Feed). record x { position = cut.upto }) (find (is_feed f.bot) s.feeds))
      on f named same reads = moved_reads files f (find (is_feed f.bot) s.feeds) cut.upto reads later
        where
          here : bot ≡ f.bot
          here = sym of_bot ∙ same

          found_there : IsSomeAnd f.feed (Stands file from cut (find_named file files))
          found_there = subst (λ (feed : Option FeedFacts). IsSomeAnd feed (Stands file from cut (find_named file files))) (feed_of f bot named here)
              (subst (λ (c : Option (List ℕ)). IsSomeAnd (feed_under o.meaning s.bundle bot) (Stands file from cut c)) content stands)

          later : ReadsFrom files f.feed (position_of f.bot s) → ReadsFrom files f.feed cut.upto
          later there = in_feed files file from cut f.feed found_there (subst (ReadsFrom files f.feed) (sym (from_is ∙ ap (λ (name : List ℕ). position_of name s) here)) there)

  ends_so : (other : List ℕ) → HasFeeds files o.meaning (record s { feeds = changed (is_feed other) (λ (x : Feed). record x { finished = true }) s.feeds })
  ends_so other = changes other (λ (x : Feed). record x { finished = true }) (λ x. refl) (λ f named same reads. finished_reads files f (find (is_feed f.bot) s.feeds) reads)

  collector_goes_on : (bot file : List ℕ) (now : Moment) (what : StepKind) → IsFoundBy o.meaning (content_of o.shelf file) bot file s what → GoOn (step_at o.meaning s now what)
  collector_goes_on bot file now kind.Start is = absurd is
  collector_goes_on bot file now (kind.Collect other from upto piece) (of_bot, from_is, stands) = record { bundle = refl; feeds = collects_so bot other file from (record { piece = piece; upto = upto }) of_bot from_is stands }
  collector_goes_on bot file now (kind.FeedEnd other position) is = record { bundle = refl; feeds = ends_so other }
  collector_goes_on bot file now (kind.Take other i message) is = absurd is
  collector_goes_on bot file now (kind.Done other i message bundle sends dumps key line) is = absurd is
  collector_goes_on bot file now (kind.Retry other i message bundle fault) is = absurd is
  collector_goes_on bot file now (kind.Fail other i message bundle fault queues halts) is = absurd is
  collector_goes_on bot file now (kind.Reload bundle) is = absurd is
  collector_goes_on bot file now (kind.Redo dump) is = absurd is
  collector_goes_on bot file now (kind.Round other) is = absurd is

  worker_goes_on : (step : Step) → IsWorkerStep o s step → GoOn (after o.meaning s step)
  worker_goes_on step (inl (bot, instance, is)) = alike_goes_on (after o.meaning s step) (instance_alike o.meaning s step.moment bot instance step.what is.is)
  worker_goes_on step (inr (bot, file, is)) = collector_goes_on bot file step.moment step.what is.is

-- ---- all steps

pub workers_keep_feeds_readable : (o : Outside) (s : Base) (files : Files) (made : List Step) → o.shelf.told ≡ Some files → AreSound (bots_in_force o.meaning s) → HasFeeds files o.meaning s → AreWorkerSteps o s made → HasFeeds files o.meaning (replay o.meaning s made)
workers_keep_feeds_readable o s files [] told sound have own = have
workers_keep_feeds_readable o s files (step ∷ made) told sound have own =
    let on = worker_goes_on o files told s sound have step own.0 in
    workers_keep_feeds_readable o (after o.meaning s step) files made told (subst (λ (b : List ℕ). AreSound (bots_of o.meaning b)) (sym on.bundle) sound) on.feeds own.1
