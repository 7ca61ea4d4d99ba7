-- Along turns the feeds of collectors stay readable.
use Rattle.std.proofs.Common.{◌≡◌, ◌+◌, ◌⊎◌, ⊎_elim, inl, inr, ℕ, Bool, true, false, not, List, [], ◌∷◌, drop, find, Option, Some, None, option_map, refl, sym, ap, subst, ◌∙◌}
use Rattle.std.specs.Prelude.{unwrap_or}
use Rattle.std.specs.List.{AllByRecursion}
use Rattle.std.specs.Option.{IsSomeAnd}
use Rattle.std.specs.Str.{bytes_eq}
use Rattle.std.proofs.lemmas.Slice.Eq.{bytes_eq-Decides}
use Rattle.base_types.specs.declared.message.Moment.{Moment}
use Rattle.base_types.specs.declared.message.Msg.{Msg}
use Rattle.base_types.specs.Lists.{changed}
use Rattle.base_types.specs.Name.{queue_name}
use Rattle.base_types.proofs.Everywhere.{all_wider}
use Rattle.edge_traits.specs.Named.{find_named}
use Rattle.report_cut.specs.declared.piece.Cut.{Cut}
use Rattle.step_code.specs.declared.base.Base.{Base}
use Rattle.step_code.specs.declared.feed.Feed.{Feed}
use Rattle.step_code.specs.declared.rules.FeedFacts.{FeedFacts}
use Rattle.step_code.specs.declared.rules.Facts.{Facts}
use Rattle.step_code.specs.declared.step.Step.{Step}
use Rattle.step_code.specs.declared.step.StepKind.{StepKind}
use Rattle.step_code.specs.declared.step.StepKind.TheVariants as kind
use Rattle.step_code.specs.After.{after, taken_first}
use Rattle.step_code.specs.Rules.{bot_named, collects, passes, AreSound}
use Rattle.step_code.specs.State.{bots_in_force, has_finished, is_feed, position_of, waiting}
use Rattle.turn_order.specs.Turn.{collectors}
use Rattle.turn_order.specs.declared.actor.Actor.TheVariants.{Full, Take}
use Rattle.turn_order.proofs.Actors.{all_named, IsNamed}
use Rattle.collector_feeds.specs.Found.{found_at, rule_of, MayFind}
use Rattle.collector_feeds.specs.declared.found.Found.{Found}
use Rattle.collector_feeds.specs.declared.found.Found.TheVariants as found
use Rattle.drain_turns.specs.Drained.{behind, behind_all, Drains, IsNextKind, Place}
use Rattle.drain_turns.specs.Laws.{HasFeed, HasFeeds, IsReadable, ReadsOn}
use Rattle.drain_turns.specs.Turn.{going, Outside, IsFindOf, IsStepOf, IsTurn, IsWorkOf}
use Rattle.drain_turns.specs.declared.end.TurnsEnd.{TurnsEnd}
use Rattle.drain_turns.specs.declared.turn.Turn.{Turn}
use Rattle.drain_turns.specs.declared.turn.Turn.TheVariants.{Acts, Finds, Nobody}
use Rattle.drain_turns.proofs.Free.{piece_inside}
use Rattle.drain_turns.proofs.Readied.{behind_alike, behind_opening, feeds_too, sound_too}
use Rattle.drain_turns.proofs.Turning.{all_kept, finds, has_feed, not_true, turn_of, IsFoundBy}

abbrev Files : Type 0
Files = List (List ℕ × List ℕ)

-- ---- the entry of a collector's feed

abbrev place_of : Option Feed → ℕ
place_of entry = unwrap_or (option_map (λ x. x.position) entry) 0

-- the shelf has the feed, and it may be read on from an offset
abbrev ReadsFrom : Files → Facts → ℕ → Type 0
ReadsFrom files f at = IsSomeAnd f.feed (λ facts. IsSomeAnd (find_named facts.file files) (λ feed. IsReadable feed at))

-- what `HasFeed` says of an entry
abbrev Reads : Files → Facts → Option Feed → Type 0
Reads files f entry = passes (λ x. x.finished) entry ≡ false → ReadsFrom files f (place_of entry)

-- one entry is changed, and it is of its bot then too
found_changed : (change : Feed → Feed) → ((x : Feed) → (change x).bot ≡ x.bot) → (bot name : List ℕ) (feeds : List Feed)
    → (find (is_feed name) (changed (is_feed bot) change feeds) ≡ find (is_feed name) feeds) ⊎ ((bot ≡ name) × (find (is_feed name) (changed (is_feed bot) change feeds) ≡ option_map change (find (is_feed name) feeds)))
found_changed change kept bot name [] = inl refl
found_changed change kept bot name (x ∷ xs) = go (is_feed bot x) refl (is_feed name x) refl (found_changed change kept bot name xs)
  where
    moved : (b : Bool) → is_feed name x ≡ b → is_feed name (change x) ≡ b
    moved b is = ap (λ n. bytes_eq n name) (kept x) ∙ is

    go : (a : Bool) → is_feed bot x ≡ a → (b : Bool) → is_feed name x ≡ b
        → (find (is_feed name) (changed (is_feed bot) change xs) ≡ find (is_feed name) xs) ⊎ ((bot ≡ name) × (find (is_feed name) (changed (is_feed bot) change xs) ≡ option_map change (find (is_feed name) xs)))
        → (find (is_feed name) (changed (is_feed bot) change (x ∷ xs)) ≡ find (is_feed name) (x ∷ xs))
        ⊎ ((bot ≡ name) × (find (is_feed name) (changed (is_feed bot) change (x ∷ xs)) ≡ option_map change (find (is_feed name) (x ∷ xs))))
    go true of_bot true of_name rest = inr (sym ((bytes_eq-Decides x.bot bot).0 of_bot) ∙ (bytes_eq-Decides x.bot name).0 of_name, rw (of_bot, of_name, moved true of_name) refl)
    go true of_bot false of_name rest = inl (rw (of_bot, of_name, moved false of_name) refl)
    go false of_bot true of_name rest = inl (rw (of_bot, of_name) refl)
    go false of_bot false of_name rest = rw (of_bot, of_name) rest

finished_reads : (files : Files) (f : Facts) (entry : Option Feed) → Reads files f entry → Reads files f (option_map (λ (x : Feed). record x { finished = true }) entry)
finished_reads files f None reads = reads
finished_reads files f (Some x) reads = λ goes. absurd (cc (goes))

moved_reads : (files : Files) (f : Facts) (entry : Option Feed) (upto : ℕ) → Reads files f entry → ReadsFrom files f upto → Reads files f (option_map (λ (x : Feed). record x { position = upto }) entry)
moved_reads files f None upto reads later = reads
moved_reads files f (Some x) upto reads later = λ goes. later

-- ---- a step of a turn

abbrev some_facts : Facts → Option Facts
some_facts f = Some f

one_of : (f g : Facts) → some_facts f ≡ some_facts g → f ≡ g
one_of f g same = cc

module _ (o : Outside) (files : Files) (told : o.shelf.told ≡ Some files) (s : Base) (sound : AreSound (bots_in_force o.meaning s)) (have : HasFeeds files o.meaning s) where
  -- the same bots are in force, and their feeds may be read on
  record GoOn (t : Base) : Type 0 where
    pub bundle : t.bundle ≡ s.bundle
    pub feeds : HasFeeds files o.meaning t

  same_feeds : (t : Base) → t.bundle ≡ s.bundle → t.feeds ≡ s.feeds → GoOn t
  same_feeds t bundle feeds = record {
    bundle = bundle;
    feeds = subst (λ (b : List ℕ). HasFeeds files o.meaning (record t { bundle = b })) (sym bundle) (subst (λ (fs : List Feed). HasFeeds files o.meaning (record s { feeds = fs })) (sym feeds) have);
  }

  abbrev step_at : Moment → StepKind → Base
  step_at now what = after o.meaning s (record { moment = now; what = what })

  works : (bot : List ℕ) (instance : ℕ) (now : Moment) (what : StepKind) → IsWorkOf bot instance what → GoOn (step_at now what)
  works bot instance now kind.Start is = absurd is
  works bot instance now (kind.Collect other from upto piece) is = absurd is
  works bot instance now (kind.FeedEnd other position) is = absurd is
  works bot instance now (kind.Take other i message) is = absurd is
  works bot instance now (kind.Done other i message bundle sends dumps key line) is = same_feeds _ refl refl
  works bot instance now (kind.Retry other i message bundle fault) is = same_feeds _ refl refl
  works bot instance now (kind.Fail other i message bundle fault queues halts) is = same_feeds _ refl refl
  works bot instance now (kind.Reload bundle) is = absurd is
  works bot instance now (kind.Redo dump) is = absurd is
  works bot instance now (kind.Round other) is = absurd is

  takes : (bot : List ℕ) (instance : ℕ) (message : ℕ) (now : Moment) → GoOn (step_at now (kind.Take bot instance message))
  takes bot instance message now = go (waiting (queue_name bot) s)
    where
      go : (messages : List Msg) → GoOn (taken_first bot instance now messages (record s { steps = s.steps + 1; latest = now }))
      go [] = same_feeds _ refl refl
      go (x ∷ xs) = same_feeds _ refl refl

  -- each collector under its name
  named : AllByRecursion (λ f. IsNamed (bots_in_force o.meaning s) f) (collectors o.meaning s)
  named = all_kept (IsNamed (bots_in_force o.meaning s)) (IsNamed (bots_in_force o.meaning s)) collects (bots_in_force o.meaning s) (λ f is role. is) (all_named (bots_in_force o.meaning s) sound.order)

  both : (P Q : Facts → Type 0) (fs : List Facts) → AllByRecursion P fs → AllByRecursion Q fs → AllByRecursion (λ f. P f × Q f) fs
  both P Q [] ps qs = tt
  both P Q (f ∷ fs) ps qs = ((ps.0, qs.0), both P Q fs ps.1 qs.1)

  -- two of one name are one
  same_bot : (f g : Facts) → IsNamed (bots_in_force o.meaning s) f → IsNamed (bots_in_force o.meaning s) g → f.bot ≡ g.bot → f ≡ g
  same_bot f g its_name other same = one_of f g (sym its_name ∙ ap (λ name. bot_named name (bots_in_force o.meaning s)) same ∙ other)

  abbrev Known : Facts → Type 0
  Known f = IsNamed (bots_in_force o.meaning s) f × ReadsOn files s f

  known : AllByRecursion Known (going o.meaning s)
  known =
      all_kept (λ f. IsNamed (bots_in_force o.meaning s) f × HasFeed files s f) Known (λ f. not (has_finished f.bot s)) (collectors o.meaning s) (λ f is goes. (is.0, is.1 (not_true (has_finished f.bot s) goes)))
      (both (IsNamed (bots_in_force o.meaning s)) (HasFeed files s) (collectors o.meaning s) named have)

  -- behind a piece that a collector found, its feed may be read on
  behind_piece : (f : Facts) (cut : Cut) (facts : FeedFacts) → f.feed ≡ Some facts → MayFind o.shelf facts (position_of f.bot s) (found.Piece cut) → ReadsOn files s f → ReadsFrom files f cut.upto
  behind_piece f cut facts feed_is may reads = go f.feed feed_is reads
    where
      there : (feed : Option (List ℕ)) → find_named facts.file files ≡ feed → IsSomeAnd feed (λ c. IsReadable c (position_of f.bot s)) → IsSomeAnd feed (λ c. IsReadable c cut.upto)
      there None e readable = absurd readable
      there (Some feed) e readable =
          let is : found_at (rule_of facts) (Some feed) (position_of f.bot s) ≡ found.Piece cut = sym (may.told files told ∙ ap (λ c. found_at (rule_of facts) c (position_of f.bot s)) e) in
          record { there = piece_inside (rule_of facts) feed (position_of f.bot s) readable cut is; short = readable.short; lines = readable.lines }

      go : (feed : Option FeedFacts) → feed ≡ Some facts → IsSomeAnd feed (λ other. IsSomeAnd (find_named other.file files) (λ c. IsReadable c (position_of f.bot s))) → IsSomeAnd feed (λ other. IsSomeAnd (find_named other.file files) (λ c. IsReadable c cut.upto))
      go None e reads_on = absurd reads_on
      go (Some other) e reads_on = one (cc) reads_on
        where
          one : other ≡ facts → IsSomeAnd (find_named other.file files) (λ c. IsReadable c (position_of f.bot s)) → IsSomeAnd (find_named other.file files) (λ c. IsReadable c cut.upto)
          one same here =
              let at_facts = subst (λ (x : FeedFacts). IsSomeAnd (find_named x.file files) (λ c. IsReadable c (position_of f.bot s))) same here in
              subst (λ (x : FeedFacts). IsSomeAnd (find_named x.file files) (λ c. IsReadable c cut.upto)) (sym same) (there (find_named facts.file files) refl at_facts)

  -- one entry is changed so that what is read of it may be read on
  changes : (t : Base) (bot : List ℕ) (change : Feed → Feed) → ((x : Feed) → (change x).bot ≡ x.bot) → t.bundle ≡ s.bundle → t.feeds ≡ changed (is_feed bot) change s.feeds
      → ((f : Facts) → IsNamed (bots_in_force o.meaning s) f → bot ≡ f.bot → (entry : Option Feed) → Reads files f entry → Reads files f (option_map change entry)) → GoOn t
  changes t bot change kept bundle feeds reads_on = record {
    bundle = bundle;
    feeds = subst (λ (b : List ℕ). HasFeeds files o.meaning (record t { bundle = b })) (sym bundle)
        (subst (λ (fs : List Feed). HasFeeds files o.meaning (record s { feeds = fs })) (sym feeds)
        (all_wider (λ f. IsNamed (bots_in_force o.meaning s) f × HasFeed files s f) (λ f. Reads files f (find (is_feed f.bot) (changed (is_feed bot) change s.feeds))) (collectors o.meaning s) each (both (IsNamed (bots_in_force o.meaning s)) (HasFeed files s) (collectors o.meaning s) named have)));
  }
    where
      each : (f : Facts) → IsNamed (bots_in_force o.meaning s) f × HasFeed files s f → Reads files f (find (is_feed f.bot) (changed (is_feed bot) change s.feeds))
      each f is = ⊎_elim (λ (same : find (is_feed f.bot) (changed (is_feed bot) change s.feeds) ≡ find (is_feed f.bot) s.feeds). subst (Reads files f) (sym same) is.1)
          (λ (here : (bot ≡ f.bot) × (find (is_feed f.bot) (changed (is_feed bot) change s.feeds) ≡ option_map change (find (is_feed f.bot) s.feeds))).
          subst (Reads files f) (sym here.1) (reads_on f is.0 here.0 (find (is_feed f.bot) s.feeds) is.1))
          (found_changed change kept bot f.bot s.feeds)

  ends_feed : (bot : List ℕ) (at : ℕ) (now : Moment) → GoOn (step_at now (kind.FeedEnd bot at))
  ends_feed bot at now = changes _ bot (λ (x : Feed). record x { finished = true }) (λ x. refl) refl refl (λ f is here entry reads. finished_reads files f entry reads)

  collects_piece : (bot : List ℕ) (at : ℕ) (cut : Cut) (now : Moment) → IsTurn o s (Finds bot at (found.Piece cut)) → GoOn (step_at now (kind.Collect bot at cut.upto cut.piece))
  collects_piece bot at cut now turn = ⊎_elim (λ acted. absurd (cc (acted.2))) (λ asked. by_turn (finds Known o s (going o.meaning s) bot at (found.Piece cut) known asked.1)) (turn_of o s (Finds bot at (found.Piece cut)) turn)
    where
      by_turn : ((f : Facts) × IsFoundBy Known o s bot at (found.Piece cut) f) → GoOn (step_at now (kind.Collect bot at cut.upto cut.piece))
      by_turn found_by =
          let f = found_by.0 in
          let known_of : Known f = found_by.1.0 in
          let of_bot : f.bot ≡ bot = found_by.1.1 in
          let feed = has_feed o s f (found.Piece cut) found_by.1.3 in
          let later : ReadsFrom files f cut.upto = behind_piece f cut feed.0 feed.1 feed.2 known_of.1 in
          changes _ bot (λ (x : Feed). record x { position = cut.upto }) (λ x. refl) refl refl
          (λ g its_name same entry reads.
          let one : f ≡ g = same_bot f g known_of.0 its_name (of_bot ∙ same) in
          moved_reads files g entry cut.upto reads (subst (λ (h : Facts). ReadsFrom files h cut.upto) one later))

  finds_step : (bot : List ℕ) (at : ℕ) (what : Found) (now : Moment) (step : StepKind) → IsTurn o s (Finds bot at what) → IsFindOf bot at what step → GoOn (step_at now step)
  finds_step bot at (found.Piece cut) now step turn is = subst (λ (k : StepKind). GoOn (step_at now k)) (sym is) (collects_piece bot at cut now turn)
  finds_step bot at found.End now step turn is = subst (λ (k : StepKind). GoOn (step_at now k)) (sym is) (ends_feed bot at now)
  finds_step bot at found.Absent now step turn is = absurd is
  finds_step bot at (found.Short have_bytes) now step turn is = absurd is
  finds_step bot at (found.LongLine line) now step turn is = absurd is
  finds_step bot at found.LongFeed now step turn is = absurd is

  turn_goes_on : (turn : Turn) (now : Moment) (step : StepKind) → IsTurn o s turn → IsStepOf turn step → GoOn (step_at now step)
  turn_goes_on (Acts (Full bot instance)) now step turn is = works bot instance now step is
  turn_goes_on (Acts (Take bot)) now step turn is = subst (λ (k : StepKind). GoOn (step_at now k)) (sym is.1) (takes bot 1 is.0 now)
  turn_goes_on (Finds bot at what) now step turn is = finds_step bot at what now step turn is
  turn_goes_on Nobody now step turn is = absurd is

-- ---- all steps

pub feeds_stay_readable : (o : Outside) (p : Place) (files : Files) (made : List Step) (last : TurnsEnd) → o.shelf.told ≡ Some files → p.opening ≡ [] → AreSound (bots_in_force o.meaning p.state) → HasFeeds files o.meaning p.state
    → Drains o p made last → HasFeeds files o.meaning (behind_all o p made).state
feeds_stay_readable o p files [] last told opened sound have drains = have
feeds_stay_readable o p files (step ∷ made) last told opened sound have drains =
    let next = subst (λ (ks : List StepKind). IsNextKind o p.state ks step.what) opened drains.0.due.next in
    let on = turn_goes_on o files told p.state sound have next.0 step.moment step.what next.1 next.2 in
    let alike = behind_alike o p step in
    let sound_on = subst (λ (b : List ℕ). AreSound (bots_in_force o.meaning (record p.state { bundle = b }))) (sym on.bundle) sound in
    feeds_stay_readable o (behind o p step) files made last told (behind_opening o p step ∙ ap (drop 1) opened) (sound_too files o.meaning (after o.meaning p.state step) (behind o p step).state alike sound_on)
    (feeds_too files o.meaning (after o.meaning p.state step) (behind o p step).state alike on.feeds) drains.1
