-- A drain's turn, of which at most one step is made: the step is a worker's.
use Rattle.std.proofs.Common.{◌≡◌, ◌&&◌, ℕ, Bool, true, false, not, List, [], ◌∷◌, Option, Some, None, IsSomeAnd, MatchBool, MatchOption, option_and_then, inl, inr, refl, sym, ap, subst, ◌∙◌}
use Rattle.std.specs.List.{AllByRecursion}
use Rattle.edge_traits.specs.Named.{find_named}
use Rattle.edge_traits.specs.Shelf.{ShelfView, content_of}
use Rattle.step_code.specs.declared.base.Base.{Base}
use Rattle.step_code.specs.declared.rules.Facts.{Facts}
use Rattle.step_code.specs.declared.rules.FeedFacts.{FeedFacts}
use Rattle.step_code.specs.declared.step.Step.{Step}
use Rattle.step_code.specs.declared.step.StepKind.{StepKind}
use Rattle.step_code.specs.Rules.{AreSound, Meaning, bot_named, collects}
use Rattle.step_code.specs.State.{bots_in_force, has_finished, position_of}
use Rattle.turn_order.specs.Turn.{collectors, first_actor}
use Rattle.turn_order.specs.declared.actor.Actor.{Actor}
use Rattle.turn_order.specs.declared.actor.Actor.TheVariants.{Full, Take}
use Rattle.turn_order.proofs.Actors.{IsNamed, all_named}
use Rattle.collector_feeds.specs.Found.{found_at, rule_of, MayFind}
use Rattle.collector_feeds.specs.declared.found.Found.{Found}
use Rattle.collector_feeds.specs.declared.found.Found.TheVariants as found
use Rattle.drain_turns.specs.Drained.{IsNextKind}
use Rattle.drain_turns.specs.Turn.{going, is_backed_up, is_piece, IsCollectorsTurn, IsFindOf, IsStamped, IsTurn, MayFindNow, Outside}
use Rattle.drain_turns.specs.declared.turn.Turn.TheVariants.{Acts, Finds, Nobody}
use Rattle.drain_turns.proofs.Turning.{all_kept}
use Rattle.worker_turns.specs.Collecting.{feed_under, IsFoundBy, StandsAt}
use Rattle.run_command.specs.Runs.{IsWorkerStep}

-- what a collector may find stands there in the content that the shelf tells
stands_told : (shelf : ShelfView) (facts : FeedFacts) (at : ℕ) (what : Found) → MayFind shelf facts at what → StandsAt (content_of shelf facts.file) facts at what
stands_told shelf facts at what may = go shelf.told refl
  where
    in_file : (files : List (List ℕ × List ℕ)) (o : Option (List ℕ)) → find_named facts.file files ≡ o → what ≡ found_at (rule_of facts) (find_named facts.file files) at → StandsAt o facts at what
    in_file files None is finds = tt
    in_file files (Some content) is finds = finds ∙ ap (λ (o : Option (List ℕ)). found_at (rule_of facts) o at) is

    go : (told : Option (List (List ℕ × List ℕ))) → shelf.told ≡ told → StandsAt (option_and_then (find_named facts.file) told) facts at what
    go None is = tt
    go (Some files) is = in_file files (find_named facts.file files) refl (may.told files is)

-- the collector that gives the turn, and what it finds
record Gives (o : Outside) (s : Base) (bot : List ℕ) (at : ℕ) (what : Found) : Type 0 where
  pub facts : Facts
  pub named : bot_named facts.bot (bots_in_force o.meaning s) ≡ Some facts
  pub bot_is : bot ≡ facts.bot
  pub at_is : at ≡ position_of facts.bot s
  pub finds : MayFindNow o s facts what

of_collectors : (o : Outside) (s : Base) (fs : List Facts) (bot : List ℕ) (at : ℕ) (what : Found) → AllByRecursion (IsNamed (bots_in_force o.meaning s)) fs → IsCollectorsTurn o s fs (Finds bot at what) → Gives o s bot at what
of_collectors o s [] bot at what named is = absurd (cc is)
of_collectors o s (f ∷ fs) bot at what named (found, finds, turn) = go (λ later. of_collectors o s fs bot at what named.1 later) (is_piece found && is_backed_up o.meaning s) turn
  where
    go : (IsCollectorsTurn o s fs (Finds bot at what) → Gives o s bot at what) → (b : Bool) → MatchBool b (IsCollectorsTurn o s fs (Finds bot at what)) (Finds bot at what ≡ Finds f.bot (position_of f.bot s) found) → Gives o s bot at what
    go rest true later = rest later
    go rest false is = record { facts = f; named = named.0; bot_is = cc is; at_is = cc is; finds = subst (MayFindNow o s f) (let same : found ≡ what = cc is in same) finds }

going_named : (m : Meaning) (s : Base) → AreSound (bots_in_force m s) → AllByRecursion (IsNamed (bots_in_force m s)) (going m s)
going_named m s sound =
    let bots = bots_in_force m s in
    all_kept (IsNamed bots) (IsNamed bots) (λ f. not (has_finished f.bot s)) (collectors m s) (λ f is goes. is)
    (all_kept (IsNamed bots) (IsNamed bots) collects bots (λ f is reads. is) (all_named bots sound.order))

gives : (o : Outside) (s : Base) (bot : List ℕ) (at : ℕ) (what : Found) → AreSound (bots_in_force o.meaning s) → IsTurn o s (Finds bot at what) → Gives o s bot at what
gives o s bot at what sound turn = go (first_actor o.meaning s) turn
  where
    go : (actor : Option Actor) → MatchOption actor (IsCollectorsTurn o s (going o.meaning s) (Finds bot at what)) (λ a. Finds bot at what ≡ Acts a) → Gives o s bot at what
    go None is = of_collectors o s (going o.meaning s) bot at what (going_named o.meaning s sound) is
    go (Some a) is = absurd (cc is)

-- ---- its step

-- what a collector finds at its position it collects, or it finds the end there
found_by : (m : Meaning) (content : Option (List ℕ)) (s : Base) (bot : List ℕ) (at : ℕ) (what : Found) (feed : FeedFacts) (k : StepKind) → feed_under m s.bundle bot ≡ Some feed → at ≡ position_of bot s → StandsAt content feed at what → IsFindOf bot at what k
    → IsFoundBy m content bot feed.file s k
found_by m content s bot at (found.Piece cut) feed k reads where_is stands finds =
    subst (IsFoundBy m content bot feed.file s) (sym finds)
    (refl, where_is, subst (λ x. IsSomeAnd x (λ fs. (fs.file ≡ feed.file) × StandsAt content fs at (found.Piece (record { piece = cut.piece; upto = cut.upto })))) (sym reads) (refl, stands))
found_by m content s bot at found.End feed k reads where_is stands finds =
    subst (IsFoundBy m content bot feed.file s) (sym finds) (refl, where_is, subst (λ x. IsSomeAnd x (λ fs. (fs.file ≡ feed.file) × StandsAt content fs at found.End)) (sym reads) (refl, stands))
found_by m content s bot at found.Absent feed k reads where_is stands finds = absurd finds
found_by m content s bot at (found.Short have) feed k reads where_is stands finds = absurd finds
found_by m content s bot at (found.LongLine line) feed k reads where_is stands finds = absurd finds
found_by m content s bot at found.LongFeed feed k reads where_is stands finds = absurd finds

given_by : (o : Outside) (s : Base) (bot : List ℕ) (at : ℕ) (what : Found) (k : StepKind) → Gives o s bot at what → IsFindOf bot at what k → (file : List ℕ) × IsFoundBy o.meaning (content_of o.shelf file) bot file s k
given_by o s bot at what k is finds = go is.facts.feed refl is.finds
  where
    go : (feed : Option FeedFacts) → is.facts.feed ≡ feed → IsSomeAnd feed (λ facts. MayFind o.shelf facts (position_of is.facts.bot s) what) → (file : List ℕ) × IsFoundBy o.meaning (content_of o.shelf file) bot file s k
    go None reads may = absurd may
    go (Some feed) reads may =
        let under : feed_under o.meaning s.bundle bot ≡ Some feed = ap (λ (b : List ℕ). feed_under o.meaning s.bundle b) is.bot_is ∙ ap (option_and_then (λ (f : Facts). f.feed)) is.named ∙ reads in
        let where_is : at ≡ position_of bot s = is.at_is ∙ ap (λ (b : List ℕ). position_of b s) (sym is.bot_is) in
        let stands = stands_told o.shelf feed (position_of is.facts.bot s) what may in
        (feed.file, found_by o.meaning (content_of o.shelf feed.file) s bot at what feed k under where_is (subst (λ (n : ℕ). StandsAt (content_of o.shelf feed.file) feed n what) (sym is.at_is) stands) finds)

-- the step of a turn is a worker's, whatever the shelf has counted by then
pub turn_is_own : (o : Outside) (seen : ShelfView) (s : Base) (step : Step) → seen.told ≡ o.shelf.told → AreSound (bots_in_force o.meaning s) → IsNextKind (record o { shelf = seen }) s [] step.what → IsStamped o.clock s step → IsWorkerStep o s step
turn_is_own o seen s step same sound (Acts (Full bot i), turn, is) stamped = inl (bot, i, record { stamped = stamped; is = inl is })
turn_is_own o seen s step same sound (Acts (Take bot), turn, is) stamped = inl (bot, 1, record { stamped = stamped; is = inr is })
turn_is_own o seen s step same sound (Finds bot at what, turn, is) stamped =
    let by = given_by (record o { shelf = seen }) s bot at what step.what (gives (record o { shelf = seen }) s bot at what sound turn) is in
    inr (bot, by.0, record { stamped = stamped; is = subst (λ (told : Option (List (List ℕ × List ℕ))). IsFoundBy o.meaning (option_and_then (find_named by.0) told) bot by.0 s step.what) same by.1 })
turn_is_own o seen s step same sound (Nobody, turn, is) stamped = absurd is
