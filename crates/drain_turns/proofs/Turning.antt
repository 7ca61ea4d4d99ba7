-- What a turn comes to.
use Rattle.std.proofs.Common.{◌≡◌, ◌&&◌, ◌⊎◌, inl, inr, ℕ, Bool, true, false, not, List, [], ◌∷◌, Option, Some, None, IsSomeAnd, MatchBool, MatchOption, filter, refl, sym, ap, subst, ◌∙◌}
use Rattle.std.specs.List.{AllByRecursion}
use Rattle.edge_traits.specs.Named.{find_named}
use Rattle.step_code.specs.declared.base.Base.{Base}
use Rattle.step_code.specs.declared.rules.Facts.{Facts}
use Rattle.step_code.specs.declared.rules.FeedFacts.{FeedFacts}
use Rattle.step_code.specs.Rules.{AreSound, Meaning, bot_named, collects}
use Rattle.step_code.specs.State.{bots_in_force, has_finished, position_of}
use Rattle.turn_order.specs.Turn.{collectors, first_actor}
use Rattle.turn_order.specs.declared.actor.Actor.{Actor}
use Rattle.turn_order.proofs.Actors.{IsNamed, all_named}
use Rattle.collector_feeds.specs.Found.{MayFind, found_at, rule_of}
use Rattle.collector_feeds.specs.declared.found.Found.{Found}
use Rattle.drain_turns.specs.Turn.{Outside, IsCollectorsTurn, IsTurn, MayFindNow, going, is_backed_up, is_piece}
use Rattle.drain_turns.specs.declared.turn.Turn.{Turn}
use Rattle.drain_turns.specs.declared.turn.Turn.TheVariants.{Acts, Finds}

-- what is kept of a list by a test
pub all_kept : {A : Type 0} (P Q : A → Type 0) (p : A → Bool) (xs : List A) → ((x : A) → P x → p x ≡ true → Q x) → AllByRecursion P xs → AllByRecursion Q (filter p xs)
all_kept P Q p [] gives all = tt
all_kept P Q p (x ∷ xs) gives all = go (p x) refl (all_kept P Q p xs gives all.1)
  where
    go : (b : Bool) → p x ≡ b → AllByRecursion Q (filter p xs) → AllByRecursion Q (filter p (x ∷ xs))
    go true is later = rw (is) (gives x all.0 is, later)
    go false is later = rw (is) later

pub not_true : (b : Bool) → not b ≡ true → b ≡ false
not_true true is = absurd (cc)
not_true false is = refl

-- a collector of the plan that hasn't read its feed to the end
pub record IsGoing (m : Meaning) (s : Base) (f : Facts) : Type 0 where
  pub named : bot_named f.bot (bots_in_force m s) ≡ Some f
  pub role : collects f ≡ true
  pub going : has_finished f.bot s ≡ false

pub all_going : (m : Meaning) (s : Base) → AreSound (bots_in_force m s) → AllByRecursion (IsGoing m s) (going m s)
all_going m s sound =
    let bots = bots_in_force m s in
    all_kept (λ (f : Facts). IsNamed bots f × (collects f ≡ true)) (IsGoing m s) (λ f. not (has_finished f.bot s)) (collectors m s)
    (λ f is test. record { named = is.0; role = is.1; going = not_true (has_finished f.bot s) test })
    (all_kept (IsNamed bots) (λ (f : Facts). IsNamed bots f × (collects f ≡ true)) collects bots (λ f is test. (is, test)) (all_named bots sound.order))

-- a bot that takes messages steps, or none may, and the collectors are asked
pub turn_of : (o : Outside) (s : Base) (turn : Turn) → IsTurn o s turn
    → ((actor : Actor) × (first_actor o.meaning s ≡ Some actor) × (turn ≡ Acts actor)) ⊎ ((first_actor o.meaning s ≡ None) × IsCollectorsTurn o s (going o.meaning s) turn)
turn_of o s turn is = go (first_actor o.meaning s) refl is
  where
    go : (a : Option Actor) → first_actor o.meaning s ≡ a → MatchOption a (IsCollectorsTurn o s (going o.meaning s) turn) (λ actor. turn ≡ Acts actor)
        → ((actor : Actor) × (first_actor o.meaning s ≡ Some actor) × (turn ≡ Acts actor)) ⊎ ((first_actor o.meaning s ≡ None) × IsCollectorsTurn o s (going o.meaning s) turn)
    go None first is = inr (first, is)
    go (Some actor) first is = inl (actor, first, is)

-- no collector takes messages
pub never_acts : (o : Outside) (s : Base) (fs : List Facts) (actor : Actor) → IsCollectorsTurn o s fs (Acts actor) → ⊥
never_acts o s [] actor is = cc
never_acts o s (f ∷ fs) actor is = go (never_acts o s fs actor) is.0 (is_piece is.0 && is_backed_up o.meaning s) is.2
  where
    go : (IsCollectorsTurn o s fs (Acts actor) → ⊥) → (what : Found) (held : Bool) → MatchBool held (IsCollectorsTurn o s fs (Acts actor)) (Acts actor ≡ Finds f.bot (position_of f.bot s) what) → ⊥
    go later what true is = later is
    go later what false is = cc

-- a collector found this: it is one of those asked, and nothing holds it back
abbrev pub IsFoundBy : (Facts → Type 0) → Outside → Base → List ℕ → ℕ → Found → Facts → Type 0
IsFoundBy P o s bot at what f = P f × (f.bot ≡ bot) × (position_of f.bot s ≡ at) × MayFindNow o s f what × ((is_piece what && is_backed_up o.meaning s) ≡ false)

pub finds : (P : Facts → Type 0) (o : Outside) (s : Base) (fs : List Facts) (bot : List ℕ) (at : ℕ) (what : Found) → AllByRecursion P fs → IsCollectorsTurn o s fs (Finds bot at what) → (f : Facts) × IsFoundBy P o s bot at what f
finds P o s [] bot at what all is = absurd (cc)
finds P o s (f ∷ fs) bot at what all is = go (finds P o s fs bot at what all.1) is.0 is.1 (is_piece is.0 && is_backed_up o.meaning s) refl is.2
  where
    go : (IsCollectorsTurn o s fs (Finds bot at what) → (g : Facts) × IsFoundBy P o s bot at what g) → (w : Found) → MayFindNow o s f w → (held : Bool) → (is_piece w && is_backed_up o.meaning s) ≡ held
        → MatchBool held (IsCollectorsTurn o s fs (Finds bot at what)) (Finds bot at what ≡ Finds f.bot (position_of f.bot s) w) → (g : Facts) × IsFoundBy P o s bot at what g
    go later w may true held is = later is
    go later w may false held is =
        let same : w ≡ what = cc in
        (f, (all.0, cc, cc, subst (λ (v : Found). MayFindNow o s f v) same may, subst (λ (v : Found). (is_piece v && is_backed_up o.meaning s) ≡ false) same held))

-- a collector has a feed
pub has_feed : (o : Outside) (s : Base) (f : Facts) (what : Found) → MayFindNow o s f what → (facts : FeedFacts) × (f.feed ≡ Some facts) × MayFind o.shelf facts (position_of f.bot s) what
has_feed o s f what may = go f.feed refl may
  where
    go : (feed : Option FeedFacts) → f.feed ≡ feed → IsSomeAnd feed (λ facts. MayFind o.shelf facts (position_of f.bot s) what) → (facts : FeedFacts) × (f.feed ≡ Some facts) × MayFind o.shelf facts (position_of f.bot s) what
    go None is may = absurd may
    go (Some facts) is may = (facts, is, may)

-- ---- one turn

one_find : (o : Outside) (s : Base) (files : List (List ℕ × List ℕ)) (f : Facts) (a b : Found) → o.shelf.told ≡ Some files → MayFindNow o s f a → MayFindNow o s f b → a ≡ b
one_find o s files f a b told may_a may_b =
    let x = has_feed o s f a may_a in
    let y = has_feed o s f b may_b in
    let same : x.0 ≡ y.0 = cc (x.1, y.1) in
    x.2.told files told ∙ ap (λ (facts : FeedFacts). found_at (rule_of facts) (find_named facts.file files) (position_of f.bot s)) same ∙ sym (y.2.told files told)

one_collectors : (o : Outside) (s : Base) (files : List (List ℕ × List ℕ)) (fs : List Facts) (a b : Turn) → o.shelf.told ≡ Some files → IsCollectorsTurn o s fs a → IsCollectorsTurn o s fs b → a ≡ b
one_collectors o s files [] a b told is_a is_b = is_a ∙ sym is_b
one_collectors o s files (f ∷ fs) a b told is_a is_b =
    go (one_collectors o s files fs a b told) (is_piece is_a.0 && is_backed_up o.meaning s) is_a.2
    (subst (λ (w : Found). MatchBool (is_piece w && is_backed_up o.meaning s) (IsCollectorsTurn o s fs b) (b ≡ Finds f.bot (position_of f.bot s) w)) (one_find o s files f is_b.0 is_a.0 told is_b.1 is_a.1) is_b.2)
  where
    go : (IsCollectorsTurn o s fs a → IsCollectorsTurn o s fs b → a ≡ b) → (held : Bool)
        → MatchBool held (IsCollectorsTurn o s fs a) (a ≡ Finds f.bot (position_of f.bot s) is_a.0) → MatchBool held (IsCollectorsTurn o s fs b) (b ≡ Finds f.bot (position_of f.bot s) is_a.0) → a ≡ b
    go later true x y = later x y
    go later false x y = x ∙ sym y

pub one_turn : (o : Outside) (s : Base) (files : List (List ℕ × List ℕ)) (a b : Turn) → o.shelf.told ≡ Some files → IsTurn o s a → IsTurn o s b → a ≡ b
one_turn o s files a b told is_a is_b = go (first_actor o.meaning s) is_a is_b
  where
    go : (first : Option Actor) → MatchOption first (IsCollectorsTurn o s (going o.meaning s) a) (λ actor. a ≡ Acts actor) → MatchOption first (IsCollectorsTurn o s (going o.meaning s) b) (λ actor. b ≡ Acts actor) → a ≡ b
    go None x y = one_collectors o s files (going o.meaning s) a b told x y
    go (Some actor) x y = x ∙ sym y
