-- What a bot that may step stands for.
use Rattle.std.proofs.Common.{◌≡◌, ◌≤◌, ◌<◌, ◌+◌, ◌-◌, ◌&&◌, ◌==◌, ℕ, zero, suc, Bool, true, false, not, is_some, nat_le, List, [], ◌∷◌, Option, Some, None, IsSome, option_map, map, filter, find, refl, ap, subst, ◌∙◌, arith, if◌then◌else◌}
use Rattle.std.specs.List.{AllByRecursion}
use Rattle.std.specs.Option.{option_or}
use Rattle.std.specs.Cmp.Lexicographic.{slice_cmp}
use Rattle.std.specs.List.Sorted.{IsStrictlySortedBy}
use Rattle.std.specs.Str.{bytes_eq}
use Rattle.std.specs.Ordering.{nat_cmp}
use Rattle.std.specs.declared.cmp.Ordering.TheVariants.{Less}
use Rattle.std.proofs.lemmas.Bool.{eq-eqb, eqb-false, eqb-true, le-leb}
use Rattle.std.proofs.lemmas.Slice.Eq.{bytes_eq-Decides}
use Rattle.base_types.proofs.Everywhere.{all_found}
use Rattle.base_types.proofs.Names.{less_differs}
use Rattle.base_types.specs.Name.{queue_name}
use Rattle.stored_types.specs.Hand.{is_hand}
use Rattle.stored_types.specs.declared.hand.Hand.{Hand}
use Rattle.step_code.specs.declared.base.Base.{Base}
use Rattle.step_code.specs.declared.rules.Facts.{Facts}
use Rattle.step_code.specs.Fits.{first_failing, in_hand_parts, is_empty}
use Rattle.step_code.specs.Rules.{AreSound, IsSoundBot, Meaning, bot_named, collects, passes}
use Rattle.step_code.specs.Sound.{IsSoundHand}
use Rattle.step_code.specs.State.{bots_in_force, hand_of, held, is_halted, is_instance, waiting}
use Rattle.ack_steps.specs.Core.{HasSoundHands}
use Rattle.turn_order.specs.Laws.{FirstActorsMayAct, FullHandsFit, HandsAreLive, TakesFit}
use Rattle.turn_order.specs.Order.{first_among, worker_of}
use Rattle.turn_order.specs.Turn.{actor_of, first_actor, first_some, lowest_full, may_take, IsFreeToTake}
use Rattle.turn_order.specs.declared.actor.Actor.{Actor}
use Rattle.turn_order.specs.declared.actor.Actor.TheVariants.{Full, Take}

-- ---- lists

-- the first that is there is that of one of the items
pub some_first : {A B : Type 0} (P : A → Type 0) (g : A → Option B) (xs : List A) (b : B) → AllByRecursion P xs → first_some (map g xs) ≡ Some b → (x : A) × P x × (g x ≡ Some b)
some_first P g [] b all is = absurd (cc)
some_first P g (x ∷ xs) b all is = go (some_first P g xs b all.1) (g x) refl is
  where
    go : (first_some (map g xs) ≡ Some b → (y : _) × P y × (g y ≡ Some b)) → (o : Option _) → g x ≡ o → first_some (o ∷ map g xs) ≡ Some b → (y : _) × P y × (g y ≡ Some b)
    go later (Some c) found is = (x, all.0, found ∙ is)
    go later None found is = later is

-- where none is there, there is none of any item
pub none_first : {A B : Type 0} (g : A → Option B) (xs : List A) → first_some (map g xs) ≡ None → AllByRecursion (λ x. g x ≡ None) xs
none_first g [] is = tt
none_first g (x ∷ xs) is = go (none_first g xs) (g x) refl is
  where
    go : (first_some (map g xs) ≡ None → AllByRecursion (λ y. g y ≡ None) xs) → (o : Option _) → g x ≡ o → first_some (o ∷ map g xs) ≡ None → (g x ≡ None) × AllByRecursion (λ y. g y ≡ None) xs
    go later (Some c) found is = absurd (cc)
    go later None found is = (found, later is)

-- the first among the bots that take messages is the first among all
pub among_all : (s : Base) (bots : List Facts) → first_among s bots ≡ first_some (map (actor_of s) (filter (λ f. not (collects f)) bots))
among_all s [] = refl
among_all s (f ∷ bots) = go (among_all s bots) (collects f) refl (actor_of s f) refl
  where
    go : first_among s bots ≡ first_some (map (actor_of s) (filter (λ g. not (collects g)) bots)) → (c : Bool) → collects f ≡ c → (o : Option Actor) → actor_of s f ≡ o → first_among s (f ∷ bots) ≡ first_some (map (actor_of s) (filter (λ g. not (collects g)) (f ∷ bots)))
    go later true role o is = rw (role) later
    go later false role None is = rw (role, is) later
    go later false role (Some a) is = rw (role, is) refl

-- ---- bots

-- a bot of a plan is the one of its name
abbrev pub IsNamed : List Facts → Facts → Type 0
IsNamed bots f = bot_named f.bot bots ≡ Some f

pub all_named : (bots : List Facts) → IsStrictlySortedBy (slice_cmp nat_cmp) (map (λ f. f.bot) bots) → AllByRecursion (IsNamed bots) bots
unfolding IsStrictlySortedBy
all_named [] sorted = tt
all_named (b ∷ bots) sorted = (rw ((bytes_eq-Decides b.bot b.bot).1 refl) refl, later bots sorted.0 (all_named bots sorted.1))
  where
    later : (fs : List Facts) → AllByRecursion (λ name. slice_cmp nat_cmp b.bot name ≡ Less) (map (λ f. f.bot) fs) → AllByRecursion (IsNamed bots) fs → AllByRecursion (IsNamed (b ∷ bots)) fs
    later [] less named = tt
    later (f ∷ fs) less named = (rw (less_differs b.bot f.bot less.0) named.0, later fs less.1 named.1)

-- ---- instances

record IsLowest (bot : List ℕ) (first n i : ℕ) (s : Base) : Type 0 where
  pub from : first ≤ i
  pub below : i < first + n
  pub full : is_some (held bot i s) ≡ true

lowest_is : (bot : List ℕ) (first n i : ℕ) (s : Base) → lowest_full bot first n s ≡ Some i → IsLowest bot first n i s
lowest_is bot first zero i s is = absurd (cc)
lowest_is bot first (suc n) i s is = go (lowest_is bot (suc first) n i s) (is_some (held bot first s)) refl is
  where
    go : (lowest_full bot (suc first) n s ≡ Some i → IsLowest bot (suc first) n i s) → (b : Bool) → is_some (held bot first s) ≡ b → (if b then Some first else lowest_full bot (suc first) n s) ≡ Some i → IsLowest bot first (suc n) i s
    go later true full is = let same : first ≡ i = cc in record { from = omega (arith, same); below = omega (arith, same); full = subst (λ (k : ℕ). is_some (held bot k s) ≡ true) same full }
    go later false full is = let rest = later is in record { from = omega (arith, rest.from); below = omega (arith, rest.below); full = rest.full }

-- where none of the instances is full, each is empty
pub none_full : (bot : List ℕ) (first n i : ℕ) (s : Base) → lowest_full bot first n s ≡ None → first ≤ i → i < first + n → is_some (held bot i s) ≡ false
none_full bot first zero i s is from below = absurd (omega (arith, from, below))
none_full bot first (suc n) i s is from below = go (λ rest. none_full bot (suc first) n i s rest) (is_some (held bot first s)) refl is (first == i) refl
  where
    go : (lowest_full bot (suc first) n s ≡ None → suc first ≤ i → i < suc first + n → is_some (held bot i s) ≡ false) → (b : Bool) → is_some (held bot first s) ≡ b
        → (if b then Some first else lowest_full bot (suc first) n s) ≡ None → (here : Bool) → (first == i) ≡ here → is_some (held bot i s) ≡ false
    go later true full is here at = absurd (cc)
    go later false full is true at = subst (λ (k : ℕ). is_some (held bot k s) ≡ false) (eqb-true first i at) full
    go later false full is false at = later is (omega (arith, from, eqb-false first i at)) (omega (arith, below))

-- behind an instance that is empty
pub next_instance : (bot : List ℕ) (i n : ℕ) (s : Base) → i < n → is_some (held bot (i + 1) s) ≡ false → lowest_full bot (i + 1) (n - i) s ≡ lowest_full bot (i + 1 + 1) (n - (i + 1)) s
next_instance bot i n s inside empty = let one : n - i ≡ suc (n - (i + 1)) = omega (arith, inside) in let after : suc (i + 1) ≡ i + 1 + 1 = omega arith in ap (λ (k : ℕ). lowest_full bot (i + 1) k s) one ∙ rw (empty) (ap (λ (k : ℕ). lowest_full bot k (n - (i + 1)) s) after)

-- ---- what a bot does

-- the bot holds a message in this instance, the lowest
pub full_of : (s : Base) (f : Facts) (bot : List ℕ) (i : ℕ) → actor_of s f ≡ Some (Full bot i) → (f.bot ≡ bot) × (lowest_full f.bot 1 f.instances s ≡ Some i)
full_of s f bot i is = go (lowest_full f.bot 1 f.instances s) (may_take s f.bot) is
  where
    go : (o : Option ℕ) (b : Bool) → option_or (option_map (Full f.bot) o) (if b then Some (Take f.bot) else None) ≡ Some (Full bot i) → (f.bot ≡ bot) × (o ≡ Some i)
    go (Some k) b is = (cc, cc)
    go None true is = absurd (cc)
    go None false is = absurd (cc)

-- no instance of the bot is full, and it may take a message
pub take_of : (s : Base) (f : Facts) (bot : List ℕ) → actor_of s f ≡ Some (Take bot) → (f.bot ≡ bot) × (lowest_full f.bot 1 f.instances s ≡ None) × (may_take s f.bot ≡ true)
take_of s f bot is = go (lowest_full f.bot 1 f.instances s) (may_take s f.bot) refl refl is
  where
    go : (o : Option ℕ) (b : Bool) → lowest_full f.bot 1 f.instances s ≡ o → may_take s f.bot ≡ b → option_or (option_map (Full f.bot) o) (if b then Some (Take f.bot) else None) ≡ Some (Take bot)
        → (f.bot ≡ bot) × (lowest_full f.bot 1 f.instances s ≡ None) × (may_take s f.bot ≡ true)
    go (Some k) b low may is = absurd (cc)
    go None true low may is = (cc, low, may)
    go None false low may is = absurd (cc)

-- an instance of a bot of the plan that takes messages
pub instance_of : (bots : List Facts) (f : Facts) (i : ℕ) → bot_named f.bot bots ≡ Some f → collects f ≡ false → 1 ≤ i → i ≤ f.instances → is_instance bots f.bot i ≡ true
instance_of bots f i named worker from upto = ap (passes (λ (g : Facts). not (collects g) && nat_le 1 i && nat_le i g.instances)) named ∙ rw (worker, le-leb 1 i from, le-leb i f.instances upto) refl

-- the bot that steps takes messages
pub record Steps (m : Meaning) (s : Base) (actor : Actor) : Type 0 where
  pub facts : Facts
  pub named : bot_named facts.bot (bots_in_force m s) ≡ Some facts
  pub worker : collects facts ≡ false
  pub acts : actor_of s facts ≡ Some actor

pub steps_by : (m : Meaning) (s : Base) (actor : Actor) → AreSound (bots_in_force m s) → first_actor m s ≡ Some actor → Steps m s actor
steps_by m s actor sound is =
    let bots = bots_in_force m s in
    let found = some_first (IsNamed bots) (worker_of s) bots actor (all_named bots sound.order) (among_all s bots ∙ is) in
    let role = go found.0 (collects found.0) refl found.2 in
    record { facts = found.0; named = found.1; worker = role.0; acts = role.1 }
  where
    go : (f : Facts) (c : Bool) → collects f ≡ c → worker_of s f ≡ Some actor → (collects f ≡ false) × (actor_of s f ≡ Some actor)
    go f true role is = absurd (cc (rw (role) at is))
    go f false role is = (role, rw (role) at is)

-- a full hand
hand_there : (bot : List ℕ) (i : ℕ) (s : Base) → is_some (held bot i s) ≡ true → (hand : Hand) × (hand_of bot i s ≡ Some hand)
hand_there bot i s full = go (hand_of bot i s) refl full
  where
    go : (o : Option Hand) → hand_of bot i s ≡ o → is_some (option_map (λ (h : Hand). h.message.no) o) ≡ true → (hand : Hand) × (hand_of bot i s ≡ Some hand)
    go (Some hand) is full = (hand, is)
    go None is full = absurd (cc)

in_hand_fits : (m : Meaning) (s : Base) (bot : List ℕ) (i : ℕ) (hand : Hand) → is_instance (bots_in_force m s) bot i ≡ true → hand_of bot i s ≡ Some hand → first_failing (in_hand_parts m s bot i hand.message.no s.bundle_no) ≡ None
in_hand_fits m s bot i hand live holds =
    let held_is : held bot i s ≡ Some hand.message.no = ap (option_map (λ (h : Hand). h.message.no)) holds in
    rw (live, eq-eqb s.bundle_no s.bundle_no refl, ap (passes (λ no. no == hand.message.no)) held_is ∙ eq-eqb hand.message.no hand.message.no refl) refl

pub full_hands_fit : FullHandsFit
full_hands_fit m s bot i hand live holds = in_hand_fits m s bot i hand live holds

-- what is found passes
pub found_passes : {A : Type 0} (p : A → Bool) (xs : List A) (x : A) → find p xs ≡ Some x → p x ≡ true
found_passes p [] x is = absurd (cc)
found_passes p (y ∷ ys) x is = go (found_passes p ys x) (p y) refl is
  where
    go : (find p ys ≡ Some x → p x ≡ true) → (b : Bool) → p y ≡ b → find p (y ∷ ys) ≡ Some x → p x ≡ true
    go later true passes is = let same : y ≡ x = cc (rw (passes) at is) in subst (λ z. p z ≡ true) same passes
    go later false passes is = later (rw (passes) at is)

pub both : (a b : Bool) → a && b ≡ true → (a ≡ true) × (b ≡ true)
both true b is = (refl, is)
both false b is = absurd (cc)

pub hands_are_live : HandsAreLive
hands_are_live m s bot i sound full = go (hand_of bot i s) refl full
  where
    go : (o : Option Hand) → hand_of bot i s ≡ o → IsSome o → is_instance (bots_in_force m s) bot i ≡ true
    go None is full = absurd (cc)
    go (Some hand) is full =
        let names = both (bytes_eq hand.bot bot) (hand.instance == i) (found_passes (is_hand bot i) s.hands hand is) in
        let live = (all_found (IsSoundHand (bots_in_force m s) (map (λ q. q.name) s.queues)) (is_hand bot i) s.hands hand sound.each_hand is).live in
        subst (λ (b : List ℕ). is_instance (bots_in_force m s) b i ≡ true) ((bytes_eq-Decides hand.bot bot).0 names.0)
        (subst (λ (k : ℕ). is_instance (bots_in_force m s) hand.bot k ≡ true) (eqb-true hand.instance i names.1) live)

-- a live instance with a full hand
pub record IsFull (m : Meaning) (s : Base) (bot : List ℕ) (i : ℕ) : Type 0 where
  pub live : is_instance (bots_in_force m s) bot i ≡ true
  pub hand : Hand
  pub holds : hand_of bot i s ≡ Some hand

-- each full hand is one,
pub full_hand : (m : Meaning) (s : Base) (bot : List ℕ) (i : ℕ) → HasSoundHands m s → IsSome (hand_of bot i s) → IsFull m s bot i
full_hand m s bot i sound full = go (hand_of bot i s) refl full
  where
    go : (o : Option Hand) → hand_of bot i s ≡ o → IsSome o → IsFull m s bot i
    go None is some = absurd (cc)
    go (Some hand) is some = record { live = hands_are_live m s bot i sound full; hand = hand; holds = is }

-- and so is the first bot that may step,
pub first_is_full : (m : Meaning) (s : Base) (bot : List ℕ) (i : ℕ) → AreSound (bots_in_force m s) → first_actor m s ≡ Some (Full bot i) → IsFull m s bot i
first_is_full m s bot i sound is =
    let step = steps_by m s (Full bot i) sound is in
    let f = step.facts in
    let full = full_of s f bot i step.acts in
    let low = lowest_is f.bot 1 f.instances i s full.1 in
    let hand = hand_there f.bot i s low.full in
    let live = instance_of (bots_in_force m s) f i step.named step.worker low.from (omega (arith, low.below)) in
    subst (λ (b : List ℕ). IsFull m s b i) full.0 (record { live = live; hand = hand.0; holds = hand.1 })

empty_none : {A : Type 0} (o : Option A) → is_some o ≡ false → o ≡ None
empty_none (Some x) is = absurd (cc)
empty_none None is = refl

-- or its first instance may take a message
pub first_is_free : (m : Meaning) (s : Base) (bot : List ℕ) → AreSound (bots_in_force m s) → first_actor m s ≡ Some (Take bot) → IsFreeToTake m s bot 1
first_is_free m s bot sound is =
    let step = steps_by m s (Take bot) sound is in
    let f = step.facts in
    let takes = take_of s f bot step.acts in
    let some = (all_found IsSoundBot _ (bots_in_force m s) f sound.each step.named).some_instance in
    let live = instance_of (bots_in_force m s) f 1 step.named step.worker (omega arith) some in
    let empty = empty_none (held f.bot 1 s) (none_full f.bot 1 f.instances 1 s takes.1 (omega arith) (omega (arith, some))) in
    subst (λ (b : List ℕ). IsFreeToTake m s b 1) takes.0 (record { live = live; empty = empty; takes = takes.2 })

pub takes_fit : TakesFit
takes_fit m s bot i message free =
    let may = both (not (is_halted bot s)) (not (is_empty (waiting (queue_name bot) s))) free.takes in
    rw (free.live, may.0, free.empty, may.1) refl

pub first_actors_may_act : FirstActorsMayAct
first_actors_may_act m s (Full bot i) sound is = ap is_some (first_is_full m s bot i sound is).holds
first_actors_may_act m s (Take bot) sound is = first_is_free m s bot sound is
