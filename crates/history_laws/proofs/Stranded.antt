-- What a reload leaves: the instances of the new bots keep what they hold, and what others held stands in front of their
-- bots' queues, lower instances first.
use Rattle.std.proofs.Common.{◌≡◌, ◌⊎◌, inl, inr, ⊎_elim, ◌<◌, ◌≤◌, ◌+◌, ℕ, zero, suc, Bool, true, false, not, cond, List, [], ◌∷◌, ◌++◌, map, filter, flat_map, find, option_map, unwrap_or, Option, Some, None, refl, sym, ◌∙◌, ap, subst, arith, append_assoc, if◌then◌else◌}
use Rattle.std.specs.List.{AllByRecursion}
use Rattle.std.specs.Str.{bytes_eq}
use Rattle.std.proofs.lemmas.List.{append_cancel_right, map-append}
use Rattle.std.proofs.lemmas.Slice.Eq.{bytes_eq-Decides}
use Rattle.base_types.specs.declared.message.Moment.{Moment}
use Rattle.base_types.specs.declared.message.Msg.{Msg}
use Rattle.base_types.specs.Lists.{IsIn, without}
use Rattle.base_types.specs.Name.{queue_ending, queue_name}
use Rattle.base_types.proofs.Everywhere.{all-append, all_in, all_wider, filter_all}
use Rattle.base_types.proofs.Members.{in_back, in_either, in_front}
use Rattle.stored_types.specs.declared.hand.Hand.{Hand}
use Rattle.stored_types.specs.declared.queue.Queue.{Queue}
use Rattle.stored_types.specs.Hand.{is_hand}
use Rattle.stored_types.specs.Queue.{is_queue, put_first, queued}
use Rattle.step_code.specs.declared.base.Base.{Base}
use Rattle.step_code.specs.declared.rules.Facts.{Facts}
use Rattle.step_code.specs.declared.step.StepKind.TheVariants as kind
use Rattle.step_code.specs.After.{after, all_given_back, falling, given_back, instances_of, renewed, returned, with_feeds, with_outs}
use Rattle.step_code.specs.History.{AreStranded, IsGivenBack}
use Rattle.step_code.specs.Rules.{AreSound, Meaning, collects}
use Rattle.step_code.specs.Sound.{IsSoundHand, IsSoundState, is_same_hand}
use Rattle.step_code.specs.State.{bots_in_force, bots_of, hand_of, is_instance, waiting}
use Rattle.history_laws.proofs.Pairs.{Pairwise, all-map, all_at, from_distinct, from_distinct_map, pairs-append, pairs-filter, pairs-map, pairs-without, to_rising}
use Rattle.history_laws.proofs.SoundHands.{hand_is, instance_there, is_own}
use Rattle.history_laws.proofs.SoundNames.{bots_apart}
use Rattle.history_laws.proofs.SoundParts.{AreNamed, names_of}
use Rattle.history_laws.proofs.SoundReloads.{AreLeft, IsLeft, live_now, none_still}

clash : {P : Type 0} → true ≡ false → P
clash e = absurd (cc)

-- what stands in front of a queue

abbrev in_first : Option Queue → List Msg
in_first found = unwrap_or (option_map (λ (q : Queue). q.messages) found) []

module _ (name : List ℕ) (message : Msg) where
  abbrev longer : Queue → Queue
  longer q = record q { messages = message ∷ q.messages }

  first_of : (here : Bool) (q : Queue) (queues rest : List Queue) → is_queue name q ≡ here → queued name rest ≡ message ∷ queued name queues
      → queued name (cond here (longer q ∷ queues) (q ∷ rest)) ≡ message ∷ in_first (cond here (Some q) (find (is_queue name) queues))
  first_of true q queues rest is later = rw is refl
  first_of false q queues rest is later = rw is later

  queued-put_first : (queues : List Queue) → queued name (put_first name message queues) ≡ message ∷ queued name queues
  queued-put_first [] = let itself : bytes_eq name name ≡ true = (bytes_eq-Decides name name).1 refl in rw itself refl
  queued-put_first (q ∷ queues) = first_of (is_queue name q) q queues (put_first name message queues) refl (queued-put_first queues)

module _ (other name : List ℕ) (message : Msg) (differs : bytes_eq other name ≡ false) where
  further : (here : Bool) (q : Queue) (rest queues : List Queue) → queued name rest ≡ queued name queues → in_first (cond here (Some q) (find (is_queue name) rest)) ≡ in_first (cond here (Some q) (find (is_queue name) queues))
  further true q rest queues same = refl
  further false q rest queues same = same

  not_first : (here : Bool) (q : Queue) (queues rest : List Queue) → is_queue other q ≡ here → queued name rest ≡ queued name queues
      → queued name (cond here (record q { messages = message ∷ q.messages } ∷ queues) (q ∷ rest)) ≡ queued name (q ∷ queues)
  not_first true q queues rest is later =
      let fails : bytes_eq q.name name ≡ false = ap (λ n. bytes_eq n name) ((bytes_eq-Decides q.name other).0 is) ∙ differs in
      rw fails refl
  not_first false q queues rest is later = further (is_queue name q) q rest queues later

  queued-put_other : (queues : List Queue) → queued name (put_first other message queues) ≡ queued name queues
  queued-put_other [] = rw differs refl
  queued-put_other (q ∷ queues) = not_first (is_queue other q) q queues (put_first other message queues) refl (queued-put_other queues)

-- lists

without_filter : {A : Type 0} (here passes : Bool) (p : A → Bool) (x : A) (xs rest : List A) → (here ≡ true → passes ≡ false) → p x ≡ passes → filter p rest ≡ filter p xs
    → filter p (cond here xs (x ∷ rest)) ≡ cond passes (x ∷ filter p xs) (filter p xs)
without_filter true true p x xs rest gone is same = clash (gone refl)
without_filter true false p x xs rest gone is same = refl
without_filter false true p x xs rest gone is same = rw is (ap (λ l. x ∷ l) same)
without_filter false false p x xs rest gone is same = rw is same

-- what leaves and is left out anyway changes nothing
filter-without : {A : Type 0} (p is : A → Bool) (xs : List A) → ((x : A) → is x ≡ true → p x ≡ false) → filter p (without is xs) ≡ filter p xs
filter-without p is [] gone = refl
filter-without p is (x ∷ xs) gone = without_filter (is x) (p x) p x xs (without is xs) (gone x) refl (filter-without p is xs gone)

in_without : {A : Type 0} (is : A → Bool) (x : A) (xs : List A) → is x ≡ false → IsIn x xs → IsIn x (without is xs)
in_without is x [] stays there = absurd there
in_without is x (y ∷ xs) stays there = here (is y) refl there (in_without is x xs stays)
  where
    here : (b : Bool) → is y ≡ b → (x ≡ y) ⊎ IsIn x xs → (IsIn x xs → IsIn x (without is xs)) → IsIn x (cond b xs (y ∷ without is xs))
    here true test (inl same) later = clash (sym test ∙ ap is (sym same) ∙ stays)
    here true test (inr more) later = more
    here false test (inl same) later = inl same
    here false test (inr more) later = inr (later more)

without_in : {A : Type 0} (is : A → Bool) (x : A) (xs : List A) → IsIn x (without is xs) → IsIn x xs
without_in is x [] there = absurd there
without_in is x (y ∷ xs) there = here (is y) there (without_in is x xs)
  where
    here : (b : Bool) → IsIn x (cond b xs (y ∷ without is xs)) → (IsIn x (without is xs) → IsIn x xs) → IsIn x (y ∷ xs)
    here true more later = inr more
    here false (inl same) later = inl same
    here false (inr more) later = inr (later more)

found_first : {A : Type 0} (here : Bool) (is : A → Bool) (x y : A) (xs : List A) (rest : Option A) → is y ≡ here → (rest ≡ Some x → IsIn x xs × (is x ≡ true)) → cond here (Some y) rest ≡ Some x → IsIn x (y ∷ xs) × (is x ≡ true)
found_first {A} true is x y xs rest test later found =
    let same : y ≡ x = ap (λ o. or_y o) found in (inl (sym same), ap is (sym same) ∙ test)
  where
    or_y : Option A → A
    or_y None = y
    or_y (Some z) = z
found_first false is x y xs rest test later found = let there = later found in (inr there.0, there.1)

-- what is found is there, and passes
found_there : {A : Type 0} (is : A → Bool) (x : A) (xs : List A) → find is xs ≡ Some x → IsIn x xs × (is x ≡ true)
found_there is x [] found = absurd (cc)
found_there is x (y ∷ xs) found = found_first (is y) is x y xs (find is xs) refl (found_there is x xs) found

-- a hand is the one of its instance
abbrev IsApart : List Hand → Type 0
IsApart hands = Pairwise (λ a b. is_same_hand a b ≡ false) hands

own_here : (here : Bool) (h x : Hand) (hands : List Hand) → is_hand h.bot h.instance x ≡ here → AllByRecursion (λ other. is_same_hand x other ≡ false) hands
    → (IsIn h hands → find (is_hand h.bot h.instance) hands ≡ Some h) → IsIn h (x ∷ hands) → cond here (Some x) (find (is_hand h.bot h.instance) hands) ≡ Some h
own_here true h x hands is apart later (inl same) = ap (λ y. Some y) (sym same)
own_here true h x hands is apart later (inr there) =
    let key = hand_is h.bot h.instance x is in
    clash (sym (is_own h) ∙ (λ k. is_hand (sym key.0 k) (sym key.1 k) h) ∙ all_at (λ other. is_same_hand x other ≡ false) h hands there apart)
own_here false h x hands is apart later (inl same) = clash (sym (is_own h) ∙ ap (is_hand h.bot h.instance) same ∙ is)
own_here false h x hands is apart later (inr there) = later there

own_found : (h : Hand) (hands : List Hand) → IsApart hands → IsIn h hands → find (is_hand h.bot h.instance) hands ≡ Some h
own_found h [] apart there = absurd there
own_found h (x ∷ hands) apart there = own_here (is_hand h.bot h.instance x) h x hands refl apart.0 (own_found h hands apart.1) there

-- instances

-- of one bot, the later one is lower
abbrev falls : List ℕ × ℕ → List ℕ × ℕ → Type 0
falls x y = x.0 ≡ y.0 → y.1 < x.1

all_below : (n m : ℕ) → n ≤ m → AllByRecursion (λ i. i < suc m) (falling n)
all_below zero m under = tt
all_below (suc n) m under = let here : suc n < suc m = omega (arith, under) in (here, all_below n m (omega (arith, under)))

numbers_fall : (n : ℕ) → Pairwise (λ (i j : ℕ). j < i) (falling n)
numbers_fall zero = tt
numbers_fall (suc n) = (all_below n n (omega arith), numbers_fall n)

abbrev entries : Facts → List (List ℕ × ℕ)
entries f = map (λ instance. (f.bot, instance)) (falling f.instances)

entries_fall : (f : Facts) → Pairwise falls (entries f)
entries_fall f = pairs-map (λ (i j : ℕ). j < i) falls (λ instance. (f.bot, instance)) (falling f.instances) (λ i j below same. below) (numbers_fall f.instances)

others_fall : (f : Facts) (instance : ℕ) (bots : List Facts) → AllByRecursion (λ g. bytes_eq f.bot g.bot ≡ false) bots → AllByRecursion (falls (f.bot, instance)) (flat_map entries bots)
others_fall f instance [] apart = tt
others_fall f instance (g ∷ bots) apart =
    all-append (falls (f.bot, instance)) (entries g) (flat_map entries bots)
    (all-map (falls (f.bot, instance)) (λ n. (g.bot, n)) (falling g.instances) (all_in (λ n. f.bot ≡ g.bot → n < instance) (falling g.instances) (λ n there same. clash (sym ((bytes_eq-Decides f.bot g.bot).1 same) ∙ apart.0))))
    (others_fall f instance bots apart.1)

flat_fall : (bots : List Facts) → Pairwise (λ (f g : Facts). bytes_eq f.bot g.bot ≡ false) bots → Pairwise falls (flat_map entries bots)
flat_fall [] apart = tt
flat_fall (f ∷ bots) apart =
    pairs-append falls (entries f) (flat_map entries bots) (entries_fall f) (flat_fall bots apart.1)
    (all-map (λ x. AllByRecursion (falls x) (flat_map entries bots)) (λ instance. (f.bot, instance)) (falling f.instances)
    (all_in (λ instance. AllByRecursion (falls (f.bot, instance)) (flat_map entries bots)) (falling f.instances) (λ instance there. others_fall f instance bots apart.0)))

instances_fall : (bots : List Facts) → AreSound bots → Pairwise falls (instances_of bots)
instances_fall bots sound = flat_fall (filter (λ f. not (collects f)) bots) (pairs-filter (λ (f g : Facts). bytes_eq f.bot g.bot ≡ false) (λ f. not (collects f)) bots (bots_apart bots sound))

-- a queue belongs to one bot
one_bot : (a b : List ℕ) → queue_name a ≡ queue_name b → a ≡ b
one_bot a b same = append_cancel_right a b queue_ending same

-- what is given back

abbrev messages_of : List Hand → List Msg
messages_of hands = map (λ h. h.message) hands

-- what one instance gives back to a queue
abbrev of_one : Bool → Bool → Option Hand → List Hand
of_one true here found = []
of_one false false found = []
of_one false true None = []
of_one false true (Some h) = h ∷ []

module _ (bots : List Facts) where
  abbrev is_live : List ℕ × ℕ → Bool
  is_live x = is_instance bots x.0 x.1

  -- the state after one instance
  abbrev next : List ℕ × ℕ → Base → Base
  next x s = if is_live x then s else given_back x.0 x.1 s

  -- the hands before: those that are left stay, and no instance has two
  hands_next : (live : Bool) (x : List ℕ × ℕ) (found : Option Hand) (s : Base) (h : Hand) → IsIn h (if live then s else returned x.0 x.1 found s).hands → IsIn h s.hands
  hands_next true x found s h there = there
  hands_next false x None s h there = there
  hands_next false x (Some other) s h there = without_in (is_hand x.0 x.1) h s.hands there

  apart_next : (live : Bool) (x : List ℕ × ℕ) (found : Option Hand) (s : Base) → IsApart s.hands → IsApart (if live then s else returned x.0 x.1 found s).hands
  apart_next true x found s apart = apart
  apart_next false x None s apart = apart
  apart_next false x (Some other) s apart = pairs-without (λ a b. is_same_hand a b ≡ false) (is_hand x.0 x.1) s.hands apart

  stays_next : (live : Bool) (x : List ℕ × ℕ) (found : Option Hand) (s : Base) (h : Hand) → is_hand x.0 x.1 h ≡ false → IsIn h s.hands → IsIn h (if live then s else returned x.0 x.1 found s).hands
  stays_next true x found s h other there = there
  stays_next false x None s h other there = there
  stays_next false x (Some taken) s h other there = in_without (is_hand x.0 x.1) h s.hands other there

  -- the live hands are the same before and after
  live_next : (live : Bool) (x : List ℕ × ℕ) (found : Option Hand) (s : Base) → is_live x ≡ live
      → filter (λ h. is_instance bots h.bot h.instance) (if live then s else returned x.0 x.1 found s).hands ≡ filter (λ h. is_instance bots h.bot h.instance) s.hands
  live_next true x found s is = refl
  live_next false x None s is = refl
  live_next false x (Some other) s is =
      filter-without (λ (h : Hand). is_instance bots h.bot h.instance) (is_hand x.0 x.1) s.hands
      (λ h here. let key = hand_is x.0 x.1 h here in (λ k. is_instance bots (key.0 k) (key.1 k)) ∙ is)

  live_kept : (xs : List (List ℕ × ℕ)) (s : Base) → filter (λ h. is_instance bots h.bot h.instance) (all_given_back bots xs s).hands ≡ filter (λ h. is_instance bots h.bot h.instance) s.hands
  live_kept [] s = refl
  live_kept (x ∷ xs) s = live_kept xs (next x s) ∙ live_next (is_live x) x (hand_of x.0 x.1 s) s refl

  module _ (queue : List ℕ) where
    -- the hands that give back to the queue, the last one first
    abbrev stranded : List (List ℕ × ℕ) → Base → List Hand
    stranded [] s = []
    stranded (x ∷ xs) s = stranded xs (next x s) ++ of_one (is_live x) (bytes_eq (queue_name x.0) queue) (hand_of x.0 x.1 s)

    waits_next : (live here : Bool) (x : List ℕ × ℕ) (found : Option Hand) (s : Base) → bytes_eq (queue_name x.0) queue ≡ here
        → waiting queue (if live then s else returned x.0 x.1 found s) ≡ messages_of (of_one live here found) ++ waiting queue s
    waits_next true here x found s is = refl
    waits_next false true x None s is = refl
    waits_next false false x None s is = refl
    waits_next false true x (Some h) s is =
        ap (λ name. queued queue (put_first name h.message s.queues)) ((bytes_eq-Decides (queue_name x.0) queue).0 is) ∙ queued-put_first queue h.message s.queues
    waits_next false false x (Some h) s is = queued-put_other (queue_name x.0) queue h.message is s.queues

    waits : (xs : List (List ℕ × ℕ)) (s : Base) → waiting queue (all_given_back bots xs s) ≡ messages_of (stranded xs s) ++ waiting queue s
    waits [] s = refl
    waits (x ∷ xs) s =
        let one = of_one (is_live x) (bytes_eq (queue_name x.0) queue) (hand_of x.0 x.1 s) in
        let later = stranded xs (next x s) in
        waits xs (next x s)
        ∙ ap (λ (l : List Msg). messages_of later ++ l) (waits_next (is_live x) (bytes_eq (queue_name x.0) queue) x (hand_of x.0 x.1 s) s refl)
        ∙ sym (append_assoc (messages_of later) (messages_of one) (waiting queue s))
        ∙ ap (λ (l : List Msg). l ++ waiting queue s) (sym (map-append (λ (h : Hand). h.message) later one))

    -- a hand that gives back to the queue
    record IsGiven (keys : List (List ℕ × ℕ)) (hands : List Hand) (h : Hand) : Type 0 where
      key : IsIn (h.bot, h.instance) keys
      held : IsIn h hands
      name : queue_name h.bot ≡ queue
      gone : is_instance bots h.bot h.instance ≡ false

    one_given : (live here : Bool) (x : List ℕ × ℕ) (xs : List (List ℕ × ℕ)) (found : Option Hand) (s : Base) (h : Hand) → is_live x ≡ live → bytes_eq (queue_name x.0) queue ≡ here
        → hand_of x.0 x.1 s ≡ found → IsIn h (of_one live here found) → (h.bot ≡ x.0) × (h.instance ≡ x.1) × IsGiven (x ∷ xs) s.hands h
    one_given true here x xs found s h dead is holds there = absurd there
    one_given false false x xs found s h dead is holds there = absurd there
    one_given false true x xs None s h dead is holds there = absurd there
    one_given false true x xs (Some other) s h dead is holds (inr more) = absurd more
    one_given false true x xs (Some other) s h dead is holds (inl same) =
        let there = found_there (is_hand x.0 x.1) h s.hands (holds ∙ ap (λ y. Some y) (sym same)) in
        let key = hand_is x.0 x.1 h there.1 in (
          key.0,
          key.1,
          record {
            key = inl (λ k. (key.0 k, key.1 k));
            held = there.0;
            name = ap queue_name key.0 ∙ (bytes_eq-Decides (queue_name x.0) queue).0 is;
            gone = (λ k. is_instance bots (key.0 k) (key.1 k)) ∙ dead;
          },
        )

    given : (xs : List (List ℕ × ℕ)) (s : Base) (h : Hand) → IsIn h (stranded xs s) → IsGiven xs s.hands h
    given [] s h there = absurd there
    given (x ∷ xs) s h there =
        let one = of_one (is_live x) (bytes_eq (queue_name x.0) queue) (hand_of x.0 x.1 s) in
        ⊎_elim
        (λ later. let was = given xs (next x s) h later in
        record { key = inr was.key; held = hands_next (is_live x) x (hand_of x.0 x.1 s) s h was.held; name = was.name; gone = was.gone })
        (λ now. (one_given (is_live x) (bytes_eq (queue_name x.0) queue) x xs (hand_of x.0 x.1 s) s h refl refl refl now).2)
        (in_either h (stranded xs (next x s)) one there)

    gives : (xs : List (List ℕ × ℕ)) (s : Base) (h : Hand) → IsApart s.hands → IsGiven xs s.hands h → IsIn h (stranded xs s)
    gives [] s h apart was = absurd was.key
    gives (x ∷ xs) s h apart was = here (is_hand x.0 x.1 h) refl (λ other key. gives xs (next x s) h (apart_next (is_live x) x (hand_of x.0 x.1 s) s apart) (record {
      key = key;
      held = stays_next (is_live x) x (hand_of x.0 x.1 s) s h other was.held;
      name = was.name;
      gone = was.gone;
    }))
      where
        here : (b : Bool) → is_hand x.0 x.1 h ≡ b → (is_hand x.0 x.1 h ≡ false → IsIn (h.bot, h.instance) xs → IsIn h (stranded xs (next x s))) → IsIn h (stranded (x ∷ xs) s)
        here true is later =
            let key = hand_is x.0 x.1 h is in
            let dead : is_live x ≡ false = (λ k. is_instance bots (sym key.0 k) (sym key.1 k)) ∙ was.gone in
            let named : bytes_eq (queue_name x.0) queue ≡ true = (bytes_eq-Decides (queue_name x.0) queue).1 (ap queue_name (sym key.0) ∙ was.name) in
            let holds : hand_of x.0 x.1 s ≡ Some h = (λ k. hand_of (sym key.0 k) (sym key.1 k) s) ∙ own_found h s.hands apart was.held in
            let one : of_one (is_live x) (bytes_eq (queue_name x.0) queue) (hand_of x.0 x.1 s) ≡ h ∷ [] = λ k. of_one (dead k) (named k) (holds k) in
            subst (λ l. IsIn h (stranded xs (next x s) ++ l)) (sym one) (in_back h (stranded xs (next x s)) (h ∷ []) (inl refl))
        here false is later =
            in_front h (stranded xs (next x s)) (of_one (is_live x) (bytes_eq (queue_name x.0) queue) (hand_of x.0 x.1 s))
            (later is (⊎_elim (λ same. clash (sym (is_own h) ∙ ap (λ (y : List ℕ × ℕ). is_hand y.0 y.1 h) same ∙ is)) (λ there. there) was.key))

    one_rises : (live here : Bool) (found : Option Hand) → Pairwise (λ (a b : Hand). a.instance < b.instance) (of_one live here found)
    one_rises true here found = tt
    one_rises false false found = tt
    one_rises false true None = tt
    one_rises false true (Some h) = (tt, tt)

    rises : (xs : List (List ℕ × ℕ)) (s : Base) → Pairwise falls xs → Pairwise (λ (a b : Hand). a.instance < b.instance) (stranded xs s)
    rises [] s falling = tt
    rises (x ∷ xs) s falling =
        let one = of_one (is_live x) (bytes_eq (queue_name x.0) queue) (hand_of x.0 x.1 s) in
        let later = stranded xs (next x s) in
        pairs-append (λ (a b : Hand). a.instance < b.instance) later one (rises xs (next x s) falling.1) (one_rises (is_live x) (bytes_eq (queue_name x.0) queue) (hand_of x.0 x.1 s))
        (all_in (λ (a : Hand). AllByRecursion (λ (b : Hand). a.instance < b.instance) one) later (λ a there.
        let first = given xs (next x s) a there in
        all_in (λ (b : Hand). a.instance < b.instance) one (λ b is.
        let last = one_given (is_live x) (bytes_eq (queue_name x.0) queue) x xs (hand_of x.0 x.1 s) s b refl refl refl is in
        let same : x.0 ≡ a.bot = sym last.0 ∙ one_bot b.bot a.bot (last.2.name ∙ sym first.name) in
        let below : a.instance < x.1 = all_at (falls x) (a.bot, a.instance) xs first.key falling.0 same in
        omega (arith, below, last.1))))

-- a reload

module _ (old bots : List Facts) (plan : AreSound old) (s : Base) (named : AreNamed (λ (q : Queue). q.name) s.queues) (apart : IsApart s.hands)
    (each : AllByRecursion (IsSoundHand old (names_of s.queues)) s.hands) where
  abbrev after_all : Base
  after_all = all_given_back bots (instances_of old) s

  abbrev Whole : Hand → Type 0
  Whole h = Unit {0}

  live_left : AllByRecursion (λ (h : Hand). is_instance bots h.bot h.instance ≡ true) after_all.hands
  live_left =
      let left : AreLeft bots Whole [] after_all = none_still bots Whole (instances_of old) s (record {
        named = named;
        apart = apart;
        each = all_wider (IsSoundHand old (names_of s.queues)) (IsLeft bots Whole (instances_of old) (names_of s.queues)) s.hands
            (λ h fits. record { whose = inl (instance_there old h.bot h.instance fits.live); queue = fits.queue; holds = tt }) each;
      }) in
      all_wider (IsLeft bots Whole [] (names_of after_all.queues)) (λ (h : Hand). is_instance bots h.bot h.instance ≡ true) after_all.hands (live_now bots Whole (names_of after_all.queues)) left.each

  are_stranded : (queue : List ℕ) → AreStranded bots queue s.hands (stranded bots queue (instances_of old) s)
  are_stranded queue = record {
    order = to_rising (λ (h : Hand). h.instance) (stranded bots queue (instances_of old) s) (rises bots queue (instances_of old) s (instances_fall old plan));
    each = λ h. (
      (λ there. let was = given bots queue (instances_of old) s h there in (was.held, was.name, was.gone)),
      (λ (held, name, gone). gives bots queue (instances_of old) s h apart (record {
        key = instance_there old h.bot h.instance (all_at (IsSoundHand old (names_of s.queues)) h s.hands held each).live;
        held = held;
        name = name;
        gone = gone;
      })),
    );
  }

  all_returned : IsGivenBack bots s after_all
  all_returned = record {
    hands = sym (filter_all (λ (h : Hand). is_instance bots h.bot h.instance) after_all.hands live_left) ∙ live_kept bots (instances_of old) s;
    queues = λ queue. (stranded bots queue (instances_of old) s, are_stranded queue, waits bots queue (instances_of old) s);
  }

pub reload_leaves : (m : Meaning) (plan : (bundle : List ℕ) (bots : List Facts) → m.facts bundle ≡ Some bots → AreSound bots) (s : Base) (now : Moment) (bundle : List ℕ) → IsSoundState m s
    → IsGivenBack (bots_of m bundle) s (after m s (record { moment = now; what = kind.Reload bundle }))
reload_leaves m plan s now bundle sound =
    let old = bots_in_force m s in
    let new = bots_of m bundle in
    let in_force : old ≡ sound.bots = ap (λ o. unwrap_or o []) sound.loads in
    let t : Base = record s { steps = s.steps + 1; latest = now; bundle = bundle; bundle_no = s.bundle_no + 1; halted = []; feeds = with_feeds new (map (renewed old new) s.feeds); outs = with_outs new s.outs } in
    let left = all_returned old new (subst AreSound (sym in_force) (plan s.bundle sound.bots sound.loads)) t
    (from_distinct_map bytes_eq (λ (q : Queue). q.name) s.queues sound.queues) (from_distinct is_same_hand s.hands sound.hands)
    (subst (λ bots. AllByRecursion (IsSoundHand bots (names_of s.queues)) s.hands) (sym in_force) sound.each_hand) in
    record { hands = left.hands; queues = left.queues }
