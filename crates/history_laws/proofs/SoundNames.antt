-- Names stay apart, and entries stay there.
use Rattle.std.proofs.Common.{◌≡◌, inl, inr, ◌&&◌, ℕ, suc, Bool, true, false, not, cond, List, [], ◌∷◌, ◌++◌, map, filter, find, option_map, unwrap_or, Some, refl, sym, ◌∙◌, ap, subst}
use Rattle.std.specs.List.{AllByRecursion, list_any}
use Rattle.std.specs.List.Sorted.{IsStrictlySortedBy}
use Rattle.std.specs.Str.{bytes_eq}
use Rattle.std.specs.declared.cmp.Ordering.TheVariants.{Less}
use Rattle.std.specs.Cmp.Lexicographic.{slice_cmp}
use Rattle.std.specs.Ordering.{is_eq, nat_cmp}
use Rattle.std.proofs.lemmas.Map.Text.{is_eq-slice_cmp}
use Rattle.std.proofs.lemmas.Slice.Eq.{bytes_eq-Decides}
use Rattle.base_types.specs.declared.message.Msg.{Msg}
use Rattle.base_types.specs.Lists.{IsIn, changed_or_added}
use Rattle.base_types.proofs.Everywhere.{all_in}
use Rattle.base_types.proofs.Names.{less_differs}
use Rattle.base_types.proofs.Members.{in_back, in_front}
use Rattle.stored_types.specs.declared.queue.Queue.{Queue}
use Rattle.stored_types.specs.Queue.{is_queue, put, put_all, put_first, queued}
use Rattle.step_code.specs.declared.rules.Facts.{Facts}
use Rattle.step_code.specs.Rules.{AreSound}
use Rattle.history_laws.proofs.Pairs.{all-map, all_at, all_fail_any, filter_in, in-filter, in-map, one_passes, pairs-added, pairs-append, pairs-filter, pairs-map}
use Rattle.history_laws.proofs.SoundParts.{AreNamed, names_of}

-- queues

in_here : {A B : Type 0} (here : Bool) (f : A → B) (y : B) (x z : A) (xs ys : List A) → f z ≡ f x → (IsIn y (map f xs) → IsIn y (map f ys)) → IsIn y (map f (x ∷ xs)) → IsIn y (map f (cond here (z ∷ xs) (x ∷ ys)))
in_here true f y x z xs ys same later there = subst (λ b. IsIn y (b ∷ map f xs)) (sym same) there
in_here false f y x z xs ys same later (inl is) = inl is
in_here false f y x z xs ys same later (inr there) = inr (later there)

-- what is named stays named
pub in_added : {A B : Type 0} (f : A → B) (is : A → Bool) (change : A → A) (new : A) (y : B) (xs : List A) → ((x : A) → f (change x) ≡ f x) → IsIn y (map f xs) → IsIn y (map f (changed_or_added is change new xs))
in_added f is change new y [] same there = absurd there
in_added f is change new y (x ∷ xs) same there = in_here (is x) f y x (change x) xs (changed_or_added is change new xs) (same x) (in_added f is change new y xs same) there

module _ (name : List ℕ) (message : Msg) (queues : List Queue) where
  abbrev made : Queue
  made = record { name = name; messages = message ∷ [] }

  abbrev longer : Queue → Queue
  longer q = record q { messages = q.messages ++ message ∷ [] }

  abbrev longer_first : Queue → Queue
  longer_first q = record q { messages = message ∷ q.messages }

  abbrev differ : Queue → Queue → Type 0
  differ a b = bytes_eq a.name b.name ≡ false

  pub names-put : AreNamed (λ (q : Queue). q.name) queues → AreNamed (λ (q : Queue). q.name) (put name message queues)
  names-put apart = pairs-added differ (is_queue name) longer (λ a b other. other) (λ a b other. other) made (λ q other. other) queues apart

  pub names-put_first : AreNamed (λ (q : Queue). q.name) queues → AreNamed (λ (q : Queue). q.name) (put_first name message queues)
  names-put_first apart = pairs-added differ (is_queue name) longer_first (λ a b other. other) (λ a b other. other) made (λ q other. other) queues apart

  pub in-put : (y : List ℕ) → IsIn y (names_of queues) → IsIn y (names_of (put name message queues))
  in-put y there = in_added (λ (q : Queue). q.name) (is_queue name) longer made y queues (λ q. refl) there

  pub in-put_first : (y : List ℕ) → IsIn y (names_of queues) → IsIn y (names_of (put_first name message queues))
  in-put_first y there = in_added (λ (q : Queue). q.name) (is_queue name) longer_first made y queues (λ q. refl) there

pub names-put_all : (next : ℕ) (sends : List (List ℕ × List ℕ)) (queues : List Queue) → AreNamed (λ (q : Queue). q.name) queues → AreNamed (λ (q : Queue). q.name) (put_all next sends queues)
names-put_all next [] queues apart = apart
names-put_all next (send ∷ sends) queues apart =
    let message : Msg = record { no = next; body = send.1 } in
    names-put_all (suc next) sends (put send.0 message queues) (names-put send.0 message queues apart)

pub in-put_all : (next : ℕ) (sends : List (List ℕ × List ℕ)) (queues : List Queue) (y : List ℕ) → IsIn y (names_of queues) → IsIn y (names_of (put_all next sends queues))
in-put_all next [] queues y there = there
in-put_all next (send ∷ sends) queues y there =
    let message : Msg = record { no = next; body = send.1 } in
    in-put_all (suc next) sends (put send.0 message queues) y (in-put send.0 message queues y there)

found_named : (here : Bool) (name : List ℕ) (q : Queue) (queues : List Queue) (message : Msg) (others : List Msg) → is_queue name q ≡ here → (queued name queues ≡ message ∷ others → IsIn name (names_of queues))
    → unwrap_or (option_map (λ q. q.messages) (cond here (Some q) (find (is_queue name) queues))) [] ≡ message ∷ others → IsIn name (names_of (q ∷ queues))
found_named true name q queues message others is later waits = inl (sym ((bytes_eq-Decides q.name name).0 is))
found_named false name q queues message others is later waits = inr (later waits)

-- a queue with a message is there
pub queue_there : (name : List ℕ) (queues : List Queue) (message : Msg) (others : List Msg) → queued name queues ≡ message ∷ others → IsIn name (names_of queues)
queue_there name [] message others waits = absurd (cc)
queue_there name (q ∷ queues) message others waits = found_named (is_queue name q) name q queues message others refl (queue_there name queues message others) waits

-- bots

sorted_apart : (bots : List Facts) → IsStrictlySortedBy (slice_cmp nat_cmp) (map (λ f. f.bot) bots) → AreNamed (λ (f : Facts). f.bot) bots
unfolding IsStrictlySortedBy
sorted_apart [] sorted = tt
sorted_apart (f ∷ bots) sorted = (others bots sorted.0, sorted_apart bots sorted.1)
  where
    others : (more : List Facts) → AllByRecursion (λ name. slice_cmp nat_cmp f.bot name ≡ Less) (map (λ g. g.bot) more) → AllByRecursion (λ g. bytes_eq f.bot g.bot ≡ false) more
    others [] all = tt
    others (g ∷ more) all = (less_differs f.bot g.bot all.0, others more all.1)

pub bots_apart : (bots : List Facts) → AreSound bots → AreNamed (λ (f : Facts). f.bot) bots
bots_apart bots sound = sorted_apart bots sound.order

-- entries of bots

module _ {A : Type 0} (bot_of : A → List ℕ) (new : Facts → A) (same : (f : Facts) → bot_of (new f) ≡ f.bot) (fits : Facts → Bool) where
  abbrev has : List A → Facts → Bool
  has entries f = list_any (λ x. bytes_eq (bot_of x) f.bot) entries

  abbrev lacking : List Facts → List A → List Facts
  lacking bots entries = filter (λ f. fits f && not (has entries f)) bots

  new_apart : (bots : List Facts) → AreNamed (λ (f : Facts). f.bot) bots → AreNamed bot_of (map new bots)
  new_apart bots apart =
      pairs-map (λ (f g : Facts). bytes_eq f.bot g.bot ≡ false) (λ x y. bytes_eq (bot_of x) (bot_of y) ≡ false) new bots (λ f g other. (λ k. bytes_eq (same f k) (same g k)) ∙ other) apart

  pub first_apart : (bots : List Facts) → AreSound bots → AreNamed bot_of (map new (filter fits bots))
  first_apart bots sound = new_apart (filter fits bots) (pairs-filter (λ (f g : Facts). bytes_eq f.bot g.bot ≡ false) fits bots (bots_apart bots sound))

  pub first_there : (bots : List Facts) → AllByRecursion (λ f. IsIn f.bot (map bot_of (map new (filter fits bots)))) (filter fits bots)
  first_there bots =
      all_in (λ f. IsIn f.bot (map bot_of (map new (filter fits bots)))) (filter fits bots)
      (λ f there. subst (λ name. IsIn name (map bot_of (map new (filter fits bots)))) (same f) (in-map bot_of (new f) (map new (filter fits bots)) (in-map new f (filter fits bots) there)))

  lacks : (a b : Bool) → (a && not b) ≡ true → b ≡ false
  lacks a true holds = clash a holds
    where
      clash : (a : Bool) → (a && false) ≡ true → true ≡ false
      clash true holds = cc
      clash false holds = cc
  lacks a false holds = refl

  -- none that is new has an entry already
  pub entries_apart : (bots : List Facts) (entries : List A) → AreSound bots → AreNamed bot_of entries → AreNamed bot_of (entries ++ map new (lacking bots entries))
  entries_apart bots entries sound apart =
      let more = lacking bots entries in
      let differ : A → A → Type 0 = λ x y. bytes_eq (bot_of x) (bot_of y) ≡ false in
      pairs-append differ entries (map new more) apart
      (new_apart more (pairs-filter (λ (f g : Facts). bytes_eq f.bot g.bot ≡ false) (λ f. fits f && not (has entries f)) bots (bots_apart bots sound)))
      (all_in (λ x. AllByRecursion (differ x) (map new more)) entries (λ x there.
      all-map (differ x) new more (all_in (λ f. differ x (new f)) more (λ f is.
      let absent = lacks (fits f) (has entries f) (filter_in (λ f. fits f && not (has entries f)) f bots is).1 in
      ap (bytes_eq (bot_of x)) (same f) ∙ all_at (λ y. bytes_eq (bot_of y) f.bot ≡ false) x entries there (all_fail_any (λ y. bytes_eq (bot_of y) f.bot) entries absent)))))

  entry_here : (bots : List Facts) (entries : List A) (f : Facts) (there : Bool) → has entries f ≡ there → fits f ≡ true → IsIn f bots → IsIn f.bot (map bot_of (entries ++ map new (lacking bots entries)))
  entry_here bots entries f true is wanted member =
      let found = one_passes (λ x. bytes_eq (bot_of x) f.bot) entries is in
      subst (λ name. IsIn name (map bot_of (entries ++ map new (lacking bots entries)))) ((bytes_eq-Decides (bot_of found.0) f.bot).0 found.2)
      (in-map bot_of found.0 (entries ++ map new (lacking bots entries)) (in_front found.0 entries (map new (lacking bots entries)) found.1))
  entry_here bots entries f false is wanted member =
      let passes : (fits f && not (has entries f)) ≡ true = λ k. wanted k && not (is k) in
      subst (λ name. IsIn name (map bot_of (entries ++ map new (lacking bots entries)))) (same f)
      (in-map bot_of (new f) (entries ++ map new (lacking bots entries)) (in_back (new f) entries (map new (lacking bots entries))
      (in-map new f (lacking bots entries) (in-filter (λ f. fits f && not (has entries f)) f bots passes member))))

  -- each that fits has one
  pub entries_there : (bots : List Facts) (entries : List A) → AllByRecursion (λ f. IsIn f.bot (map bot_of (entries ++ map new (lacking bots entries)))) (filter fits bots)
  entries_there bots entries =
      all_in (λ f. IsIn f.bot (map bot_of (entries ++ map new (lacking bots entries)))) (filter fits bots)
      (λ f there. let member = filter_in fits f bots there in entry_here bots entries f (has entries f) refl member.1 member.0)
