-- What the calls of a broker do, by the places of queues and of full hands.
use Rattle.std.proofs.Common.{◌≡◌, ◌<◌, ◌≤◌, ◌⊎◌, ◌+◌, ◌-◌, ◌∙◌, ◌==◌, ℕ, zero, suc, Bool, cond, nat_lt, not, List, [], ◌∷◌, ◌++◌, drop, length, map, get_or, set, slice_get, take, Result, Ok, Err, Option, Some, None, position, unwrap_or, option_map, ap, sym, subst, refl, inl, inr, arith}
use Rattle.std.specs.List.{position_or_len, remove}
use Rattle.std.specs.Result.{OnErr, OnOk}
use Rattle.std.specs.Str.{bytes_eq}
use Rattle.std.proofs.Math.Seq.{set-append_seam}
use Rattle.std.proofs.lemmas.Bool.{and_parts}
use Rattle.std.proofs.lemmas.List.{append-nil, append_assoc, length-map, length-set, take_more}
use Rattle.std.proofs.lemmas.Option.{get_or_from_slice_get, slice_get_within}
use Rattle.std.proofs.lemmas.Slice.Eq.{bytes_eq-Decides}
use Rattle.base_types.specs.declared.message.Moment.{Moment}
use Rattle.base_types.specs.declared.message.Msg.{Msg}
use Rattle.base_types.specs.Lists.{changed}
use Rattle.base_types.specs.Name.{queue_name}
use Rattle.base_types.proofs.Found.{changed_placed, find_missing, find_placed, first_at, without_placed}
use Rattle.stored_types.specs.declared.hand.Hand.{Hand}
use Rattle.stored_types.specs.declared.queue.Queue.{Queue}
use Rattle.stored_types.specs.Hand.{is_hand}
use Rattle.stored_types.specs.Queue.{is_queue, put, put_first, queued}
use Rattle.queue_broker.specs.Broker.{BrokerView, IsTaken, emptied, from_lists, given_back, hand_of, number_of, reserved, total, tried}
use Rattle.queue_broker.proofs.Changes.{added_missing, added_placed, found_passes}

-- the first place at which a test passes is the same after a map that the test doesn't see
pub place_mapped : {A B : Type 0} (f : A → B) (p : B → Bool) (xs : List A) → position p (map f xs) ≡ position (λ x. p (f x)) xs
place_mapped {A} {B} f p xs =
    ap (λ (n : ℕ). cond (nat_lt n (length (map f xs))) (Some n) None) (lens xs)
    ∙ ap (λ (n : ℕ). cond (nat_lt (position_or_len (λ x. p (f x)) xs) n) (Some (position_or_len (λ x. p (f x)) xs)) None) (length-map xs f)
  where
    lens : (ys : List A) → position_or_len p (map f ys) ≡ position_or_len (λ x. p (f x)) ys
    lens [] = refl
    lens (y ∷ ys) = ap (λ (n : ℕ). cond (not (p (f y))) (1 + n) 0) (lens ys)

-- an item within a list, at its place
pub item_at : {A : Type 0} (xs : List A) (i : ℕ) → i < length xs → (x : A) × (slice_get xs i ≡ Some x) × (x ≡ get_or xs i x)
item_at [] i inside = absurd (omega (arith, inside))
item_at (x ∷ xs) zero inside = (x, refl, refl)
item_at (x ∷ xs) (suc i) inside = item_at xs i (omega (arith, inside))

pub item_placed : {A : Type 0} (p : A → Bool) (xs : List A) (i : ℕ) → position p xs ≡ Some i → (x : A) × (slice_get xs i ≡ Some x) × (x ≡ get_or xs i x)
item_placed p xs i place = item_at xs i (first_at p xs i place).inside

-- the item behind a list
pub behind_all : {A : Type 0} (xs : List A) (y : A) → slice_get (xs ++ y ∷ []) (length xs) ≡ Some y
behind_all [] y = refl
behind_all (x ∷ xs) y = behind_all xs y

-- a copy of the next item
pub copies_more : {A : Type 0} (xs copies new : List A) (i : ℕ) (x : A) → copies ≡ take i xs → slice_get xs i ≡ Some x → new ≡ copies ++ x ∷ [] → new ≡ take (i + 1) xs
copies_more xs copies new i x so_far at more =
    more ∙ ap (λ l. l ++ x ∷ []) so_far ∙ sym (take_more xs i x (slice_get_within xs i x at) ∙ ap (λ y. take i xs ++ y ∷ []) (get_or_from_slice_get xs i x x at))

pub none_of : {A : Type 0} (xs : List A) → length xs ≡ 0 → xs ≡ []
none_of [] none = refl
none_of (x ∷ xs) none = absurd (omega (arith, none))

pub on_ok : {A E : Type 0} (r : Result A E) (P : Type 0) → P → OnOk r P
on_ok (Ok x) P holds = holds
on_ok (Err e) P holds = tt

pub on_err : {A E : Type 0} (r : Result A E) (P : Type 0) → P → OnErr r P
on_err (Ok x) P holds = tt
on_err (Err e) P holds = holds

-- ---- queues

pub queued_placed : (name : List ℕ) (queues : List Queue) (i : ℕ) (q : Queue) → position (is_queue name) queues ≡ Some i → slice_get queues i ≡ Some q → queued name queues ≡ q.messages
queued_placed name queues i q place at =
    ap (λ (o : Option Queue). unwrap_or (option_map (λ (x : Queue). x.messages) o) []) (find_placed (is_queue name) queues i q place)
    ∙ ap (λ (x : Queue). x.messages) (get_or_from_slice_get queues i q q at)

pub queued_missing : (name : List ℕ) (queues : List Queue) → position (is_queue name) queues ≡ None → queued name queues ≡ []
queued_missing name queues none = ap (λ (o : Option Queue). unwrap_or (option_map (λ (x : Queue). x.messages) o) []) (find_missing (is_queue name) queues none)

abbrev sent_to : List Queue → BrokerView → BrokerView
sent_to queues v = record v { queues = queues; spare = v.spare - 1; pushed = v.pushed + 1 }

abbrev with_last : Msg → Queue → Queue
with_last message q = record q { messages = q.messages ++ message ∷ [] }

-- a message at the end of a queue that is there
pub sent_there : (v new : BrokerView) (name : List ℕ) (message : Msg) (i : ℕ) → position (is_queue name) v.queues ≡ Some i
    → ((q : Queue) → slice_get v.queues i ≡ Some q → new ≡ sent_to (set v.queues i (with_last message q)) v) → new ≡ sent_to (put name message v.queues) v
sent_there v new name message i place done =
    let (q, at, here) = item_placed (is_queue name) v.queues i place in
    done q at ∙ ap (λ (qs : List Queue). sent_to qs v) (sym (added_placed (is_queue name) (with_last message) (record { name = name; messages = message ∷ [] }) v.queues i q place here))

-- and of one that is made
pub sent_new : (v made new : BrokerView) (name : List ℕ) (message : Msg) (i : ℕ) → i ≡ length v.queues → position (is_queue name) v.queues ≡ None → made ≡ record v { queues = v.queues ++ record { name = name; messages = [] } ∷ [] }
    → ((q : Queue) → slice_get made.queues i ≡ Some q → new ≡ sent_to (set made.queues i (with_last message q)) made) → new ≡ sent_to (put name message v.queues) v
sent_new v made new name message i last none is done =
    let empty : Queue = record { name = name; messages = [] } in
    let one : Queue = record { name = name; messages = message ∷ [] } in
    let at : slice_get made.queues i ≡ Some empty = ap (λ (w : BrokerView). slice_get w.queues i) is ∙ ap (slice_get (v.queues ++ empty ∷ [])) last ∙ behind_all v.queues empty in
    done empty at ∙ ap (λ (w : BrokerView). sent_to (set w.queues i one) w) is ∙ ap (λ (k : ℕ). sent_to (set (v.queues ++ empty ∷ []) k one) v) last
    ∙ ap (λ (qs : List Queue). sent_to qs v) (set-append_seam v.queues empty [] one ∙ sym (added_missing (is_queue name) (with_last message) one v.queues none))

pub the_other : {P Q : Type 0} → P ⊎ Q → (P → ⊥) → Q
the_other (inl p) never = absurd (never p)
the_other (inr q) never = q

-- ---- hands

abbrev without_first : Queue → Queue
without_first q = record q { messages = drop 1 q.messages }

-- the first message of a bot's queue comes into a hand
pub taken_first : (v new : BrokerView) (bot : List ℕ) (instance : ℕ) (now : Moment) (i : ℕ) → position (is_queue (queue_name bot)) v.queues ≡ Some i → 1 ≤ length (queued (queue_name bot) v.queues)
    → ((q : Queue) (message : Msg) (others : List Msg) → slice_get v.queues i ≡ Some q → q.messages ≡ message ∷ others
    → new ≡ record v { queues = set v.queues i (record q { messages = others }); hands = v.hands ++ record { bot = bot; instance = instance; message = message; tries = 0; since = now } ∷ [] })
    → IsTaken bot instance now (queued (queue_name bot) v.queues) v new
taken_first v new bot instance now i place some done =
    let (q, at, here) = item_placed (is_queue (queue_name bot)) v.queues i place in
    let waits : queued (queue_name bot) v.queues ≡ q.messages = queued_placed (queue_name bot) v.queues i q place at in
    let left : changed (is_queue (queue_name bot)) without_first v.queues ≡ set v.queues i (without_first q) = changed_placed (is_queue (queue_name bot)) without_first v.queues i q place here in
    by_messages (queued (queue_name bot) v.queues) some q waits left (λ message others is. done q message others at is)
  where
    by_messages : (ms : List Msg) → 1 ≤ length ms → (q : Queue) → ms ≡ q.messages → changed (is_queue (queue_name bot)) without_first v.queues ≡ set v.queues i (without_first q)
        → ((message : Msg) (others : List Msg) → q.messages ≡ message ∷ others
        → new ≡ record v { queues = set v.queues i (record q { messages = others }); hands = v.hands ++ record { bot = bot; instance = instance; message = message; tries = 0; since = now } ∷ [] })
        → IsTaken bot instance now ms v new
    by_messages [] some q waits left done = absurd (omega (arith, some))
    by_messages (message ∷ others) some q waits left done =
        done message others (sym waits)
        ∙ ap (λ (qs : List Queue). record v { queues = qs; hands = v.hands ++ record { bot = bot; instance = instance; message = message; tries = 0; since = now } ∷ [] })
        (ap (λ (ms : List Msg). set v.queues i (record q { messages = drop 1 ms })) waits ∙ sym left)

pub number_placed : (bot : List ℕ) (instance : ℕ) (hands : List Hand) (k : ℕ) (h : Hand) → position (is_hand bot instance) hands ≡ Some k → slice_get hands k ≡ Some h → number_of bot instance hands ≡ Some h.message.no
number_placed bot instance hands k h place at =
    ap (λ (o : Option Hand). option_map (λ (m : Msg). m.no) (option_map (λ (x : Hand). x.message) o)) (find_placed (is_hand bot instance) hands k h place ∙ ap Some (get_or_from_slice_get hands k h h at))

pub number_missing : (bot : List ℕ) (instance : ℕ) (hands : List Hand) → position (is_hand bot instance) hands ≡ None → number_of bot instance hands ≡ None
number_missing bot instance hands none = ap (λ (o : Option Hand). option_map (λ (m : Msg). m.no) (option_map (λ (x : Hand). x.message) o)) (find_missing (is_hand bot instance) hands none)

-- a hand without a number is empty
pub no_number : (o : Option Hand) → option_map (λ (m : Msg). m.no) (option_map (λ (x : Hand). x.message) o) ≡ None → o ≡ None
no_number None none = refl
no_number (Some h) none = absurd (cc)

pub hand_placed : (bot : List ℕ) (instance : ℕ) (hands : List Hand) (k : ℕ) (h : Hand) → position (is_hand bot instance) hands ≡ Some k → slice_get hands k ≡ Some h → hand_of bot instance hands ≡ Some h
hand_placed bot instance hands k h place at = find_placed (is_hand bot instance) hands k h place ∙ ap Some (get_or_from_slice_get hands k h h at)

-- the hand of an instance is that of its bot
pub its_bot : (bot : List ℕ) (instance : ℕ) (hands : List Hand) (k : ℕ) (h : Hand) → position (is_hand bot instance) hands ≡ Some k → slice_get hands k ≡ Some h → h.bot ≡ bot
its_bot bot instance hands k h place at =
    (bytes_eq-Decides h.bot bot).0 (and_parts (bytes_eq h.bot bot) (h.instance == instance) (found_passes (is_hand bot instance) hands h (hand_placed bot instance hands k h place at))).0

-- what was in hand goes back to the front of its queue
pub given_first : (v new : BrokerView) (bot : List ℕ) (instance k i : ℕ) → position (is_hand bot instance) v.hands ≡ Some k
    → ((h : Hand) → slice_get v.hands k ≡ Some h → position (is_queue (queue_name h.bot)) v.queues ≡ Some i)
    → ((h : Hand) (q : Queue) → slice_get v.hands k ≡ Some h → slice_get v.queues i ≡ Some q → new ≡ record v { queues = set v.queues i (record q { messages = h.message ∷ q.messages }); hands = remove v.hands k })
    → new ≡ given_back bot instance (hand_of bot instance v.hands) v
given_first v new bot instance k i place queue_place done =
    let (h, at, here) = item_placed (is_hand bot instance) v.hands k place in
    let there : position (is_queue (queue_name bot)) v.queues ≡ Some i = subst (λ (n : List ℕ). position (is_queue (queue_name n)) v.queues ≡ Some i) (its_bot bot instance v.hands k h place at) (queue_place h at) in
    let (q, at_queue, here) = item_placed (is_queue (queue_name bot)) v.queues i there in
    subst (λ (o : Option Hand). new ≡ given_back bot instance o v) (sym (hand_placed bot instance v.hands k h place at))
    (done h q at at_queue
    ∙ ap (λ (qs : List Queue). record v { queues = qs; hands = remove v.hands k }) (sym (added_placed (is_queue (queue_name bot)) (λ (x : Queue). record x { messages = h.message ∷ x.messages }) (record { name = queue_name bot; messages = h.message ∷ [] }) v.queues i q there here))
    ∙ ap (λ (hs : List Hand). record v { queues = put_first (queue_name bot) h.message v.queues; hands = hs }) (sym (without_placed (is_hand bot instance) v.hands k place)))

pub emptied_placed : (v new : BrokerView) (bot : List ℕ) (instance k : ℕ) → position (is_hand bot instance) v.hands ≡ Some k → new ≡ record v { hands = remove v.hands k } → new ≡ emptied bot instance v
emptied_placed v new bot instance k place done = done ∙ ap (λ (hs : List Hand). record v { hands = hs }) (sym (without_placed (is_hand bot instance) v.hands k place))

pub tried_placed : (v new : BrokerView) (bot : List ℕ) (instance k : ℕ) → position (is_hand bot instance) v.hands ≡ Some k
    → ((h : Hand) → slice_get v.hands k ≡ Some h → new ≡ record v { hands = set v.hands k (record h { tries = h.tries + 1 }) }) → new ≡ tried bot instance v
tried_placed v new bot instance k place done =
    let (h, at, here) = item_placed (is_hand bot instance) v.hands k place in
    done h at ∙ ap (λ (hs : List Hand). record v { hands = hs }) (sym (changed_placed (is_hand bot instance) (λ (x : Hand). record x { tries = x.tries + 1 }) v.hands k h place here))

-- ---- whole lists

pub same_fields : (v w : BrokerView) → v.queues ≡ w.queues → v.hands ≡ w.hands → v.spare ≡ w.spare → v.queue_room ≡ w.queue_room → v.hand_room ≡ w.hand_room → v.pushed ≡ w.pushed → v ≡ w
same_fields v w queues hands spare queue_room hand_room pushed =
    ap (λ qs. record v { queues = qs }) queues ∙ ap (λ hs. record v { queues = w.queues; hands = hs }) hands ∙ ap (λ n. record v { queues = w.queues; hands = w.hands; spare = n }) spare
    ∙ ap (λ n. record w { queue_room = n; hand_room = v.hand_room; pushed = v.pushed }) queue_room ∙ ap (λ n. record w { hand_room = n; pushed = v.pushed }) hand_room ∙ ap (λ n. record w { pushed = n }) pushed

-- the queues and the full hands of a state, taken in
pub all_taken : (messages named full : ℕ) (queues : List Queue) (hands : List Hand) (v w x : BrokerView) → messages ≡ total queues + full → named ≡ length queues → full ≡ length hands → v ≡ reserved messages named full (from_lists [] [])
    → w ≡ record v { queues = v.queues ++ queues; spare = v.spare - total queues; pushed = v.pushed + total queues } → x ≡ record w { hands = w.hands ++ hands; spare = w.spare - length hands; pushed = w.pushed + length hands } → x ≡ from_lists queues hands
all_taken messages named full queues hands v w x count names hand_count start first last =
    same_fields x (from_lists queues hands)
    (ap (λ (u : BrokerView). u.queues) last ∙ ap (λ (u : BrokerView). u.queues) first ∙ ap (λ (u : BrokerView). u.queues ++ queues) start)
    (ap (λ (u : BrokerView). u.hands) last ∙ ap (λ (u : BrokerView). u.hands ++ hands) first ∙ ap (λ (u : BrokerView). u.hands ++ hands) start)
    (omega (arith, ap (λ (u : BrokerView). u.spare) last, ap (λ (u : BrokerView). u.spare) first, ap (λ (u : BrokerView). u.spare) start, count, hand_count))
    (omega (arith, ap (λ (u : BrokerView). u.queue_room) last, ap (λ (u : BrokerView). u.queue_room) first, ap (λ (u : BrokerView). u.queue_room) start, names))
    (omega (arith, ap (λ (u : BrokerView). u.hand_room) last, ap (λ (u : BrokerView). u.hand_room) first, ap (λ (u : BrokerView). u.hand_room) start, hand_count))
    (omega (arith, ap (λ (u : BrokerView). u.pushed) last, ap (λ (u : BrokerView). u.pushed) first, ap (λ (u : BrokerView). u.pushed) start))

abbrev nameless : Queue
nameless = record { name = []; messages = [] }

abbrev pub pushed_at : ℕ → Msg → BrokerView → BrokerView
pushed_at i message v = sent_to (set v.queues i (with_last message (get_or v.queues i nameless))) v

-- messages are put at the end of the i-th queue, one after the other
abbrev pub pushed_all : ℕ → List Msg → BrokerView → BrokerView
pushed_all i [] v = v
pushed_all i (message ∷ messages) v = pushed_all i messages (pushed_at i message v)

pub pushed_is : (v new : BrokerView) (i : ℕ) (message : Msg) → i < length v.queues → ((q : Queue) → slice_get v.queues i ≡ Some q → new ≡ sent_to (set v.queues i (with_last message q)) v) → new ≡ pushed_at i message v
pushed_is v new i message inside done =
    let (q, at, here) = item_at v.queues i inside in
    done q at ∙ ap (λ (x : Queue). sent_to (set v.queues i (with_last message x)) v) (sym (get_or_from_slice_get v.queues i q nameless at))

pub pushed_length : (i : ℕ) (message : Msg) (v : BrokerView) → length (pushed_at i message v).queues ≡ length v.queues
pushed_length i message v = length-set v.queues i (with_last message (get_or v.queues i nameless))

last_read : (xs : List Queue) (y d : Queue) → get_or (xs ++ y ∷ []) (length xs) d ≡ y
last_read [] y d = refl
last_read (x ∷ xs) y d = last_read xs y d

-- all messages of a queue behind the others
pub pushed_whole : (old : BrokerView) (name : List ℕ) (done messages : List Msg) (spare pushed : ℕ)
    → pushed_all (length old.queues) messages (record old { queues = old.queues ++ record { name = name; messages = done } ∷ []; spare = spare; pushed = pushed })
    ≡ record old { queues = old.queues ++ record { name = name; messages = done ++ messages } ∷ []; spare = spare - length messages; pushed = pushed + length messages }
pushed_whole old name done [] spare pushed =
    let same_spare : spare ≡ spare - 0 = omega arith in
    let same_pushed : pushed ≡ pushed + 0 = omega arith in
    ap (λ (ms : List Msg). record old { queues = old.queues ++ record { name = name; messages = ms } ∷ []; spare = spare; pushed = pushed }) (sym (append-nil done))
    ∙ ap (λ n. record old { queues = old.queues ++ record { name = name; messages = done ++ [] } ∷ []; spare = n; pushed = pushed }) same_spare
    ∙ ap (λ n. record old { queues = old.queues ++ record { name = name; messages = done ++ [] } ∷ []; spare = spare - 0; pushed = n }) same_pushed
pushed_whole old name done (message ∷ messages) spare pushed =
    let was : Queue = record { name = name; messages = done } in
    let now : Queue = record { name = name; messages = done ++ message ∷ [] } in
    let behind : set (old.queues ++ was ∷ []) (length old.queues) (with_last message (get_or (old.queues ++ was ∷ []) (length old.queues) nameless)) ≡ old.queues ++ now ∷ [] =
    ap (λ (q : Queue). set (old.queues ++ was ∷ []) (length old.queues) (with_last message q)) (last_read old.queues was nameless) ∙ set-append_seam old.queues was [] now in
    let all = length (message ∷ messages) in
    let same_spare : spare - 1 - length messages ≡ spare - all = omega arith in
    let same_pushed : pushed + 1 + length messages ≡ pushed + all = omega arith in
    ap (λ (qs : List Queue). pushed_all (length old.queues) messages (record old { queues = qs; spare = spare - 1; pushed = pushed + 1 })) behind
    ∙ pushed_whole old name (done ++ message ∷ []) messages (spare - 1) (pushed + 1)
    ∙ ap (λ (ms : List Msg). record old { queues = old.queues ++ record { name = name; messages = ms } ∷ []; spare = spare - 1 - length messages; pushed = pushed + 1 + length messages }) (append_assoc done (message ∷ []) messages)
    ∙ ap (λ n. record old { queues = old.queues ++ record { name = name; messages = done ++ message ∷ messages } ∷ []; spare = n; pushed = pushed + 1 + length messages }) same_spare
    ∙ ap (λ n. record old { queues = old.queues ++ record { name = name; messages = done ++ message ∷ messages } ∷ []; spare = spare - all; pushed = n }) same_pushed
