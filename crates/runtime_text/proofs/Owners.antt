-- The bot whose queue it is.
use Rattle.std.proofs.Common.{◌≡◌, ◌≢◌, ℕ, zero, suc, ◌+◌, ◌<◌, List, [], ◌∷◌, ◌++◌, Bool, true, false, ◌&&◌, ◌||◌, not, length, drop, drop-cons, add-one, append_assoc, get_or, Some, None, Less, cond, bytes_eq, refl, sym, ap, subst, ◌∙◌, arith}
use Rattle.std.specs.FinMap.{is_sorted}
use Rattle.std.specs.FinMap.Entries.{below_all}
use Rattle.std.specs.List.{filter_map, flat_map, list_any, position_from}
use Rattle.std.specs.Prelude.{is_some}
use Rattle.std.specs.Ordering.{is_lt}
use Rattle.std.proofs.lemmas.Bool.{and_parts}
use Rattle.std.proofs.lemmas.Cmp.{nat_list_cmp_total, tied_itself}
use Rattle.std.proofs.lemmas.List.{append_cancel_right}
use Rattle.std.proofs.lemmas.List.Elements.{filter_map-append}
use Rattle.std.proofs.lemmas.Slice.Eq.{bytes_eq-Decides}
use Rattle.base_types.specs.Name.{queue_ending, queue_name}
use Rattle.base_types.specs.Place.{is_above_all, BelongsAt, StandsAt}
use Rattle.base_types.proofs.Places.{less_of, order}
use Rattle.runtime_text.specs.Reaches.{is_queue_of}
use Rattle.module_settings.specs.Modules.{is_collector}
use Rattle.runtime_text.specs.Runtime.{module_of, Entry, Route}
use Rattle.runtime_text.specs.Wires.{owner}

-- the test passes for none of these
pub data PassNone (p : Entry → Bool) : List Entry → Type 0 where
  none : PassNone p []
  one : (bot : Entry) (bots : List Entry) → p bot ≡ false → PassNone p bots → PassNone p (bot ∷ bots)

skips : (p : Entry → Bool) (front back : List Entry) (i : ℕ) → PassNone p front → position_from p i (front ++ back) ≡ position_from p (i + length front) back
skips p [] back i none = ap (λ n. position_from p n back) (omega arith)
skips p (bot ∷ front) back i (one _ _ fails more) =
    ap (λ b. cond b (Some i) (position_from p (i + 1) (front ++ back))) fails ∙ skips p front back (i + 1) more
    ∙ ap (λ n. position_from p n back) (omega arith)

nowhere : (p : Entry → Bool) (bots : List Entry) (i : ℕ) → PassNone p bots → position_from p i bots ≡ None
nowhere p [] i none = refl
nowhere p (bot ∷ bots) i (one _ _ fails more) = ap (λ b. cond b (Some i) (position_from p (i + 1) bots)) fails ∙ nowhere p bots (i + 1) more

-- ---- a queue and the bots of other names

unlike : (b : Bool) (x y : List ℕ) → bytes_eq x y ≡ b → (x ≡ y → ⊥) → b ≡ false
unlike true x y is other = absurd (other ((bytes_eq-Decides x y).0 is))
unlike false x y is other = refl

other_name : (queue name : List ℕ) (bot : Entry) → queue ≡ name ++ queue_ending → (bot.0 ≡ name → ⊥) → is_queue_of queue bot ≡ false
other_name queue name bot is other =
    ap (λ b. b && not (is_collector (module_of bot)))
    (unlike (bytes_eq queue (queue_name bot.0)) queue (queue_name bot.0) refl (λ same. other (append_cancel_right bot.0 name queue_ending (sym same ∙ is))))

no_name : (queue : List ℕ) (bot : Entry) → ((name : List ℕ) → queue ≢ name ++ queue_ending) → is_queue_of queue bot ≡ false
no_name queue bot no_ending =
    ap (λ b. b && not (is_collector (module_of bot))) (unlike (bytes_eq queue (queue_name bot.0)) queue (queue_name bot.0) refl (λ same. no_ending bot.0 same))

differ : (x y : List ℕ) → order x y ≡ Less → x ≡ y → ⊥
differ x y less same = clash (order x y) less (ap (λ k. order x k) (sym same) ∙ tied_itself nat_list_cmp_total x)
  where
    clash : (o : _) → o ≡ Less → o ≡ Rattle.std.proofs.Common.Equal → ⊥
    clash o is other = cc

below_differ : (queue name : List ℕ) (bots : List Entry) → queue ≡ name ++ queue_ending → is_above_all name bots ≡ true → PassNone (is_queue_of queue) bots
below_differ queue name [] is above = none
below_differ queue name (bot ∷ bots) is above =
    let parts = and_parts (is_lt (order bot.0 name)) (is_above_all name bots) above in
    one bot bots (other_name queue name bot is (differ bot.0 name (less_of _ parts.0))) (below_differ queue name bots is parts.1)

above_differ : (queue name : List ℕ) (bots : List Entry) → queue ≡ name ++ queue_ending → below_all order name bots ≡ true → PassNone (is_queue_of queue) bots
above_differ queue name [] is below = none
above_differ queue name (bot ∷ bots) is below =
    let parts = and_parts (is_lt (order name bot.0)) (below_all order name bots) below in
    one bot bots (other_name queue name bot is (λ same. differ name bot.0 (less_of _ parts.0) (sym same))) (above_differ queue name bots is parts.1)

-- behind the first of sorted bots stand greater names
behind : (front back : List Entry) (bot : Entry) → is_sorted order (front ++ bot ∷ back) ≡ true → below_all order bot.0 back ≡ true
behind [] back bot sorted = (and_parts (below_all order bot.0 back) (is_sorted order back) sorted).0
behind (e ∷ front) back bot sorted = behind front back bot (and_parts (below_all order e.0 (front ++ bot ∷ back)) (is_sorted order (front ++ bot ∷ back)) sorted).1

-- ---- the owner

pub no_ending_no_owner : (bots : List Entry) (queue : List ℕ) → ((name : List ℕ) → queue ≢ name ++ queue_ending) → None ≡ owner bots queue
unfolding owner
no_ending_no_owner bots queue no_ending = sym (nowhere (is_queue_of queue) bots 0 (all bots))
  where
    all : (bots : List Entry) → PassNone (is_queue_of queue) bots
    all [] = none
    all (bot ∷ bots) = one bot bots (no_name queue bot no_ending) (all bots)

pub absent_no_owner : (bots : List Entry) (queue name : List ℕ) (i : ℕ) → queue ≡ name ++ queue_ending → BelongsAt name bots i → None ≡ owner bots queue
unfolding owner
absent_no_owner bots queue name i is at =
    sym (ap (position_from (is_queue_of queue) 0) at.splits ∙ skips (is_queue_of queue) at.front at.back 0 (below_differ queue name at.front is at.above)
    ∙ nowhere (is_queue_of queue) at.back (0 + length at.front) (above_differ queue name at.back is at.below))

stands_at : (bots : List Entry) (queue name : List ℕ) (i : ℕ) (at : StandsAt name bots i) → queue ≡ name ++ queue_ending → owner bots queue ≡ position_from (is_queue_of queue) i ((name, at.value) ∷ at.back)
unfolding owner
stands_at bots queue name i at is =
    ap (position_from (is_queue_of queue) 0) at.splits ∙ skips (is_queue_of queue) at.front ((name, at.value) ∷ at.back) 0 (below_differ queue name at.front is at.above)
    ∙ ap (λ n. position_from (is_queue_of queue) n ((name, at.value) ∷ at.back)) (let place = at.place in omega (arith, place))

own_queue : (queue name : List ℕ) (bot : Entry) (b : Bool) → queue ≡ name ++ queue_ending → bot.0 ≡ name → is_collector (module_of bot) ≡ b → is_queue_of queue bot ≡ not b
own_queue queue name bot b is named collects =
    let same : bytes_eq queue (queue_name bot.0) ≡ true = (bytes_eq-Decides queue (queue_name bot.0)).1 (is ∙ ap (λ n. n ++ queue_ending) (sym named)) in
    ap (λ t. t && not (is_collector (module_of bot))) same ∙ ap not collects

-- the bot that stands at a place
stood : (front back : List Entry) (bot : Entry) (bots : List Entry) (i : ℕ) (d : Entry) → bots ≡ front ++ bot ∷ back → length front ≡ i → get_or bots i d ≡ bot
stood front back bot bots i d splits place = ap (λ es. get_or es i d) splits ∙ ap (λ n. get_or (front ++ bot ∷ back) n d) (sym place) ∙ last front
  where
    last : (front : List Entry) → get_or (front ++ bot ∷ back) (length front) d ≡ bot
    last [] = refl
    last (e ∷ front) = last front

pub collector_no_owner : (bots : List Entry) (queue name : List ℕ) (i : ℕ) (bot : Entry) → is_sorted order bots ≡ true → queue ≡ name ++ queue_ending → StandsAt name bots i → bot ≡ get_or bots i bot
    → is_collector (module_of bot) ≡ true → None ≡ owner bots queue
collector_no_owner bots queue name i bot sorted is at read collects =
    let found : bot ≡ (name, at.value) = read ∙ stood at.front at.back (name, at.value) bots i bot at.splits at.place in
    let fails : is_queue_of queue (name, at.value) ≡ false = own_queue queue name (name, at.value) true is refl (ap (λ (e : Entry). is_collector (module_of e)) (sym found) ∙ collects) in
    let greater = behind at.front at.back (name, at.value) (ap (is_sorted order) (sym at.splits) ∙ sorted) in
    sym (stands_at bots queue name i at is
    ∙ ap (λ b. cond b (Some i) (position_from (is_queue_of queue) (i + 1) at.back)) fails
    ∙ nowhere (is_queue_of queue) at.back (i + 1) (above_differ queue name at.back is greater))

pub found_owner : (bots : List Entry) (queue name : List ℕ) (i : ℕ) (bot : Entry) → queue ≡ name ++ queue_ending → StandsAt name bots i → bot ≡ get_or bots i bot → is_collector (module_of bot) ≡ false
    → Some i ≡ owner bots queue
found_owner bots queue name i bot is at read collects =
    let found : bot ≡ (name, at.value) = read ∙ stood at.front at.back (name, at.value) bots i bot at.splits at.place in
    let passes : is_queue_of queue (name, at.value) ≡ true = own_queue queue name (name, at.value) false is refl (ap (λ (e : Entry). is_collector (module_of e)) (sym found) ∙ collects) in
    sym (stands_at bots queue name i at is ∙ ap (λ b. cond b (Some i) (position_from (is_queue_of queue) (i + 1) at.back)) passes)

pub place_inside : (name : List ℕ) (bots : List Entry) (i : ℕ) → StandsAt name bots i → i < length bots
place_inside name bots i at = subst (λ n. i < n) (sym (ap length at.splits)) (inside at.front i at.place)
  where
    inside : (front : List Entry) (i : ℕ) → length front ≡ i → i < length (front ++ (name, at.value) ∷ at.back)
    inside [] i is = omega (arith, is)
    inside (e ∷ front) i is = let more = inside front (length front) refl in omega (arith, is, more)

-- ---- queues with an owner

known_from : (p : Entry → Bool) (bots : List Entry) (i : ℕ) → is_some (position_from p i bots) ≡ list_any p bots
known_from p [] i = refl
known_from p (bot ∷ bots) i = by_test (p bot) (known_from p bots (i + 1))
  where
    by_test : (b : Bool) → is_some (position_from p (i + 1) bots) ≡ list_any p bots → is_some (cond b (Some i) (position_from p (i + 1) bots)) ≡ (b || list_any p bots)
    by_test true more = refl
    by_test false more = more

pub known_owner : (bots : List Entry) (queue : List ℕ) → is_some (owner bots queue) ≡ list_any (is_queue_of queue) bots
unfolding owner
known_owner bots queue = known_from (is_queue_of queue) bots 0

-- ---- what a path leads to

pub more_wires : (bots : List Entry) (rs : List Route) (i : ℕ) (r : Route) (old new all : List ℕ) → i < length rs → r ≡ get_or rs i r
    → old ++ filter_map (owner bots) (flat_map (λ (q : Route). q.1) (drop i rs)) ≡ all → new ≡ old ++ filter_map (owner bots) r.1
    → new ++ filter_map (owner bots) (flat_map (λ (q : Route). q.1) (drop (i + 1) rs)) ≡ all
more_wires bots rs i r old new all within read so_far pushed =
    let rest = flat_map (λ (q : Route). q.1) (drop (i + 1) rs) in
    let step : flat_map (λ (q : Route). q.1) (drop i rs) ≡ r.1 ++ rest =
    ap (flat_map (λ (q : Route). q.1)) (drop-cons rs i r within ∙ ap (λ (q : Route). q ∷ drop (suc i) rs) (sym read) ∙ ap (λ n. r ∷ drop n rs) (sym (add-one i))) in
    ap (λ (t : List ℕ). t ++ filter_map (owner bots) rest) pushed ∙ append_assoc old (filter_map (owner bots) r.1) (filter_map (owner bots) rest)
    ∙ ap (λ (t : List ℕ). old ++ t) (sym (ap (filter_map (owner bots)) step ∙ filter_map-append (owner bots) r.1 rest)) ∙ so_far

found_by : (p : Entry → Bool) (bot : Entry) (bots : List Entry) (n i : ℕ) (b : Bool) → p bot ≡ b → cond b (Some n) (position_from p (n + 1) bots) ≡ Some i
    → (position_from p (n + 1) bots ≡ Some i → (k : ℕ) × (i ≡ n + 1 + k) × (k < length bots) × ((d : Entry) → p (get_or bots k d) ≡ true))
    → (k : ℕ) × (i ≡ n + k) × (k < length (bot ∷ bots)) × ((d : Entry) → p (get_or (bot ∷ bots) k d) ≡ true)
found_by p bot bots n i true passes is later = let same : n ≡ i = cc in (zero, omega (arith, same), omega arith, λ d. passes)
found_by p bot bots n i false fails is later = let (k, at, within, passes) = later is in (suc k, omega (arith, at), omega (arith, within), passes)

found_from : (p : Entry → Bool) (bots : List Entry) (n i : ℕ) → position_from p n bots ≡ Some i → (k : ℕ) × (i ≡ n + k) × (k < length bots) × ((d : Entry) → p (get_or bots k d) ≡ true)
found_from p [] n i is = absurd (cc)
found_from p (bot ∷ bots) n i is = found_by p bot bots n i (p bot) refl is (found_from p bots (n + 1) i)

-- the owner stands there, and the queue is its own
pub owner_stands : (bots : List Entry) (queue : List ℕ) (i : ℕ) → Some i ≡ owner bots queue → (i < length bots) × ((d : Entry) → is_queue_of queue (get_or bots i d) ≡ true)
unfolding owner
owner_stands bots queue i is =
    let (k, at, within, passes) = found_from (is_queue_of queue) bots 0 i (sym is) in
    let same : k ≡ i = omega (arith, at) in
    (subst (λ n. n < length bots) same within, λ d. ap (λ n. is_queue_of queue (get_or bots n d)) (sym same) ∙ passes d)

pub owner_inside : (bots : List Entry) (queue : List ℕ) (i : ℕ) → Some i ≡ owner bots queue → i < length bots
owner_inside bots queue i is = (owner_stands bots queue i is).0
