-- What is reached from a bot, by places and by bots.
use Rattle.std.proofs.Common.{◌≡◌, inl, inr, ℕ, zero, suc, ◌<◌, List, [], ◌∷◌, ◌++◌, Bool, true, false, ◌||◌, not, length, map, get_or, Option, Some, None, bytes_eq, refl, sym, ap, subst, ◌∙◌, arith}
use Rattle.std.specs.FinMap.{is_sorted}
use Rattle.std.specs.FinMap.Entries.{below_all}
use Rattle.std.specs.List.{cons_option, filter_map, list_any, slice_get}
use Rattle.std.specs.Ordering.{is_lt}
use Rattle.std.proofs.lemmas.Bool.{and_parts, and_from}
use Rattle.std.proofs.lemmas.List.{length-map}
use Rattle.std.proofs.lemmas.Slice.Eq.{bytes_eq-Decides}
use Rattle.base_types.specs.Lists.{IsIn}
use Rattle.base_types.specs.Name.{queue_name}
use Rattle.base_types.specs.Place.{is_above_all, StandsAt}
use Rattle.base_types.proofs.Places.{order}
use Rattle.runtime_text.proofs.Owners.{found_owner, owner_inside, owner_stands}
use Rattle.runtime_text.proofs.Reached.{all_reached, joined, reached}
use Rattle.runtime_text.specs.Reaches.{is_queue_of, reaches, sends, targets, At-once, Reaches, Through}
use Rattle.module_settings.specs.Modules.{is_collector}
use Rattle.runtime_text.specs.Runtime.{module_of, Entry}
use Rattle.runtime_text.specs.Wires.{graph_of, owner, wires_at, wires_of, AreInside, First, Leads, Next}

-- ---- bots and their places

same_entry : (a b : Entry) → Some a ≡ Some b → a ≡ b
same_entry a b e = cc

pub record IsSplit (bots : List Entry) (i : ℕ) (bot : Entry) : Type 0 where
  pub front : List Entry
  pub back : List Entry
  pub splits : bots ≡ front ++ bot ∷ back
  pub place : length front ≡ i

split_at : (bots : List Entry) (i : ℕ) (bot : Entry) → slice_get bots i ≡ Some bot → IsSplit bots i bot
split_at [] i bot is = absurd (cc)
split_at (e ∷ bots) zero bot is = record { front = []; back = bots; splits = ap (λ (x : Entry). x ∷ bots) (same_entry e bot is); place = refl }
split_at (e ∷ bots) (suc i) bot is =
    let rest = split_at bots i bot is in
    record { front = e ∷ rest.front; back = rest.back; splits = ap (λ (t : List Entry). e ∷ t) rest.splits; place = ap suc rest.place }

read_at : (bots : List Entry) (i : ℕ) (bot d : Entry) → slice_get bots i ≡ Some bot → get_or bots i d ≡ bot
read_at [] i bot d is = absurd (cc)
read_at (e ∷ bots) zero bot d is = same_entry e bot is
read_at (e ∷ bots) (suc i) bot d is = read_at bots i bot d is

entry_at : (bots : List Entry) (i : ℕ) → i < length bots → (bot : Entry) × (slice_get bots i ≡ Some bot)
entry_at [] i within = absurd (omega arith)
entry_at (e ∷ bots) zero within = (e, refl)
entry_at (e ∷ bots) (suc i) within = entry_at bots i (omega arith)

pub get_inside : (bots : List Entry) (i : ℕ) (bot : Entry) → slice_get bots i ≡ Some bot → i < length bots
get_inside [] i bot is = absurd (cc)
get_inside (e ∷ bots) zero bot is = omega arith
get_inside (e ∷ bots) (suc i) bot is = omega (arith, get_inside bots i bot is)

in_bots : (bots : List Entry) (i : ℕ) (bot : Entry) → slice_get bots i ≡ Some bot → IsIn bot bots
in_bots [] i bot is = absurd (cc)
in_bots (e ∷ bots) zero bot is = inl (sym (same_entry e bot is))
in_bots (e ∷ bots) (suc i) bot is = inr (in_bots bots i bot is)

place_in : (bots : List Entry) (bot : Entry) → IsIn bot bots → (i : ℕ) × (slice_get bots i ≡ Some bot)
place_in [] bot there = absurd there
place_in (e ∷ bots) bot (inl same) = (zero, ap Some (sym same))
place_in (e ∷ bots) bot (inr later) = let (i, is) = place_in bots bot later in (suc i, is)

mid_above : (x : List ℕ) (front back : List Entry) (bot : Entry) → below_all order x (front ++ bot ∷ back) ≡ true → is_lt (order x bot.0) ≡ true
mid_above x [] back bot below = (and_parts (is_lt (order x bot.0)) (below_all order x back) below).0
mid_above x (e ∷ front) back bot below = mid_above x front back bot (and_parts (is_lt (order x e.0)) (below_all order x (front ++ bot ∷ back)) below).1

front_above : (front back : List Entry) (bot : Entry) → is_sorted order (front ++ bot ∷ back) ≡ true → is_above_all bot.0 front ≡ true
front_above [] back bot sorted = refl
front_above (e ∷ front) back bot sorted =
    let parts = and_parts (below_all order e.0 (front ++ bot ∷ back)) (is_sorted order (front ++ bot ∷ back)) sorted in
    and_from (is_lt (order e.0 bot.0)) (is_above_all bot.0 front) (mid_above e.0 front back bot parts.0) (front_above front back bot parts.1)

-- ---- wires

mapped_at : (f : Entry → List ℕ) (bots : List Entry) (i : ℕ) (bot : Entry) → slice_get bots i ≡ Some bot → get_or (map f bots) i [] ≡ f bot
mapped_at f [] i bot is = absurd (cc)
mapped_at f (e ∷ bots) zero bot is = ap f (same_entry e bot is)
mapped_at f (e ∷ bots) (suc i) bot is = mapped_at f bots i bot is

mapped_from : (f : Entry → List ℕ) (bots : List Entry) (i to : ℕ) → IsIn to (get_or (map f bots) i []) → (bot : Entry) × IsIn to (f bot)
mapped_from f [] i to sent = absurd sent
mapped_from f (e ∷ bots) zero to sent = (e, sent)
mapped_from f (e ∷ bots) (suc i) to sent = mapped_from f bots i to sent

not_false : (b : Bool) → not b ≡ true → b ≡ false
not_false true is = absurd (cc)
not_false false is = refl

later_any : (a b : Bool) → b ≡ true → (a || b) ≡ true
later_any true b is = refl
later_any false b is = is

module _ (bots : List Entry) where
  inside_by : (o : Option ℕ) (queue : List ℕ) (rest : List ℕ) (to : ℕ) → o ≡ owner bots queue → (IsIn to rest → to < length bots) → IsIn to (cons_option o rest) → to < length bots
  inside_by None queue rest to is later sent = later sent
  inside_by (Some i) queue rest to is later (inl same) = subst (λ n. n < length bots) (sym same) (owner_inside bots queue i is)
  inside_by (Some i) queue rest to is later (inr sent) = later sent

  owners_inside : (queues : List (List ℕ)) (to : ℕ) → IsIn to (filter_map (owner bots) queues) → to < length bots
  owners_inside [] to sent = absurd sent
  owners_inside (queue ∷ queues) to sent = inside_by (owner bots queue) queue (filter_map (owner bots) queues) to refl (owners_inside queues to) sent

  pub graph_inside : AreInside (graph_of bots)
  graph_inside = record {
    inside = λ i to sent.
        let (bot, there) = mapped_from (wires_of bots) bots i to sent in
        subst (λ n. to < n) (sym (length-map bots (wires_of bots))) (owners_inside (targets bot) to there);
  }

  sends_by : (o : Option ℕ) (queue : List ℕ) (queues : List (List ℕ)) (to : ℕ) (bot : Entry) → o ≡ owner bots queue → slice_get bots to ≡ Some bot
      → (IsIn to (filter_map (owner bots) queues) → list_any (λ q. is_queue_of q bot) queues ≡ true)
      → IsIn to (cons_option o (filter_map (owner bots) queues)) → list_any (λ q. is_queue_of q bot) (queue ∷ queues) ≡ true
  sends_by None queue queues to bot is at later sent = later_any (is_queue_of queue bot) (list_any (λ q. is_queue_of q bot) queues) (later sent)
  sends_by (Some i) queue queues to bot is at later (inr sent) = later_any (is_queue_of queue bot) (list_any (λ q. is_queue_of q bot) queues) (later sent)
  sends_by (Some i) queue queues to bot is at later (inl same) =
      let here : is_queue_of queue bot ≡ true =
      ap (is_queue_of queue) (sym (ap (λ n. get_or bots n bot) (sym same) ∙ read_at bots to bot bot at)) ∙ (owner_stands bots queue i is).1 bot in
      ap (λ b. b || list_any (λ q. is_queue_of q bot) queues) here

  any_sent : (queues : List (List ℕ)) (to : ℕ) (bot : Entry) → slice_get bots to ≡ Some bot → IsIn to (filter_map (owner bots) queues) → list_any (λ q. is_queue_of q bot) queues ≡ true
  any_sent [] to bot at sent = absurd sent
  any_sent (queue ∷ queues) to bot at sent = sends_by (owner bots queue) queue queues to bot refl at (any_sent queues to bot at) sent

  sends_at : (from bot : Entry) (i to : ℕ) → slice_get bots i ≡ Some from → slice_get bots to ≡ Some bot → IsIn to (wires_at (graph_of bots) i) → sends from bot ≡ true
  unfolding sends
  sends_at from bot i to from_at at sent = any_sent (targets from) to bot at (subst (λ (ws : List ℕ). IsIn to ws) (mapped_at (wires_of bots) bots i from from_at) sent)

  module _ (sorted : is_sorted order bots ≡ true) where
    owner_is : (queue : List ℕ) (i : ℕ) (bot : Entry) → slice_get bots i ≡ Some bot → is_queue_of queue bot ≡ true → Some i ≡ owner bots queue
    owner_is queue i bot at own =
        let parts = and_parts (bytes_eq queue (queue_name bot.0)) (not (is_collector (module_of bot))) own in
        let split = split_at bots i bot at in
        let stands : StandsAt bot.0 bots i = record {
          front = split.front;
          value = bot.1;
          back = split.back;
          splits = split.splits;
          place = split.place;
          above = front_above split.front split.back bot (ap (is_sorted order) (sym split.splits) ∙ sorted);
        } in
        found_owner bots queue bot.0 i bot ((bytes_eq-Decides queue (queue_name bot.0)).0 parts.0) stands (sym (read_at bots i bot bot at)) (not_false (is_collector (module_of bot)) parts.1)

    sent_by : (b : Bool) (queue : List ℕ) (queues : List (List ℕ)) (i : ℕ) (bot : Entry) → is_queue_of queue bot ≡ b → slice_get bots i ≡ Some bot
        → (list_any (λ q. is_queue_of q bot) queues ≡ true → IsIn i (filter_map (owner bots) queues))
        → (b || list_any (λ q. is_queue_of q bot) queues) ≡ true → IsIn i (filter_map (owner bots) (queue ∷ queues))
    sent_by true queue queues i bot own at later any = subst (λ o. IsIn i (cons_option o (filter_map (owner bots) queues))) (owner_is queue i bot at own) (inl refl)
    sent_by false queue queues i bot own at later any = behind (owner bots queue) (later any)
      where
        behind : (o : Option ℕ) → IsIn i (filter_map (owner bots) queues) → IsIn i (cons_option o (filter_map (owner bots) queues))
        behind None there = there
        behind (Some j) there = inr there

    any_in : (queues : List (List ℕ)) (i : ℕ) (bot : Entry) → slice_get bots i ≡ Some bot → list_any (λ q. is_queue_of q bot) queues ≡ true → IsIn i (filter_map (owner bots) queues)
    any_in [] i bot at any = absurd (cc)
    any_in (queue ∷ queues) i bot at any = sent_by (is_queue_of queue bot) queue queues i bot refl at (any_in queues i bot at) any

    sent_in : (from bot : Entry) (i to : ℕ) → slice_get bots i ≡ Some from → slice_get bots to ≡ Some bot → sends from bot ≡ true → IsIn to (wires_at (graph_of bots) i)
    unfolding sends
    sent_in from bot i to from_at at is = subst (λ (ws : List ℕ). IsIn to ws) (sym (mapped_at (wires_of bots) bots i from from_at)) (any_in (targets from) to bot at is)

    -- ---- ways

    prepended : (i m j : ℕ) → IsIn m (wires_at (graph_of bots) i) → Leads (graph_of bots) m j → Leads (graph_of bots) i j
    prepended i m j sent (First _ next) = Next m j (First m sent) next
    prepended i m j sent (Next from _ before next) = Next from j (prepended i m from sent before) next

    leads : (to from : Entry) (j i : ℕ) → slice_get bots i ≡ Some from → slice_get bots j ≡ Some to → Reaches bots to from → Leads (graph_of bots) i j
    leads to from j i from_at to_at (At-once _ is) = First j (sent_in from to i j from_at to_at is)
    leads to from j i from_at to_at (Through _ next there is later) =
        let (m, at) = place_in bots next there in
        prepended i m j (sent_in from next i m from_at at is) (leads to next j m at to_at later)

    led_inside : (i j : ℕ) → Leads (graph_of bots) i j → j < length bots
    led_inside i j (First _ sent) = subst (λ n. j < n) (length-map bots (wires_of bots)) (graph_inside.inside i j sent)
    led_inside i j (Next from _ before sent) = subst (λ n. j < n) (length-map bots (wires_of bots)) (graph_inside.inside from j sent)

    led_reaches : (from : Entry) (i : ℕ) (to : Entry) (j : ℕ) → slice_get bots i ≡ Some from → slice_get bots j ≡ Some to → Leads (graph_of bots) i j → Reaches bots to from
    led_reaches from i to j from_at to_at (First _ sent) = At-once from (sends_at from to i j from_at to_at sent)
    led_reaches from i to j from_at to_at (Next mid _ before sent) =
        let (bot, at) = entry_at bots mid (led_inside i mid before) in
        joined bots bot to from (in_bots bots mid bot at) (led_reaches from i bot mid from_at at before) (At-once bot (sends_at bot to mid j at to_at sent))

    answered : (b c : Bool) → (b ≡ true → c ≡ true) → (c ≡ true → b ≡ true) → b ≡ c
    answered true c there back = sym (there refl)
    answered false true there back = back refl
    answered false false there back = refl

    -- what comes back to a place is reached from its bot
    pub back_is : (back : Bool) (i : ℕ) (bot : Entry) → slice_get bots i ≡ Some bot → (back ≡ true → Leads (graph_of bots) i i) × (Leads (graph_of bots) i i → back ≡ true) → back ≡ reaches bots bot bot
    back_is back i bot at both =
        answered back (reaches bots bot bot)
        (λ h. all_reached bots bot bot (led_reaches bot i bot i at at (both.0 h)))
        (λ h. both.1 (leads bot bot i i at at (reached bots bot bot h)))
