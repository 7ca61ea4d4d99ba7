-- Which queues sends make, and that room for those whose queue isn't there is enough.
use Rattle.std.proofs.Common.{◌≡◌, ◌+◌, ◌≤◌, ◌<◌, ◌||◌, ◌⊎◌, ◌↔◌, inl, inr, ℕ, suc, Bool, true, false, true≢false, not, cond, List, [], ◌∷◌, ◌++◌, length, refl, sym, ap, subst, arith}
use Rattle.std.proofs.lemmas.List.Sums.{sum_by-cons}
use Rattle.std.proofs.lemmas.Slice.Eq.{bytes_eq-Decides}
use Rattle.std.specs.Str.{bytes_eq}
use Rattle.base_types.specs.declared.message.Msg.{Msg}
use Rattle.stored_types.specs.declared.queue.Queue.{Queue}
use Rattle.stored_types.specs.Queue.{is_queue, put, put_all}
use Rattle.queue_broker.specs.Broker.{BrokerView, IsThere, reserved}
use Rattle.core_state.specs.Room.{absent_queues, has_queue, HasRoom}

or_later : (a b : Bool) → b ≡ true → (a || b) ≡ true
or_later true b holds = refl
or_later false b holds = holds

or_wider : (a b c : Bool) → (a || b) ≡ true → (b ≡ true → c ≡ true) → (a || c) ≡ true
or_wider true b c holds wider = refl
or_wider false b c holds wider = wider holds

there : (name : List ℕ) (queues : List Queue) → has_queue name queues ≡ true → IsThere name queues
there name [] has = absurd (true≢false (sym has))
there name (q ∷ queues) has = go (bytes_eq q.name name) refl has (there name queues)
  where
    go : (here : Bool) → bytes_eq q.name name ≡ here → (here || has_queue name queues) ≡ true → (has_queue name queues ≡ true → IsThere name queues) → IsThere name (q ∷ queues)
    go true same has later = inl (sym ((bytes_eq-Decides q.name name).0 same))
    go false other has later = inr (later has)

listed : (name : List ℕ) (queues : List Queue) → IsThere name queues → has_queue name queues ≡ true
listed name [] is = absurd is
listed name (q ∷ queues) (inl same) = ap (λ b. b || has_queue name queues) ((bytes_eq-Decides q.name name).1 (sym same))
listed name (q ∷ queues) (inr later) = or_later (bytes_eq q.name name) (has_queue name queues) (listed name queues later)

alike : (a b : Bool) → (a ≡ true → b ≡ true) → (b ≡ true → a ≡ true) → a ≡ b
alike true b on back = sym (on refl)
alike false true on back = back refl
alike false false on back = refl

-- the answer that holds exactly where the queue is there
pub has_queue_is : (answer : Bool) (name : List ℕ) (queues : List Queue) → (answer ≡ true) ↔ IsThere name queues → answer ≡ has_queue name queues
has_queue_is answer name queues tested = alike answer (has_queue name queues) (λ yes. listed name queues (tested.0 yes)) (λ yes. tested.1 (there name queues yes))

-- a message makes a queue where it isn't there
length-put : (name : List ℕ) (m : Msg) (queues : List Queue) → length (put name m queues) ≡ length queues + cond (has_queue name queues) 0 1
length-put name m [] = omega arith
length-put name m (q ∷ queues) = go (is_queue name q) (length-put name m queues)
  where
    go : (here : Bool) → length (put name m queues) ≡ length queues + cond (has_queue name queues) 0 1
        → length (cond here (record q { messages = q.messages ++ m ∷ [] } ∷ queues) (q ∷ put name m queues)) ≡ length (q ∷ queues) + cond (here || has_queue name queues) 0 1
    go true later = omega arith
    go false later = omega (arith, later)

-- a queue that is there stays
has-put : (other name : List ℕ) (m : Msg) (queues : List Queue) → has_queue other queues ≡ true → has_queue other (put name m queues) ≡ true
has-put other name m [] has = absurd (true≢false (sym has))
has-put other name m (q ∷ queues) has = go (is_queue name q) (has-put other name m queues)
  where
    go : (here : Bool) → (has_queue other queues ≡ true → has_queue other (put name m queues) ≡ true)
        → has_queue other (cond here (record q { messages = q.messages ++ m ∷ [] } ∷ queues) (q ∷ put name m queues)) ≡ true
    go true later = has
    go false later = or_wider (is_queue other q) (has_queue other queues) (has_queue other (put name m queues)) has later

-- one where the send's queue isn't there
abbrev made : List Queue → List ℕ × List ℕ → ℕ
made queues send = cond (not (has_queue send.0 queues)) 1 0

made_is : (has : Bool) → ◌≡◌ {A = ℕ} (cond (not has) 1 0) (cond has 0 1)
made_is true = refl
made_is false = refl

made_less : (old new : Bool) → (old ≡ true → new ≡ true) → cond (not new) 1 0 ≤ cond (not old) 1 0
made_less true true stays = omega arith
made_less true false stays = absurd (true≢false (sym (stays refl)))
made_less false true stays = omega arith
made_less false false stays = omega arith

-- behind a message no more of the sends make queues
absent-put : (name : List ℕ) (m : Msg) (queues : List Queue) (sends : List (List ℕ × List ℕ)) → absent_queues (put name m queues) sends ≤ absent_queues queues sends
absent-put name m queues [] = omega arith
absent-put name m queues (s ∷ sends) =
    omega (
      arith,
      sum_by-cons (made (put name m queues)) s sends,
      sum_by-cons (made queues) s sends,
      made_less (has_queue s.0 queues) (has_queue s.0 (put name m queues)) (has-put s.0 name m queues),
      absent-put name m queues sends,
    )

-- sends make at most as many queues as there are sends whose queue isn't there
length-put_all : (next : ℕ) (sends : List (List ℕ × List ℕ)) (queues : List Queue) → length (put_all next sends queues) ≤ length queues + absent_queues queues sends
length-put_all next [] queues = omega arith
length-put_all next (s ∷ sends) queues =
    let m : Msg = record { no = next; body = s.1 } in
    omega (
      arith,
      length-put_all (suc next) sends (put s.0 m queues),
      length-put s.0 m queues,
      made_is (has_queue s.0 queues),
      absent-put s.0 m queues sends,
      sum_by-cons (made queues) s sends,
    )

-- no queue goes
le-put_all : (next : ℕ) (sends : List (List ℕ × List ℕ)) (queues : List Queue) → length queues ≤ length (put_all next sends queues)
le-put_all next [] queues = omega arith
le-put_all next (s ∷ sends) queues =
    let m : Msg = record { no = next; body = s.1 } in
    omega (arith, le-put_all (suc next) sends (put s.0 m queues), length-put s.0 m queues)

-- where all sends find places, the first one does
pub first_placed : (next room : ℕ) (s : List ℕ × List ℕ) (sends : List (List ℕ × List ℕ)) (queues : List Queue) → length (put_all next (s ∷ sends) queues) ≤ room → IsThere s.0 queues ⊎ (length queues < room)
first_placed next room s sends queues places = go (has_queue s.0 queues) refl (length-put s.0 m queues) (le-put_all (suc next) sends (put s.0 m queues))
  where
    m : Msg
    m = record { no = next; body = s.1 }

    go : (has : Bool) → has_queue s.0 queues ≡ has → length (put s.0 m queues) ≡ length queues + cond has 0 1 → length (put s.0 m queues) ≤ length (put_all (suc next) sends (put s.0 m queues))
        → IsThere s.0 queues ⊎ (length queues < room)
    go true has count more = inl (there s.0 queues has)
    go false has count more = inr (omega (arith, count, more, places))

-- room for as many messages, and for so many queues, is room for the sends
pub room_made : (sends : List (List ℕ × List ℕ)) (queues : ℕ) (old new : BrokerView) → queues ≡ absent_queues old.queues sends → new ≡ reserved (length sends) queues 0 old → HasRoom sends new
room_made sends queues old new absent is =
    subst (HasRoom sends) (sym is) (record {
      nodes = omega arith;
      places = λ n. omega (arith, absent, length-put_all n sends old.queues);
    })
