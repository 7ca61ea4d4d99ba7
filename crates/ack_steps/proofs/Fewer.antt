-- Fewer messages stand in a sound state than numbers were given, and a step keeps it so of those that were sent.
use Rattle.std.proofs.Common.{◌≡◌, ◌<◌, ◌≤◌, ◌+◌, ◌∙◌, ◌||◌, ℕ, suc, Bool, true, false, eqb, List, [], ◌∷◌, ◌++◌, length, map, Option, Some, None, Result, Ok, Err, refl, sym, ap, subst, arith}
use Rattle.std.specs.List.{AllByRecursion, list_any}
use Rattle.std.specs.Result.{OnErr, OnOk}
use Rattle.std.proofs.lemmas.Bool.{eqb-true}
use Rattle.std.proofs.lemmas.List.{length-append, length-map}
use Rattle.std.proofs.lemmas.List.Sums.{sum_by-cons}
use Rattle.std.proofs.lemmas.Map.Keys.{IsDistinct-cons}
use Rattle.std.proofs.lemmas.Map.Steps.{length-le_from_distinct_below}
use Rattle.base_types.proofs.Everywhere.{all_wider}
use Rattle.stored_types.specs.declared.message.Dump.{Dump}
use Rattle.stored_types.specs.declared.hand.Hand.{Hand}
use Rattle.stored_types.specs.declared.queue.Queue.{Queue}
use Rattle.step_code.specs.declared.base.Base.{Base}
use Rattle.step_code.specs.After.{redone}
use Rattle.step_code.specs.Places.{standing, waiting_numbers}
use Rattle.step_code.specs.Rules.{Meaning}
use Rattle.step_code.specs.Sound.{IsSound}
use Rattle.base_types.specs.declared.message.Msg.{Msg}
use Rattle.queue_broker.specs.Broker.{BrokerView, given_back, total}
use Rattle.core_state.specs.declared.state.State.{State}
use Rattle.core_state.specs.State.{AreSendsNumbered, state_of}

zero_apart : (n : ℕ) → 1 ≤ n → eqb 0 n ≡ false
zero_apart n some = either (eqb 0 n) refl
  where
    either : (b : Bool) → eqb 0 n ≡ b → eqb 0 n ≡ false
    either true same = absurd (omega (arith, some, eqb-true 0 n same))
    either false other = other

one_below : (n : ℕ) (numbers : List ℕ) → AllByRecursion (λ k. k < n) numbers → (q : ℕ) → list_any (eqb q) numbers ≡ true → q < n
one_below n [] all q found = absurd (cc)
one_below n (k ∷ numbers) all q found = either (eqb q k) refl found (one_below n numbers all.1 q)
  where
    either : (b : Bool) → eqb q k ≡ b → (b || list_any (eqb q) numbers) ≡ true → (list_any (eqb q) numbers ≡ true → q < n) → q < n
    either true same found others = subst (λ i. i < n) (sym (eqb-true q k same)) all.0
    either false other found others = others found

waiting_length : (queues : List Queue) → length (waiting_numbers queues) ≡ total queues
waiting_length [] = refl
waiting_length (q ∷ queues) = omega (
  arith,
  waiting_length queues,
  length-append (map (λ (message : Msg). message.no) q.messages) (waiting_numbers queues),
  length-map q.messages (λ (message : Msg). message.no),
  sum_by-cons (λ (x : Queue). length x.messages) q queues,
)

pub few_messages : (m : Meaning) (b : Base) → IsSound m b → total b.queues + length b.hands + 1 ≤ b.next_message
few_messages m b sound =
    let state = sound.state in
    let apart = IsDistinct-cons eqb 0 (standing b) (all_wider (λ n. (1 ≤ n) × (n < b.next_message)) (λ n. eqb 0 n ≡ false) (standing b) (λ n both. zero_apart n both.0) state.numbered) state.messages in
    let below : AllByRecursion (λ n. n < b.next_message) (0 ∷ standing b) = (omega (arith, state.next_message), all_wider (λ n. (1 ≤ n) × (n < b.next_message)) (λ n. n < b.next_message) (standing b) (λ n both. both.1) state.numbered) in
    let most : suc (length (standing b)) ≤ b.next_message = length-le_from_distinct_below (0 ∷ standing b) b.next_message apart (one_below b.next_message (0 ∷ standing b) below) in
    let in_hands = map (λ (h : Hand). h.message.no) b.hands in
    let in_dumps = map (λ (d : Dump). d.message.no) b.dumps in
    let waiting = waiting_numbers b.queues in
    let parts : length (standing b) ≡ length waiting + length in_hands + length in_dumps = length-append (waiting ++ in_hands) in_dumps ∙ ap (λ n. n + length in_dumps) (length-append waiting in_hands) in
    omega (arith, most, parts, length-map b.hands (λ (h : Hand). h.message.no), waiting_length b.queues)

-- what is given back is not sent
pub given_back_sends_none : (bot : List ℕ) (instance : ℕ) (held : Option Hand) (v : BrokerView) → (given_back bot instance held v).pushed ≡ v.pushed
given_back_sends_none bot instance None v = refl
given_back_sends_none bot instance (Some h) v = refl

-- a dump that is redone takes no number
pub redone_number : (dump : ℕ) (found : Option Dump) (b : Base) → (redone dump found b).next_message ≡ b.next_message
redone_number dump None b = refl
redone_number dump (Some d) b = refl

module _ {E : Type 0} (r : Result (Unit {0}) E) (old new : State) where
  -- what a call sends that numbers all
  pub sent_ok : AreSendsNumbered old new → OnOk r (new.broker.pushed + old.next_message ≤ old.broker.pushed + new.next_message + 1)
  sent_ok numbered = either r
    where
      either : (a : Result (Unit {0}) E) → OnOk a (new.broker.pushed + old.next_message ≤ old.broker.pushed + new.next_message + 1)
      either (Ok x) = omega (arith, numbered)
      either (Err e) = tt

  pub sent_err : AreSendsNumbered old new → OnErr r (state_of new ≡ state_of old) → OnErr r (new.broker.pushed ≤ old.broker.pushed)
  sent_err numbered same = either r same
    where
      either : (a : Result (Unit {0}) E) → OnErr a (state_of new ≡ state_of old) → OnErr a (new.broker.pushed ≤ old.broker.pushed)
      either (Ok x) same = tt
      either (Err e) same = omega (arith, numbered, ap (λ (b : Base). b.next_message) same)

  -- and what one sends that redoes a dump
  pub redone_ok : (dump : ℕ) (found : Option Dump) → OnOk r (state_of new ≡ redone dump found (state_of old)) → OnOk r (new.broker.pushed ≤ old.broker.pushed + 1) → OnOk r (new.broker.pushed + old.next_message ≤ old.broker.pushed + new.next_message + 1)
  redone_ok dump found done most = either r done most
    where
      either : (a : Result (Unit {0}) E) → OnOk a (state_of new ≡ redone dump found (state_of old)) → OnOk a (new.broker.pushed ≤ old.broker.pushed + 1) → OnOk a (new.broker.pushed + old.next_message ≤ old.broker.pushed + new.next_message + 1)
      either (Ok x) done most = omega (arith, most, ap (λ (b : Base). b.next_message) done, redone_number dump found (state_of old))
      either (Err e) done most = tt

  pub redone_err : OnErr r (new.broker.pushed ≡ old.broker.pushed) → OnErr r (new.broker.pushed ≤ old.broker.pushed)
  redone_err same = either r same
    where
      either : (a : Result (Unit {0}) E) → OnErr a (new.broker.pushed ≡ old.broker.pushed) → OnErr a (new.broker.pushed ≤ old.broker.pushed)
      either (Ok x) same = tt
      either (Err e) same = omega (arith, same)
