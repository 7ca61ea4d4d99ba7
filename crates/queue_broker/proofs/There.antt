-- Which queues are there.
use Rattle.std.proofs.Common.{◌≡◌, ◌∙◌, ◌<◌, ◌⊎◌, ◌+◌, ◌↔◌, is_some, Option, inl, inr, ℕ, zero, suc, Bool, true, false, cond, ◌==◌, List, [], ◌∷◌, ◌++◌, get_or, length, Some, None, find, position, refl, sym, subst, arith}
use Rattle.std.proofs.lemmas.Bool.{and_parts}
use Rattle.std.specs.Str.{bytes_eq}
use Rattle.std.proofs.lemmas.Slice.Eq.{bytes_eq-Decides}
use Rattle.stored_types.specs.declared.hand.Hand.{Hand}
use Rattle.stored_types.specs.declared.queue.Queue.{Queue}
use Rattle.stored_types.specs.Hand.{is_hand}
use Rattle.base_types.specs.Lists.{changed, changed_or_added, without}
use Rattle.base_types.specs.Name.{queue_name}
use Rattle.stored_types.specs.Queue.{is_queue}
use Rattle.base_types.proofs.Everywhere.{all-append, all_changed, all_found, all_wider, all_without}
use Rattle.base_types.proofs.Found.{IsNowhere, first_at, nowhere}
use Rattle.queue_broker.specs.Broker.{IsThere, HaveQueues}
use Rattle.queue_broker.proofs.Changes.{found_passes}

there_at : (name : List ℕ) (queues : List Queue) (i : ℕ) → i < length queues → ((d : Queue) → is_queue name (get_or queues i d) ≡ true) → IsThere name queues
there_at name [] i inside passes = absurd (omega (arith, inside))
there_at name (q ∷ queues) zero inside passes = inl (sym ((bytes_eq-Decides q.name name).0 (passes q)))
there_at name (q ∷ queues) (suc i) inside passes = inr (there_at name queues i (omega (arith, inside)) passes)

pub placed_there : (name : List ℕ) (queues : List Queue) (i : ℕ) → position (is_queue name) queues ≡ Some i → IsThere name queues
placed_there name queues i place =
    let first = first_at (is_queue name) queues i place in
    there_at name queues i first.inside first.passes

not_there : (name : List ℕ) (queues : List Queue) → IsNowhere (is_queue name) queues → IsThere name queues → ⊥
not_there name [] none there = there
not_there name (q ∷ queues) none (inl same) = let here = (bytes_eq-Decides q.name name).1 (sym same) in let fails = none.fails q 0 (omega arith) in absurd (cc)
not_there name (q ∷ queues) none (inr later) = not_there name queues (record { fails = λ d k inside. none.fails d (suc k) (omega (arith, inside)) }) later

pub missing_not_there : (name : List ℕ) (queues : List Queue) → position (is_queue name) queues ≡ None → IsThere name queues → ⊥
missing_not_there name queues none = not_there name queues (nowhere (is_queue name) queues none)

-- the search for a queue tells whether it is there
pub there_tested : (name : List ℕ) (queues : List Queue) → (is_some (position (is_queue name) queues) ≡ true) ↔ IsThere name queues
there_tested name queues = either (position (is_queue name) queues) refl
  where
    either : (place : Option ℕ) → position (is_queue name) queues ≡ place → (is_some place ≡ true) ↔ IsThere name queues
    either None none = (λ e. absurd (cc), λ there. absurd (missing_not_there name queues none there))
    either (Some i) place = (λ _. placed_there name queues i place, λ _. refl)

-- a change that keeps names keeps the queue there
module _ (other : List ℕ) (is : Queue → Bool) (change : Queue → Queue) (keeps : (q : Queue) → (change q).name ≡ q.name) where
  changed_here : (b : Bool) (q : Queue) (queues others : List Queue) → (other ≡ q.name) ⊎ IsThere other queues → (IsThere other queues → IsThere other others)
      → IsThere other (cond b (change q ∷ queues) (q ∷ others))
  changed_here true q queues others (inl same) later = inl (same ∙ sym (keeps q))
  changed_here true q queues others (inr there) later = inr there
  changed_here false q queues others (inl same) later = inl same
  changed_here false q queues others (inr there) later = inr (later there)

  pub there_changed : (queues : List Queue) → IsThere other queues → IsThere other (changed is change queues)
  there_changed [] there = there
  there_changed (q ∷ queues) there = changed_here (is q) q queues (changed is change queues) there (there_changed queues)

  pub there_added : (new : Queue) (queues : List Queue) → IsThere other queues → IsThere other (changed_or_added is change new queues)
  there_added new [] there = absurd there
  there_added new (q ∷ queues) there = changed_here (is q) q queues (changed_or_added is change new queues) there (there_added new queues)

pub there_pushed : (other : List ℕ) (queues : List Queue) (new : Queue) → IsThere other queues → IsThere other (queues ++ new ∷ [])
there_pushed other [] new there = absurd there
there_pushed other (q ∷ queues) new (inl same) = inl same
there_pushed other (q ∷ queues) new (inr later) = inr (there_pushed other queues new later)

-- the queues of full hands stay there
pub kept_queues : (old new : List Queue) (hands : List Hand) → ((name : List ℕ) → IsThere name old → IsThere name new) → HaveQueues old hands → HaveQueues new hands
kept_queues old new hands wider all = all_wider (λ h. IsThere (queue_name h.bot) old) (λ h. IsThere (queue_name h.bot) new) hands (λ h there. wider (queue_name h.bot) there) all

pub one_more : (queues : List Queue) (hands : List Hand) (new : Hand) → HaveQueues queues hands → IsThere (queue_name new.bot) queues → HaveQueues queues (hands ++ new ∷ [])
one_more queues hands new all there = all-append (λ h. IsThere (queue_name h.bot) queues) hands (new ∷ []) all (there, tt)

-- the queue of what an instance holds is there
pub hand_there : (queues : List Queue) (hands : List Hand) (bot : List ℕ) (instance : ℕ) (h : Hand) → HaveQueues queues hands → find (is_hand bot instance) hands ≡ Some h → IsThere (queue_name bot) queues
hand_there queues hands bot instance h all found =
    let there = all_found (λ h. IsThere (queue_name h.bot) queues) (is_hand bot instance) hands h all found in
    let same = (bytes_eq-Decides h.bot bot).0 (and_parts (bytes_eq h.bot bot) (h.instance == instance) (found_passes (is_hand bot instance) hands h found)).0 in
    subst (λ name. IsThere (queue_name name) queues) same there

pub one_fewer : (queues : List Queue) (hands : List Hand) (bot : List ℕ) (instance : ℕ) → HaveQueues queues hands → HaveQueues queues (without (is_hand bot instance) hands)
one_fewer queues hands bot instance all = all_without (λ h. IsThere (queue_name h.bot) queues) (is_hand bot instance) hands all

pub one_tried : (queues : List Queue) (hands : List Hand) (bot : List ℕ) (instance : ℕ) → HaveQueues queues hands → HaveQueues queues (changed (is_hand bot instance) (λ h. record h { tries = h.tries + 1 }) hands)
one_tried queues hands bot instance all = all_changed (λ h. IsThere (queue_name h.bot) queues) (is_hand bot instance) (λ h. record h { tries = h.tries + 1 }) hands (λ h there. there) all
