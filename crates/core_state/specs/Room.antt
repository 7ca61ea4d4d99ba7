-- Room for what comes, and what holds of the numbers of dumps.
use Rattle.std.specs.Prelude.{◌≡◌, ◌≤◌, ◌<◌, ℕ, Bool, not, List, [], ◌∷◌, ◌++◌, length, count_by}
use Rattle.std.specs.List.{AllByRecursion, list_any}
use Rattle.stored_types.specs.declared.message.Dump.{Dump}
use Rattle.stored_types.specs.declared.queue.Queue.{Queue}
use Rattle.stored_types.specs.Queue.{is_queue, put_all}
use Rattle.queue_broker.specs.Broker.{BrokerView}
use Rattle.step_code.specs.declared.base.Base.{Base}

-- a queue of this name is there
abbrev pub has_queue : List ℕ → List Queue → Bool
has_queue name queues = list_any (is_queue name) queues

-- how many of these sends go to a queue that isn't there; several to one such queue count each
abbrev pub absent_queues : List Queue → List (List ℕ × List ℕ) → ℕ
absent_queues queues sends = count_by (λ send. not (has_queue send.0 queues)) sends

-- these bodies can be sent without memory, whatever numbers they get
pub record HasRoom (sends : List (List ℕ × List ℕ)) (broker : BrokerView) : Type 0 where
  pub nodes : length sends ≤ broker.spare
  pub places : (n : ℕ) → length (put_all n sends broker.queues) ≤ broker.queue_room

-- the queues and the hands are the same, and no message was sent
pub record HasSameLists (old new : BrokerView) : Type 0 where
  pub queues : new.queues ≡ old.queues
  pub hands : new.hands ≡ old.hands
  pub pushed : new.pushed ≡ old.pushed

-- each of these dumps has a number above those of the dumps in front of it
abbrev pub AreAbove : List Dump → List Dump → Type 0
AreAbove front [] = Unit {0}
AreAbove front (dump ∷ dumps) = AllByRecursion (λ d. d.no < dump.no) front × AreAbove (front ++ dump ∷ []) dumps

-- the next dump's number is above those of the dumps that are there
abbrev pub HaveDumpsBelow : Base → Type 0
HaveDumpsBelow s = AllByRecursion (λ d. d.no < s.next_dump) s.dumps
