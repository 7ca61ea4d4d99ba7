-- Queues: their code, and putting messages on them.
use Rattle.std.specs.Prelude.{ℕ, suc, Bool, List, [], ◌∷◌, ◌++◌, length, find, option_map, sum_by, unwrap_or}
use Rattle.std.specs.Str.{bytes_eq}
use Rattle.base_types.specs.declared.message.Msg.{Msg}
use Rattle.stored_types.specs.declared.queue.Queue.{Queue}
use Rattle.stored_types.specs.Code.{list, name, list_at, queue_at, IsList}
use Rattle.stored_types.specs.Coded.{Reader, both, made}
use Rattle.base_types.specs.Lists.{changed_or_added}
use Rattle.stored_types.specs.Message.{message, message_at, IsMessage}
use Rattle.base_types.specs.Name.{IsQueueName}

abbrev pub queue : Queue → List ℕ
queue q = name q.name ++ list message q.messages

pub record IsQueue (q : Queue) : Type 0 where
  pub name : IsQueueName q.name
  pub messages : IsList IsMessage q.messages

unfoldable pub waiting_at : Reader Queue
waiting_at bytes = made (λ (name, messages). record { name = name; messages = messages }) (both queue_at (list_at message_at)) bytes

abbrev pub is_queue : List ℕ → Queue → Bool
is_queue name q = bytes_eq q.name name

-- the messages in the queue of this name, the oldest first
abbrev pub queued : List ℕ → List Queue → List Msg
queued name queues = unwrap_or (option_map (λ q. q.messages) (find (is_queue name) queues)) []

-- the lengths of the bodies in a queue together
abbrev pub bytes_in : Queue → ℕ
bytes_in q = sum_by (λ message. length message.body) q.messages

-- a message at the end of the queue of this name; a queue that isn't there is made at the end
abbrev pub put : List ℕ → Msg → List Queue → List Queue
put name message queues = changed_or_added (is_queue name) (λ q. record q { messages = q.messages ++ message ∷ [] }) (record { name = name; messages = message ∷ [] }) queues

-- a message at the front of the queue of this name; a queue that isn't there is made at the end
abbrev pub put_first : List ℕ → Msg → List Queue → List Queue
put_first name message queues = changed_or_added (is_queue name) (λ q. record q { messages = message ∷ q.messages }) (record { name = name; messages = message ∷ [] }) queues

-- bodies on queues, one after the other, as messages with the numbers from this one on
abbrev pub put_all : ℕ → List (List ℕ × List ℕ) → List Queue → List Queue
put_all next [] queues = queues
put_all next (send ∷ sends) queues = put_all (suc next) sends (put send.0 (record { no = next; body = send.1 }) queues)
