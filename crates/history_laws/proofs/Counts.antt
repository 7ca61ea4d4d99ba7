-- How often a message's number stands in queues, hands and dumps.
use Rattle.std.proofs.Common.{◌≡◌, ℕ, zero, suc, ◌+◌, Bool, true, false, cond, eqb, List, [], ◌∷◌, ◌++◌, length, map, drop, count_by, Option, Some, refl, ◌∙◌, ap, arith, find, option_map, unwrap_or}
use Rattle.std.proofs.lemmas.List.{map-append}
use Rattle.std.proofs.lemmas.List.Sums.{sum_by-append}
use Rattle.base_types.specs.declared.message.Msg.{Msg}
use Rattle.base_types.specs.declared.message.FaultNote.{FaultNote}
use Rattle.base_types.specs.declared.message.Moment.{Moment}
use Rattle.stored_types.specs.declared.queue.Queue.{Queue}
use Rattle.base_types.specs.Lists.{changed, without}
use Rattle.stored_types.specs.Queue.{queued, is_queue, put, put_all, put_first}
use Rattle.step_code.specs.After.{numbered}
use Rattle.step_code.specs.Places.{waiting_numbers}

-- how often n stands in a list
abbrev pub times : ℕ → List ℕ → ℕ
times n numbers = count_by (λ other. eqb other n) numbers

pub times-append : (n : ℕ) (a b : List ℕ) → times n (a ++ b) ≡ times n a + times n b
times-append n a b = sum_by-append (λ other. cond (eqb other n) 1 0) a b

pub times-cons : (n x : ℕ) (b : List ℕ) → times n (x ∷ b) ≡ times n (x ∷ []) + times n b
times-cons n x b = times-append n (x ∷ []) b

-- so many numbers from this one on
abbrev pub numbers_from : ℕ → ℕ → List ℕ
numbers_from next zero = []
numbers_from next (suc k) = next ∷ numbers_from (suc next) k

pub numbers_from-append : (next j k : ℕ) → numbers_from next (j + k) ≡ numbers_from next j ++ numbers_from (next + j) k
numbers_from-append next zero k =
    let none : 0 + k ≡ k = omega arith in
    let here : next ≡ next + 0 = omega arith in
    ap (numbers_from next) none ∙ ap (λ n. numbers_from n k) here
numbers_from-append next (suc j) k =
    let one : suc j + k ≡ suc (j + k) = omega arith in
    let there : suc next + j ≡ next + suc j = omega arith in
    ap (numbers_from next) one ∙ ap (λ (l : List ℕ). next ∷ l) (numbers_from-append (suc next) j k) ∙ ap (λ n. next ∷ numbers_from (suc next) j ++ numbers_from n k) there

abbrev waits : ℕ → List Queue → ℕ
waits n queues = times n (waiting_numbers queues)

waits-cons : (n : ℕ) (q : Queue) (queues : List Queue) → waits n (q ∷ queues) ≡ times n (map (λ message. message.no) q.messages) + waits n queues
waits-cons n q queues = times-append n (map (λ message. message.no) q.messages) (waiting_numbers queues)

abbrev longer : Msg → Queue → Queue
longer m q = record q { messages = q.messages ++ m ∷ [] }

longer_counts : (n : ℕ) (m : Msg) (q : Queue) → times n (map (λ message. message.no) (longer m q).messages) ≡ times n (map (λ message. message.no) q.messages) + times n (m.no ∷ [])
longer_counts n m q = ap (times n) (map-append (λ message. message.no) q.messages (m ∷ [])) ∙ times-append n (map (λ message. message.no) q.messages) (m.no ∷ [])

put_here : (here : Bool) (n : ℕ) (m : Msg) (q : Queue) (queues after : List Queue) → waits n after ≡ waits n queues + times n (m.no ∷ [])
    → waits n (cond here (longer m q ∷ queues) (q ∷ after)) ≡ waits n (q ∷ queues) + times n (m.no ∷ [])
put_here true n m q queues after later = omega (arith, waits-cons n (longer m q) queues, waits-cons n q queues, longer_counts n m q)
put_here false n m q queues after later = omega (arith, waits-cons n q after, waits-cons n q queues, later)

-- a message that is put on a queue stands once more
pub waits-put : (n : ℕ) (name : List ℕ) (m : Msg) (queues : List Queue) → waits n (put name m queues) ≡ waits n queues + times n (m.no ∷ [])
waits-put n name m [] = omega (arith, times-append n (m.no ∷ []) [])
waits-put n name m (q ∷ queues) = put_here (is_queue name q) n m q queues (put name m queues) (waits-put n name m queues)

-- messages that are put on queues get the next numbers
pub waits-put_all : (n next : ℕ) (sends : List (List ℕ × List ℕ)) (queues : List Queue) → waits n (put_all next sends queues) ≡ waits n queues + times n (numbers_from next (length sends))
waits-put_all n next [] queues = omega arith
waits-put_all n next (s ∷ sends) queues =
    let m : Msg = record { no = next; body = s.1 } in
    omega (arith, waits-put_all n (suc next) sends (put s.0 m queues), waits-put n s.0 m queues, times-cons n next (numbers_from (suc next) (length sends)))

-- so do those that are put aside
pub numbers-numbered : (next dump : ℕ) (bot : List ℕ) (now : Moment) (items : List (List ℕ × FaultNote)) → map (λ d. d.message.no) (numbered next dump bot now items) ≡ numbers_from next (length items)
numbers-numbered next dump bot now [] = refl
numbers-numbered next dump bot now (item ∷ items) = ap (λ l. next ∷ l) (numbers-numbered (suc next) (suc dump) bot now items)

abbrev shorter : Queue → Queue
shorter q = record q { messages = drop 1 q.messages }

shorter_counts : (n : ℕ) (m : Msg) (others messages : List Msg) → messages ≡ m ∷ others → times n (map (λ message. message.no) messages) ≡ times n (map (λ message. message.no) (drop 1 messages)) + times n (m.no ∷ [])
shorter_counts n m others messages is = rw is (omega (arith, times-cons n m.no (map (λ message. message.no) others)))

taken_here : (here : Bool) (n : ℕ) (name : List ℕ) (m : Msg) (others : List Msg) (q : Queue) (queues after : List Queue)
    → (queued name queues ≡ m ∷ others → waits n queues ≡ waits n after + times n (m.no ∷ []))
    → unwrap_or (option_map (λ q. q.messages) (cond here (Some q) (find (is_queue name) queues))) [] ≡ m ∷ others
    → waits n (q ∷ queues) ≡ waits n (cond here (shorter q ∷ queues) (q ∷ after)) + times n (m.no ∷ [])
taken_here true n name m others q queues after later is = omega (arith, waits-cons n q queues, waits-cons n (shorter q) queues, shorter_counts n m others q.messages is)
taken_here false n name m others q queues after later is = omega (arith, waits-cons n q queues, waits-cons n q after, later is)

-- a message that is taken stands once less in the queues
pub waits-taken : (n : ℕ) (name : List ℕ) (m : Msg) (others : List Msg) (queues : List Queue) → queued name queues ≡ m ∷ others
    → waits n queues ≡ waits n (changed (is_queue name) shorter queues) + times n (m.no ∷ [])
waits-taken n name m others [] is = absurd (cc)
waits-taken n name m others (q ∷ queues) is = taken_here (is_queue name q) n name m others q queues (changed (is_queue name) shorter queues) (waits-taken n name m others queues) is

leaves_here : {A : Type 0} (here : Bool) (n : ℕ) (f : A → ℕ) (x y : A) (xs after : List A) (found : Option A)
    → (found ≡ Some x → times n (map f xs) ≡ times n (map f after) + times n (f x ∷ []))
    → cond here (Some y) found ≡ Some x
    → times n (map f (y ∷ xs)) ≡ times n (map f (cond here xs (y ∷ after))) + times n (f x ∷ [])
leaves_here true n f x y xs after found later is = omega (arith, times-cons n (f y) (map f xs), ap (λ o. times n (unwrap_or (option_map f o) 0 ∷ [])) is)
leaves_here false n f x y xs after found later is = omega (arith, times-cons n (f y) (map f xs), times-cons n (f y) (map f after), later is)

-- the first entry that passes stands once less when it leaves
pub times-without : {A : Type 0} (n : ℕ) (f : A → ℕ) (is : A → Bool) (x : A) (xs : List A) → find is xs ≡ Some x
    → times n (map f xs) ≡ times n (map f (without is xs)) + times n (f x ∷ [])
times-without n f is x [] found = absurd (cc)
times-without n f is x (y ∷ xs) found = leaves_here (is y) n f x y xs (without is xs) (find is xs) (times-without n f is x xs) found

first_here : (here : Bool) (n : ℕ) (m : Msg) (q : Queue) (queues after : List Queue) → waits n after ≡ waits n queues + times n (m.no ∷ [])
    → waits n (cond here (record q { messages = m ∷ q.messages } ∷ queues) (q ∷ after)) ≡ waits n (q ∷ queues) + times n (m.no ∷ [])
first_here true n m q queues after later =
    omega (arith, waits-cons n (record q { messages = m ∷ q.messages }) queues, waits-cons n q queues, times-cons n m.no (map (λ message. message.no) q.messages))
first_here false n m q queues after later = omega (arith, waits-cons n q after, waits-cons n q queues, later)

-- a message that is put in front of a queue stands once more
pub waits-put_first : (n : ℕ) (name : List ℕ) (m : Msg) (queues : List Queue) → waits n (put_first name m queues) ≡ waits n queues + times n (m.no ∷ [])
waits-put_first n name m [] = omega (arith, times-append n (m.no ∷ []) [])
waits-put_first n name m (q ∷ queues) = first_here (is_queue name q) n m q queues (put_first name m queues) (waits-put_first n name m queues)

changed_maps : {A B : Type 0} (here : Bool) (f : A → B) (change : A → A) (x : A) (xs ys : List A) → f (change x) ≡ f x → map f ys ≡ map f xs
    → map f (cond here (change x ∷ xs) (x ∷ ys)) ≡ map f (x ∷ xs)
changed_maps true f change x xs ys same later = ap (λ y. y ∷ map f xs) same
changed_maps false f change x xs ys same later = ap (λ l. f x ∷ l) later

-- a change that keeps a part keeps it everywhere
pub map-changed : {A B : Type 0} (f : A → B) (is : A → Bool) (change : A → A) (xs : List A) → ((x : A) → f (change x) ≡ f x) → map f (changed is change xs) ≡ map f xs
map-changed f is change [] same = refl
map-changed f is change (x ∷ xs) same = changed_maps (is x) f change x xs (changed is change xs) (same x) (map-changed f is change xs same)
