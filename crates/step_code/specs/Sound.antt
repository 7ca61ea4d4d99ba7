-- Which states a store may hold.
use Rattle.std.specs.Prelude.{◌≡◌, ◌≤◌, ◌<◌, ◌+◌, ◌^◌, ℕ, Bool, true, eqb, List, [], ◌∷◌, ◌++◌, Some, map, filter, flat_map, length}
use Rattle.std.specs.List.{AllByRecursion, IsDistinct}
use Rattle.std.specs.Str.{bytes_eq}
use Rattle.std.specs.List.Sorted.{IsSorted, IsStrictlySortedBy}
use Rattle.std.specs.Ordering.{nat_cmp}
use Rattle.step_code.specs.declared.base.Base.{Base}
use Rattle.step_code.specs.declared.cache.BotCache.{BotCache}
use Rattle.stored_types.specs.declared.hand.Hand.{Hand}
use Rattle.step_code.specs.declared.rules.Facts.{Facts}
use Rattle.step_code.specs.Code.{code_of_base, first_format}
use Rattle.base_types.specs.Lists.{IsIn}
use Rattle.step_code.specs.Places.{standing}
use Rattle.step_code.specs.Rules.{Meaning, collects, last_moment, writes}
use Rattle.stored_types.specs.Hand.{is_hand}
use Rattle.step_code.specs.State.{is_instance}
use Rattle.base_types.specs.Name.{queue_name}

-- the longest code of a state
abbrev pub longest_base : ℕ
longest_base = 268_435_456

-- no number goes past this one
abbrev pub last_number : ℕ
last_number = 2 ^ 62 + 1

-- no message is tried again more often
abbrev pub most_tries : ℕ
most_tries = 100

-- the hand of one instance
abbrev pub is_same_hand : Hand → Hand → Bool
is_same_hand a b = is_hand a.bot a.instance b

pub record IsSoundHand (bots : List Facts) (queues : List (List ℕ)) (h : Hand) : Type 0 where
  pub live : is_instance bots h.bot h.instance ≡ true
  pub queue : IsIn (queue_name h.bot) queues
  pub tries : h.tries ≤ most_tries

-- no key twice, and moments that don't fall and aren't above the latest
pub record IsSoundCache (latest : ℕ) (c : BotCache) : Type 0 where
  pub keys : IsDistinct bytes_eq (map (λ mark. mark.key) c.marks)
  pub order : IsSorted nat_cmp (map (λ mark. mark.moment.0) c.marks)
  pub past : AllByRecursion (λ mark. mark.moment.0 ≤ latest) c.marks

-- each number of 64 bits in a state
abbrev pub numbers_of : Base → List ℕ
numbers_of b =
    b.steps ∷ b.next_message ∷ b.next_dump ∷ b.discarded ∷ b.latest.0 ∷ b.bundle_no ∷ standing b
    ++ map (λ h. h.since.0) b.hands
    ++ flat_map (λ c. map (λ mark. mark.moment.0) c.marks) b.caches
    ++ flat_map (λ d. d.no ∷ d.moment.0 ∷ []) b.dumps
    ++ flat_map (λ o. o.sealed_bytes ∷ o.sealed_lines ∷ []) b.outs
    ++ flat_map (λ f. f.round ∷ f.position ∷ []) b.feeds

-- a state that a store may hold, whatever the length of its code
pub record IsSoundState (m : Meaning) (b : Base) : Type 0 where
  pub bots : List Facts
  pub loads : m.facts b.bundle ≡ Some bots
  pub queues : IsDistinct bytes_eq (map (λ q. q.name) b.queues)
  pub caches : IsDistinct bytes_eq (map (λ c. c.bot) b.caches)
  pub outs : IsDistinct bytes_eq (map (λ o. o.bot) b.outs)
  pub feeds : IsDistinct bytes_eq (map (λ f. f.bot) b.feeds)
  pub halted : IsDistinct bytes_eq b.halted
  pub hands : IsDistinct is_same_hand b.hands
  pub each_hand : AllByRecursion (IsSoundHand bots (map (λ q. q.name) b.queues)) b.hands
  pub each_cache : AllByRecursion (IsSoundCache b.latest.0) b.caches
  pub next_message : 1 ≤ b.next_message
  pub next_dump : 1 ≤ b.next_dump
  pub messages : IsDistinct eqb (standing b)
  pub numbered : AllByRecursion (λ number. (1 ≤ number) × (number < b.next_message)) (standing b)
  pub dumps : IsStrictlySortedBy nat_cmp (map (λ d. d.no) b.dumps)
  pub each_dump : AllByRecursion (λ d. (1 ≤ d.no) × (d.no < b.next_dump)) b.dumps
  pub latest : b.latest.0 ≤ last_moment
  pub collectors : AllByRecursion (λ f. IsIn f.bot (map (λ feed. feed.bot) b.feeds)) (filter collects bots)
  pub outputs : AllByRecursion (λ f. IsIn f.bot (map (λ o. o.bot) b.outs)) (filter writes bots)
  pub numbers : AllByRecursion (λ n. n ≤ last_number) (numbers_of b)

-- a state that the core takes in: its code has a length that a store may hold
pub record IsSound (m : Meaning) (b : Base) : Type 0 where
  pub state : IsSoundState m b
  pub short : length (code_of_base first_format b) ≤ longest_base
