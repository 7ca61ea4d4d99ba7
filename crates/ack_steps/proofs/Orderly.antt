-- What the core keeps of its state holds after each step.
use Rattle.std.proofs.Common.{◌≡◌, ◌+◌, ◌≤◌, ◌<◌, ◌&&◌, ℕ, suc, Bool, true, false, not, cond, List, [], ◌∷◌, length, map, filter, Option, Some, None, find, refl, sym, subst, arith, if◌then◌else◌}
use Rattle.std.specs.List.{AllByRecursion, list_any}
use Rattle.base_types.specs.declared.message.FaultNote.{FaultNote}
use Rattle.base_types.specs.declared.message.Moment.{Moment}
use Rattle.base_types.specs.declared.message.Msg.{Msg}
use Rattle.stored_types.specs.declared.message.Dump.{Dump}
use Rattle.step_code.specs.declared.base.Base.{Base}
use Rattle.step_code.specs.declared.cache.BotCache.{BotCache}
use Rattle.step_code.specs.declared.feed.Feed.{Feed}
use Rattle.step_code.specs.declared.rules.Facts.{Facts}
use Rattle.step_code.specs.declared.step.StepKind.{StepKind}
use Rattle.step_code.specs.declared.step.StepKind.TheVariants as kind
use Rattle.base_types.specs.Lists.{changed}
use Rattle.base_types.specs.Name.{queue_name}
use Rattle.base_types.proofs.Everywhere.{all-append, all_without, all_wider}
use Rattle.step_code.specs.After.{after, body_in_hand, cache_rule, instances_of, keeps_file, next_round, numbered, redone, renewed, taken_first, with_feeds}
use Rattle.step_code.specs.Rules.{Meaning, collects, is_collector}
use Rattle.step_code.specs.Sound.{last_number}
use Rattle.step_code.specs.State.{bots_in_force, bots_of, is_dump, is_feed, new_feed, waiting}
use Rattle.step_code.proofs.GivenBack.{kept-all_given_back}
use Rattle.dedup_cache.specs.Cache.{ArePast}
use Rattle.core_state.proofs.Past.{past_cached}
use Rattle.ack_steps.specs.Core.{IsOrderly}

-- numbers below one are below a greater one
abbrev AreBelow : ℕ → List Dump → Type 0
AreBelow n dumps = AllByRecursion (λ d. d.no < n) dumps

below_more : (n k : ℕ) (dumps : List Dump) → n ≤ k → AreBelow n dumps → AreBelow k dumps
below_more n k dumps more all = all_wider (λ (d : Dump). d.no < n) (λ d. d.no < k) dumps (λ d below. omega (arith, below, more)) all

numbered_below : (next dump : ℕ) (bot : List ℕ) (now : Moment) (items : List (List ℕ × FaultNote)) → AreBelow (dump + length items) (numbered next dump bot now items)
numbered_below next dump bot now [] = tt
numbered_below next dump bot now (item ∷ items) =
    let more : suc dump + length items ≡ dump + suc (length items) = omega arith in
    (omega arith, subst (λ n. AreBelow n (numbered (suc next) (suc dump) bot now items)) more (numbered_below (suc next) (suc dump) bot now items))

-- rounds up to one are up to a greater one
abbrev AreUpTo : ℕ → List Feed → Type 0
AreUpTo n feeds = AllByRecursion (λ f. f.round ≤ last_number + n) feeds

up_to_more : (n : ℕ) (feeds : List Feed) → AreUpTo n feeds → AreUpTo (n + 1) feeds
up_to_more n feeds all = all_wider (λ (f : Feed). f.round ≤ last_number + n) (λ f. f.round ≤ last_number + (n + 1)) feeds (λ f within. omega (arith, within)) all

-- a feed that changes by a round at most
one_more : (n : ℕ) (is : Feed → Bool) (change : Feed → Feed) (feeds : List Feed) → ((f : Feed) → (change f).round ≤ f.round + 1) → AreUpTo n feeds → AreUpTo (n + 1) (changed is change feeds)
one_more n is change [] most all = tt
one_more n is change (f ∷ feeds) most all = go (is f) (one_more n is change feeds most all.1)
  where
    go : (here : Bool) → AreUpTo (n + 1) (changed is change feeds) → AreUpTo (n + 1) (cond here (change f ∷ feeds) (f ∷ changed is change feeds))
    go true later = (omega (arith, most f, all.0), up_to_more n feeds all.1)
    go false later = (omega (arith, all.0), later)

renewed_one : (old new : List Facts) (n : ℕ) (f : Feed) → f.round ≤ last_number + n → (renewed old new f).round ≤ last_number + (n + 1)
renewed_one old new n f within = go (is_collector new f.bot && not (keeps_file old new f.bot))
  where
    go : (b : Bool) → (if b then next_round f else f).round ≤ last_number + (n + 1)
    go true = omega (arith, within)
    go false = omega (arith, within)

renewed_all : (old new : List Facts) (n : ℕ) (feeds : List Feed) → AreUpTo n feeds → AreUpTo (n + 1) (map (renewed old new) feeds)
renewed_all old new n [] all = tt
renewed_all old new n (f ∷ feeds) all = (renewed_one old new n f all.0, renewed_all old new n feeds all.1)

new_all : (n : ℕ) (bots : List Facts) → AreUpTo n (map new_feed bots)
new_all n [] = tt
new_all n (f ∷ bots) = (omega arith, new_all n bots)

-- the parts of a state that the core keeps in order
record Parts : Type 0 where
  dumps : List Dump
  next_dump : ℕ
  steps : ℕ
  feeds : List Feed
  latest : Moment
  caches : List BotCache

abbrev parts_of : Base → Parts
parts_of s = record { dumps = s.dumps; next_dump = s.next_dump; steps = s.steps; feeds = s.feeds; latest = s.latest; caches = s.caches }

record AreOrderly (p : Parts) : Type 0 where
  dumps : AreBelow p.next_dump p.dumps
  rounds : AreUpTo p.steps p.feeds
  marks : AllByRecursion (λ c. ArePast p.latest.0 c.marks) p.caches

-- marks that aren't after a moment aren't after a later one
marks_later : (before now : ℕ) (caches : List BotCache) → before ≤ now → AllByRecursion (λ c. ArePast before c.marks) caches → AllByRecursion (λ c. ArePast now c.marks) caches
marks_later before now caches later kept =
    all_wider (λ (c : BotCache). ArePast before c.marks) (λ c. ArePast now c.marks) caches
    (λ c past k d inside. omega (arith, past k d inside, later)) kept

orderly_by : (s t : Base) → t.steps ≡ s.steps + 1 → t.dumps ≡ s.dumps → t.next_dump ≡ s.next_dump → t.feeds ≡ s.feeds → t.caches ≡ s.caches → s.latest.0 ≤ t.latest.0 → IsOrderly s → IsOrderly t
orderly_by s t steps dumps next feeds caches later b = record {
  dumps = subst (λ n. AreBelow n t.dumps) (sym next) (subst (AreBelow s.next_dump) (sym dumps) b.dumps);
  rounds = subst (λ n. AreUpTo n t.feeds) (sym steps) (subst (AreUpTo (s.steps + 1)) (sym feeds) (up_to_more s.steps s.feeds b.rounds));
  marks = subst (AllByRecursion (λ (c : BotCache). ArePast t.latest.0 c.marks)) (sym caches) (marks_later s.latest.0 t.latest.0 s.caches later b.marks);
}

pub orderly_after : (m : Meaning) (s : Base) (now : Moment) (what : StepKind) → s.latest.0 ≤ now.0 → IsOrderly s → IsOrderly (after m s (record { moment = now; what = what }))
orderly_after m s now kind.Start later b = orderly_by s _ refl refl refl refl refl later b
orderly_after m s now (kind.Collect bot from upto piece) later b = record {
  dumps = b.dumps;
  rounds = one_more s.steps (is_feed bot) (λ f. record f { position = upto }) s.feeds (λ f. omega arith) b.rounds;
  marks = marks_later s.latest.0 now.0 s.caches later b.marks;
}
orderly_after m s now (kind.FeedEnd bot position) later b = record {
  dumps = b.dumps;
  rounds = one_more s.steps (is_feed bot) (λ f. record f { finished = true }) s.feeds (λ f. omega arith) b.rounds;
  marks = marks_later s.latest.0 now.0 s.caches later b.marks;
}
orderly_after m s now (kind.Take bot instance message) later b = go (waiting (queue_name bot) s)
  where
    go : (messages : List Msg) → IsOrderly (taken_first bot instance now messages (record s { steps = s.steps + 1; latest = now }))
    go [] = orderly_by s _ refl refl refl refl refl later b
    go (x ∷ xs) = orderly_by s _ refl refl refl refl refl later b
orderly_after m s now (kind.Done bot instance message bundle sends dumps key line) later b = record {
  dumps = all-append (λ (d : Dump). d.no < s.next_dump + length dumps) s.dumps (numbered (s.next_message + length sends) s.next_dump bot now dumps)
      (below_more s.next_dump (s.next_dump + length dumps) s.dumps (omega arith) b.dumps) (numbered_below (s.next_message + length sends) s.next_dump bot now dumps);
  rounds = up_to_more s.steps s.feeds b.rounds;
  marks = past_cached now (cache_rule m s bot) bot key s.caches (marks_later s.latest.0 now.0 s.caches later b.marks);
}
orderly_after m s now (kind.Retry bot instance message bundle fault) later b = orderly_by s _ refl refl refl refl refl later b
orderly_after m s now (kind.Fail bot instance message bundle fault queues halts) later b = record {
  dumps = all-append (λ (d : Dump). d.no < s.next_dump + 1) s.dumps
      (record { no = s.next_dump; bot = bot; message = record { no = message; body = body_in_hand bot instance s }; note = fault; moment = now } ∷ [])
      (below_more s.next_dump (s.next_dump + 1) s.dumps (omega arith) b.dumps) (omega arith, tt);
  rounds = up_to_more s.steps s.feeds b.rounds;
  marks = marks_later s.latest.0 now.0 s.caches later b.marks;
}
orderly_after m s now (kind.Reload bundle) later b =
    let old = bots_in_force m s in
    let new = bots_of m bundle in
    let instances = instances_of old in
    let feeds : AreUpTo (s.steps + 1) (with_feeds new (map (renewed old new) s.feeds)) =
    all-append (λ (f : Feed). f.round ≤ last_number + (s.steps + 1)) (map (renewed old new) s.feeds) _ (renewed_all old new s.steps s.feeds b.rounds)
    (new_all (s.steps + 1) (filter (λ f. collects f && not (list_any (is_feed f.bot) (map (renewed old new) s.feeds))) new)) in
    let kept = kept-all_given_back parts_of (λ t queues hands. refl) new instances _ in
    whole _ (subst AreOrderly (sym kept) (record { dumps = b.dumps; rounds = feeds; marks = marks_later s.latest.0 now.0 s.caches later b.marks }))
  where
    whole : (t : Base) → AreOrderly (parts_of t) → IsOrderly t
    whole t parts = record { dumps = parts.dumps; rounds = parts.rounds; marks = parts.marks }
orderly_after m s now (kind.Redo dump) later b = go (find (is_dump dump) s.dumps)
  where
    go : (found : Option Dump) → IsOrderly (redone dump found (record s { steps = s.steps + 1; latest = now }))
    go None = orderly_by s _ refl refl refl refl refl later b
    go (Some d) = record {
      dumps = all_without (λ (d : Dump). d.no < s.next_dump) (is_dump dump) s.dumps b.dumps;
      rounds = up_to_more s.steps s.feeds b.rounds;
      marks = marks_later s.latest.0 now.0 s.caches later b.marks;
    }
orderly_after m s now (kind.Round bot) later b =
    record { dumps = b.dumps; rounds = one_more s.steps (is_feed bot) next_round s.feeds (λ f. omega arith) b.rounds; marks = marks_later s.latest.0 now.0 s.caches later b.marks }
